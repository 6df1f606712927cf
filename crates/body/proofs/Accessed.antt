-- Which places an item accesses: copies on its rank of the regions that it names, and the slot of
-- its transfer.
use Prim.Native.Nat.{ℕ, suc, ◌-◌, ◌<◌}
use mathlib.Core.Path.{◌≡◌, refl, sym, ◌∙◌, ap, subst}
use mathlib.Core.Bool.{Bool, true, false, ◌&&◌, or-false, and-false}
use mathlib.Core.Logic.{◌⊎◌, inl, inr, ⊎_elim}
use mathlib.Core.List.{List, [], ◌∷◌, map}
use native.Mathlib.Omega.{arith}
use borrow.Author.Tests.{eqb-true, eq-eqb, ne_eqb}
use lib.Dec.{eqb}
use Rattle.finite.specs.Lists.{mem}
use Rattle.finite.proofs.Tests.{and_intro, and-true, not_both, test_ext}
use Rattle.finite.proofs.Members.{mem_cases, mem_head, mem_map, mem_map_from, mem_one}
use Rattle.unroll.specs.System.{Accesses, reading, writing, Writes}
use Rattle.unroll.specs.Edges.{Edge, rule, reuse}
use Rattle.body.specs.Body.{Body, Fits}
use Rattle.body.specs.Items.{Item, task, send, receive, kind_of, item_count, item_at, item_rank}
use Rattle.body.specs.Places.{slot, copy, reads_of, writes_of, system}
use Rattle.body.specs.Meaning.{IsTransfer}
use Rattle.body.proofs.ItemList.{tasks_listed, sends_listed, receives_listed}
use Rattle.body.proofs.ItemOrder.{receive_after, send_then}
use Rattle.body.proofs.Places.{copies_apart, copy_no_slot, slots_apart}

-- items of kinds 1 and 2

pub send_from : (y : Item) → kind_of y ≡ 1 → (i : ℕ) × (g : ℕ) × (q : ℕ) × (y ≡ send i g q)
send_from (task i) k = absurd (omega arith)
send_from (send i g q) k = (i, g, q, refl)
send_from (receive i g q) k = absurd (omega arith)

receive_from : (y : Item) → kind_of y ≡ 2 → (i : ℕ) × (g : ℕ) × (q : ℕ) × (y ≡ receive i g q)
receive_from (task i) k = absurd (omega arith)
receive_from (send i g q) k = absurd (omega arith)
receive_from (receive i g q) k = (i, g, q, refl)

module _ (B : Body) where
  -- what is known of an item that is listed
  abbrev pub Known : Item → Type 0
  Known (task i) = i < B.tasks
  Known (send i g q) = IsTransfer B i g q
  Known (receive i g q) = IsTransfer B i g q

  pub item_known : (a : ℕ) → a < item_count B → Known (item_at B a)
  item_known a l = go (item_at B a) refl
    where
      go : (x : Item) → item_at B a ≡ x → Known x
      go (task i) e = (tasks_listed B i).0 (a, l, e)
      go (send i g q) e = (sends_listed B i g q).0 (a, l, e)
      go (receive i g q) e = (receives_listed B i g q).0 (a, l, e)

  -- the regions whose copies on its rank an item reads, and writes

  abbrev pub reads_copy : Item → ℕ → Bool
  reads_copy (task i) g = mem g (B.reads i)
  reads_copy (send i h q) g = eqb g h
  reads_copy (receive i h q) g = false

  abbrev pub writes_copy : Item → ℕ → Bool
  writes_copy (task i) g = mem g (B.writes i)
  writes_copy (send i h q) g = false
  writes_copy (receive i h q) g = eqb g h

  abbrev pub Names : Item → ℕ → Type 0
  Names y g = (reads_copy y g ≡ true) ⊎ (writes_copy y g ≡ true)

  mem_copy : (q g r : ℕ) (l : List ℕ) → g < B.regions → ((h : ℕ) → mem h l ≡ true → h < B.regions) → mem (copy B q g) (map (copy B r) l) ≡ (eqb r q && mem g l)
  mem_copy q g r l lg f = test_ext _ _ (λ e. from (mem_map_from (copy B r) (copy B q g) l e)) (λ e. to (and-true (eqb r q) (mem g l) e))
    where
      from : (h : ℕ) × (mem h l ≡ true) × (copy B q g ≡ copy B r h) → (eqb r q && mem g l) ≡ true
      from (h, m, e) =
          let s = copies_apart B q g r h lg (f h m) e in
          and_intro (eqb r q) (mem g l) (eq-eqb r q (sym s.0)) (subst (λ (k : ℕ). mem k l ≡ true) (sym s.1) m)

      to : (eqb r q ≡ true) × (mem g l ≡ true) → mem (copy B q g) (map (copy B r) l) ≡ true
      to (e, m) = subst (λ (k : ℕ). mem (copy B k g) (map (copy B r) l) ≡ true) (eqb-true r q e) (mem_map (copy B r) g l m)

  mem_copy_one : (q g r h : ℕ) → g < B.regions → h < B.regions → mem (copy B q g) (copy B r h ∷ []) ≡ (eqb r q && eqb g h)
  unfolding mem
  mem_copy_one q g r h lg lh = mem_copy q g r (h ∷ []) lg (λ k m. subst (λ (z : ℕ). z < B.regions) (sym (mem_one k h m)) lh) ∙ rw (or-false (eqb g h))

  -- the places of an item y with number a: copies on its rank, and the slot of its transfer, which
  -- has the number of the send
  pub data Place (a : ℕ) (y : Item) (x : ℕ) : Type 0 where
    of_copy : (g : ℕ) → g < B.regions → x ≡ copy B (item_rank B y) g → Place a y x
    of_send : kind_of y ≡ 1 → x ≡ slot a → Place a y x
    of_receive : kind_of y ≡ 2 → x ≡ slot (a - 1) → Place a y x

  -- the two of a transfer write its slot

  pub send_slot : (a : ℕ) → kind_of (item_at B a) ≡ 1 → Writes (system B) a (slot a)
  unfolding writes_of
  send_slot a k = let r = send_from (item_at B a) k in rw r.3 (mem_head (slot a) [])

  pub receive_slot : (a k : ℕ) → a ≡ suc k → kind_of (item_at B a) ≡ 2 → Writes (system B) a (slot k)
  unfolding writes_of
  receive_slot a k s z =
      let r = receive_from (item_at B a) z in
      let e : a - 1 ≡ k = omega arith in
      rw (r.3, e) (mem_head (slot k) (copy B r.2 r.1 ∷ []))

  module _ (F : Fits B) where
    pub rank_below : (a : ℕ) → a < item_count B → item_rank B (item_at B a) < B.ranks
    rank_below a la = go (item_at B a) (item_known a la)
      where
        go : (y : Item) → Known y → item_rank B y < B.ranks
        go (task i) k = F.rank_below i k
        go (send i g q) k = F.rank_below i k.below
        go (receive i g q) k = k.in_range

    -- what is named is a region
    pub named_region : (y : Item) (g : ℕ) → Known y → Names y g → g < B.regions
    named_region (task i) g k n = ⊎_elim (λ m. F.reads_below i g k m) (λ m. F.writes_below i g k m) n
    named_region (send i h q) g k (inl e) = rw (eqb-true g h e) (F.writes_below i h k.below k.writes)
    named_region (send i h q) g k (inr e) = absurd (not_both e refl)
    named_region (receive i h q) g k (inl e) = absurd (not_both e refl)
    named_region (receive i h q) g k (inr e) = rw (eqb-true g h e) (F.writes_below i h k.below k.writes)

    -- at copies

    mem_slot : (q g k : ℕ) (l : List ℕ) → q < B.ranks → g < B.regions → mem (copy B q g) (slot k ∷ l) ≡ mem (copy B q g) l
    unfolding mem
    mem_slot q g k l lq lg = rw (ne_eqb (copy B q g) (slot k) (copy_no_slot B F q g k lq lg))

    no_copy : (q g r k : ℕ) → q < B.ranks → g < B.regions → mem (copy B q g) (slot k ∷ []) ≡ (eqb r q && false)
    unfolding mem
    no_copy q g r k lq lg = mem_slot q g k [] lq lg ∙ sym (and-false (eqb r q))

    pub copy_read : (q g a : ℕ) → q < B.ranks → g < B.regions → (y : Item) → Known y → mem (copy B q g) (reads_of B a y) ≡ (eqb (item_rank B y) q && reads_copy y g)
    unfolding reads_of
    copy_read q g a lq lg (task i) k = mem_copy q g (B.rank i) (B.reads i) lg (λ h. F.reads_below i h k)
    copy_read q g a lq lg (send i h r) k = mem_copy_one q g (B.rank i) h lg (F.writes_below i h k.below k.writes)
    copy_read q g a lq lg (receive i h r) k = no_copy q g r (a - 1) lq lg

    pub copy_written : (q g a : ℕ) → q < B.ranks → g < B.regions → (y : Item) → Known y → mem (copy B q g) (writes_of B a y) ≡ (eqb (item_rank B y) q && writes_copy y g)
    unfolding writes_of
    copy_written q g a lq lg (task i) k = mem_copy q g (B.rank i) (B.writes i) lg (λ h. F.writes_below i h k)
    copy_written q g a lq lg (send i h r) k = no_copy q g (B.rank i) a lq lg
    copy_written q g a lq lg (receive i h r) k = mem_slot q g (a - 1) (copy B r h ∷ []) lq lg ∙ mem_copy_one q g r h lg (F.writes_below i h k.below k.writes)

    -- who accesses or writes rank q's copy of g is on rank q and names g

    pub copy_writer : (q g a : ℕ) → q < B.ranks → g < B.regions → a < item_count B → Writes (system B) a (copy B q g) →
        (item_rank B (item_at B a) ≡ q) × (writes_copy (item_at B a) g ≡ true)
    copy_writer q g a lq lg la h =
        let u = and-true (eqb (item_rank B (item_at B a)) q) (writes_copy (item_at B a) g) (sym (copy_written q g a lq lg (item_at B a) (item_known a la)) ∙ h) in
        (eqb-true (item_rank B (item_at B a)) q u.0, u.1)

    pub copy_user : (q g a : ℕ) → q < B.ranks → g < B.regions → a < item_count B → Accesses (system B) a (copy B q g) →
        (item_rank B (item_at B a) ≡ q) × Names (item_at B a) g
    copy_user q g a lq lg la (reading h) =
        let u = and-true (eqb (item_rank B (item_at B a)) q) (reads_copy (item_at B a) g) (sym (copy_read q g a lq lg (item_at B a) (item_known a la)) ∙ h) in
        (eqb-true (item_rank B (item_at B a)) q u.0, inl u.1)
    copy_user q g a lq lg la (writing h) = let u = copy_writer q g a lq lg la h in (u.0, inr u.1)

    -- at all places

    read_place : (a x : ℕ) (y : Item) → Known y → mem x (reads_of B a y) ≡ true → Place a y x
    unfolding reads_of
    read_place a x (task i) k h = let r = mem_map_from (copy B (B.rank i)) x (B.reads i) h in of_copy r.0 (F.reads_below i r.0 k r.1) r.2
    read_place a x (send i g q) k h = of_copy g (F.writes_below i g k.below k.writes) (mem_one x (copy B (B.rank i) g) h)
    read_place a x (receive i g q) k h = of_receive refl (mem_one x (slot (a - 1)) h)

    written_place : (a x : ℕ) (y : Item) → Known y → mem x (writes_of B a y) ≡ true → Place a y x
    unfolding writes_of
    written_place a x (task i) k h = let r = mem_map_from (copy B (B.rank i)) x (B.writes i) h in of_copy r.0 (F.writes_below i r.0 k r.1) r.2
    written_place a x (send i g q) k h = of_send refl (mem_one x (slot a) h)
    written_place a x (receive i g q) k h =
        ⊎_elim
        (λ e. of_receive refl e)
        (λ m. of_copy g (F.writes_below i g k.below k.writes) (mem_one x (copy B q g) m))
        (mem_cases x (slot (a - 1)) (copy B q g ∷ []) h)

    pub place_of : (a x : ℕ) → a < item_count B → Accesses (system B) a x → Place a (item_at B a) x
    place_of a x la (reading h) = read_place a x (item_at B a) (item_known a la) h
    place_of a x la (writing h) = written_place a x (item_at B a) (item_known a la) h

    -- the two of a transfer stand together

    pub send_kind : (a : ℕ) → a < item_count B → kind_of (item_at B a) ≡ 1 → (suc a < item_count B) × (kind_of (item_at B (suc a)) ≡ 2)
    send_kind a la k =
        let r = send_from (item_at B a) k in
        let n = send_then B F a r.0 r.1 r.2 la r.3 in
        (n.0, ap kind_of n.1)

    pub receive_kind : (a : ℕ) → a < item_count B → kind_of (item_at B a) ≡ 2 → (b : ℕ) × (a ≡ suc b) × (kind_of (item_at B b) ≡ 1)
    receive_kind a la k =
        let r = receive_from (item_at B a) k in
        let n = receive_after B F a r.0 r.1 r.2 la r.3 in
        (n.0, n.1, ap kind_of n.2)

    -- none but the two of a transfer accesses its slot
    pub slot_users : (a k : ℕ) → a < item_count B → Accesses (system B) a (slot k) → ((kind_of (item_at B a) ≡ 1) × (a ≡ k)) ⊎ ((kind_of (item_at B a) ≡ 2) × (a ≡ suc k))
    slot_users a k la h = go (place_of a (slot k) la h)
      where
        go : Place a (item_at B a) (slot k) → ((kind_of (item_at B a) ≡ 1) × (a ≡ k)) ⊎ ((kind_of (item_at B a) ≡ 2) × (a ≡ suc k))
        go (of_copy g lg e) = absurd (copy_no_slot B F (item_rank B (item_at B a)) g k (rank_below a la) lg (sym e))
        go (of_send z e) = inl (z, slots_apart a k (sym e))
        go (of_receive z e) = let r = receive_kind a la z in inr (z, omega (arith, r.1, slots_apart k (a - 1) e))

    pub one_rank : (a b d i j : ℕ) → Edge (system B) a b d → item_at B a ≡ task i → item_at B b ≡ task j → B.rank i ≡ B.rank j
    one_rank a b d i j (reuse l s h) e f = let t : task i ≡ task j = sym e ∙ (ap (item_at B) s ∙ f) in let z : i ≡ j = cc in ap B.rank z
    one_rank a b d i j (rule r) e f =
        go (rw e at (place_of a r.place r.from r.conflict.first)) (rw f at (place_of b r.place r.to r.conflict.second))
      where
        go : Place a (task i) r.place → Place b (task j) r.place → B.rank i ≡ B.rank j
        go (of_copy g l u) (of_copy h m v) = (copies_apart B (B.rank i) g (B.rank j) h l m (sym u ∙ v)).0
        go (of_copy g l u) (of_send z v) = absurd (omega arith)
        go (of_copy g l u) (of_receive z v) = absurd (omega arith)
        go (of_send z u) p = absurd (omega arith)
        go (of_receive z u) p = absurd (omega arith)
