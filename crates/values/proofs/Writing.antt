-- The places that an item writes.
use Prim.Native.Nat.{ℕ, ◌+◌, ◌-◌, ◌*◌, ◌≤◌, ◌<◌}
use mathlib.Core.Path.{◌≡◌, refl, sym, ◌∙◌, ap, subst}
use mathlib.Core.Bool.{Bool, true, false, cond, not, ◌&&◌, ◌||◌, or-false}
use mathlib.Core.List.{List, [], ◌∷◌, ◌++◌, map, append-nil}
use native.Mathlib.Numerals.{add-one}
use native.Mathlib.Omega.{arith}
use borrow.Author.Tests.{eqb-true, leb-true, le-leb}
use lib.Dec.{eqb, leb}
use lib.ListN.{length, set, take, drop}
use Rattle.finite.specs.Lists.{mem, gather}
use Rattle.finite.specs.Update.{replaced}
use Rattle.finite.proofs.Tests.{not_both, and-true, and_intro, test_ext}
use Rattle.finite.proofs.Members.{mem_append, mem_map, mem_map_from}
use Rattle.finite.proofs.Replaced.{length_replaced, replaced_ext, replaced_where, replaced_none, replaced_one, replaced_set, replaced_twice, replaced_lent}
use Rattle.body.specs.Body.{Body, first_slot}
use Rattle.body.specs.Items.{Item, task, send, receive, kind_of, item_rank, item_at}
use Rattle.body.specs.Places.{slot, copy, writes_of, system}
use Rattle.body.proofs.Accessed.{Known, item_known}
use Rattle.edges.specs.Tests.{rank_at}
use Rattle.plan.specs.Sizes.{value_words, slot_of}
use Rattle.plan.specs.Code.{code_kind, code_subject}
use Rattle.plan.specs.Layout.{body_of, writes_of as task_writes}
use Rattle.graph.specs.Table.{subject_of}
use Rattle.values.specs.Items.{Found, regions_written}
use Rattle.values.proofs.Finding.{facts, fits, number_most, found_kind, found_subject, found_task, receive_least}

-- a loop that puts v at f k for each k of which p holds
module _ (p : ℕ → Bool) (f : ℕ → ℕ) (v : ℕ) (xs : List ℕ) where
  pub written_none : xs ≡ replaced (λ g. mem g (gather 0 p f)) (λ g. v) xs
  unfolding gather
  written_none = replaced_none xs v

  turn : (k at : ℕ) → at < length xs → at ≡ f k → (t : Bool) →
      cond t (set (replaced (λ g. mem g (gather k p f)) (λ g. v) xs) at v) (replaced (λ g. mem g (gather k p f)) (λ g. v) xs)
      ≡ replaced (λ g. mem g (gather k p f ++ cond t (f k ∷ []) [])) (λ g. v) xs
  unfolding mem
  turn k at l e true =
      replaced_set (λ g. mem g (gather k p f)) (λ g. v) xs at v l refl
      ∙ replaced_where (λ g. eqb g at || mem g (gather k p f)) (λ g. mem g (gather k p f ++ (f k ∷ []))) (λ g. v) xs
      (λ g m. rw (mem_append g (gather k p f) (f k ∷ []), e) (either (eqb g (f k)) (mem g (gather k p f))))
    where
      either : (a b : Bool) → (a || b) ≡ (b || (a || false))
      either true true = refl
      either true false = refl
      either false true = refl
      either false false = refl
  turn k at l e false = rw (append-nil (gather k p f))

  pub written_more : (k at : ℕ) (t : Bool) (ys zs : List ℕ) → ys ≡ replaced (λ g. mem g (gather k p f)) (λ g. v) xs → at < length xs → at ≡ f k → t ≡ p k →
      zs ≡ cond t (set ys at v) ys → zs ≡ replaced (λ g. mem g (gather (k + 1) p f)) (λ g. v) xs
  unfolding gather
  written_more k at t ys zs h l e q z = rw add-one (z ∙ (rw (h, q) (turn k at l e (p k))))

-- the slot that item a writes
slots_written : ℕ → Item → List ℕ
slots_written a (task i) = []
slots_written a (send i g q) = slot a ∷ []
slots_written a (receive i g q) = slot (a - 1) ∷ []

-- numbers moved up by k
mem_shift : (k y : ℕ) (l : List ℕ) → (leb k y && mem (y - k) l) ≡ mem y (map (λ g. k + g) l)
mem_shift k y l = test_ext (leb k y && mem (y - k) l) (mem y (map (λ g. k + g) l)) (λ h. to (and-true (leb k y) (mem (y - k) l) h)) (λ h. from (mem_map_from (λ g. k + g) y l h))
  where
    to : (leb k y ≡ true) × (mem (y - k) l ≡ true) → mem y (map (λ g. k + g) l) ≡ true
    to (b, m) = let e : k + (y - k) ≡ y = omega (arith, leb-true k y b) in subst (λ (x : ℕ). mem x (map (λ g. k + g) l) ≡ true) e (mem_map (λ g. k + g) (y - k) l m)

    from : (x : ℕ) × (mem x l ≡ true) × (y ≡ k + x) → (leb k y && mem (y - k) l) ≡ true
    from (x, m, e) =
        let h : x ≡ y - k = omega arith in
        and_intro (leb k y) (mem (y - k) l) (le-leb k y (omega arith)) (subst (λ (z : ℕ). mem z l ≡ true) h m)

-- the places that an item writes: copies from `first` on, and the slot
mem_places : (B : Body) (a first y : ℕ) (x : Item) → first ≡ item_rank B x * B.regions →
    ((leb first y && mem (y - first) (regions_written B x)) || mem y (slots_written a x)) ≡ mem y (writes_of B a x)
unfolding regions_written slots_written writes_of copy mem
mem_places B a first y (task i) e =
    or-false (leb first y && mem (y - first) (B.writes i))
    ∙ (mem_shift first y (B.writes i) ∙ ap (λ (k : ℕ). mem y (map (λ g. k + g) (B.writes i))) e)
mem_places B a first y (send i g q) e = ap (λ (b : Bool). b || mem y (slot a ∷ [])) (mem_shift first y [])
mem_places B a first y (receive i g q) e =
    ap (λ (b : Bool). b || mem y (slot (a - 1) ∷ [])) (mem_shift first y (g ∷ []))
    ∙ (ap (λ (k : ℕ). mem y ((k + g) ∷ []) || mem y (slot (a - 1) ∷ [])) e ∙ either (eqb y (q * B.regions + g)) (eqb y (slot (a - 1))))
  where
    either : (b c : Bool) → ((b || false) || (c || false)) ≡ (c || (b || false))
    either true true = refl
    either true false = refl
    either false true = refl
    either false false = refl

module _ (w : List ℕ) (a code : ℕ) (F : Found w a code) (v : ℕ) (xs : List ℕ) where
  -- a task writes the regions of its record
  pub copies_task : (i : ℕ) (ys : List ℕ) → code_kind code ≡ 0 → i ≡ code_subject code → ys ≡ replaced (λ g. mem g (task_writes w i)) (λ g. v) xs →
      ys ≡ replaced (λ g. mem g (regions_written (body_of w) (item_at (body_of w) a))) (λ g. v) xs
  unfolding regions_written
  copies_task i ys z s h = rw (found_task w a code F z, ← s) h

  -- a receive its region, and a send none
  pub copies_moved : (s : ℕ) (ys : List ℕ) → (code_kind code ≡ 0 → ⊥) → s ≡ code_subject code → s < length xs →
      ys ≡ cond (eqb (code_kind code) 2) (set xs s v) xs →
      ys ≡ replaced (λ g. mem g (regions_written (body_of w) (item_at (body_of w) a))) (λ g. v) xs
  unfolding regions_written
  copies_moved s ys z e l h =
      h ∙ go (item_at (body_of w) a) (found_kind w a code F) (e ∙ found_subject w a code F)
    where
      go : (x : Item) → code_kind code ≡ kind_of x → s ≡ subject_of x → cond (eqb (code_kind code) 2) (set xs s v) xs ≡ replaced (λ g. mem g (regions_written (body_of w) x)) (λ g. v) xs
      go (task i) k u = absurd (z k)
      go (send i g q) k u = rw k (replaced_none xs v)
      go (receive i g q) k u = rw (k, ← u) (replaced_one xs s v l)

  slot_put : (x : Item) → (kind_of x ≡ 2 → 1 ≤ a) → value_words ≤ length xs →
      cond (not (eqb (kind_of x) 0)) (set xs (slot_of (kind_of x) a) v) xs ≡ replaced (λ y. mem y (slots_written a x)) (λ y. v) xs
  unfolding slots_written slot
  slot_put (task i) h l = replaced_none xs v
  slot_put (send i g q) h l =
      let e : slot_of 1 a ≡ first_slot + a = omega arith in
      rw e (replaced_one xs (first_slot + a) v (omega (arith, number_most w a code F)))
  slot_put (receive i g q) h l =
      let e : slot_of 2 a ≡ first_slot + (a - 1) = omega (arith, h refl) in
      rw e (replaced_one xs (first_slot + (a - 1)) v (omega (arith, number_most w a code F)))

  -- an item writes copies of the plan's regions
  written_within : (g : ℕ) → mem g (regions_written (body_of w) (item_at (body_of w) a)) ≡ true → g < (body_of w).regions
  unfolding regions_written mem
  written_within g = go (item_at (body_of w) a) (item_known (body_of w) a F.below)
    where
      go : (x : Item) → Known (body_of w) x → mem g (regions_written (body_of w) x) ≡ true → g < (body_of w).regions
      go (task i) k m = (fits w a code F).writes_below i g k m
      go (send i h q) k m = let z : ◌≡◌ {A = Bool} false true = m in absurd (not_both z refl)
      go (receive i h q) k m =
          let e : g ≡ h = eqb-true g h (sym (or-false (eqb g h)) ∙ m) in
          rw e ((fits w a code F).writes_below i h k.below k.writes)

  -- the slot is written, then the copies of the item's rank are lent, from `first` to `last`
  pub places_written : (first last at : ℕ) (ys zs : List ℕ) → value_words ≤ length xs → first ≡ rank_at (body_of w) a * (body_of w).regions → first ≤ 1920 →
      last ≡ first + (body_of w).regions → at ≡ slot_of (code_kind code) a → ys ≡ cond (not (eqb (code_kind code) 0)) (set xs at v) xs →
      zs ≡ replaced (λ g. mem g (regions_written (body_of w) (item_at (body_of w) a))) (λ g. v) (take (last - first) (drop first ys)) →
      take first ys ++ (zs ++ drop (last - first) (drop first ys)) ≡ replaced (λ x. mem x ((system (body_of w)).writes a)) (λ x. v) xs
  places_written first last at ys zs l e m n s h k =
      replaced_lent written (λ g. v) first last ys zs (omega arith) room (λ g i. omega (arith, written_within g i)) k
      ∙ (ap (replaced (λ y. leb first y && written (y - first)) (λ y. v)) put
      ∙ (replaced_twice slots (λ y. leb first y && written (y - first)) (λ y. v) (λ y. v) xs
      ∙ replaced_ext (λ y. (leb first y && written (y - first)) || slots y) (λ y. mem y ((system (body_of w)).writes a)) (λ y. cond (leb first y && written (y - first)) v v) (λ y. v) xs
      (λ y n. rw (same (leb first y && written (y - first)), mem_places (body_of w) a first y (item_at (body_of w) a) e))))
    where
      written : ℕ → Bool
      written g = mem g (regions_written (body_of w) (item_at (body_of w) a))

      slots : ℕ → Bool
      slots y = mem y (slots_written a (item_at (body_of w) a))

      put : ys ≡ replaced slots (λ y. v) xs
      put = h ∙ rw (s, found_kind w a code F) (slot_put (item_at (body_of w) a) (λ z. receive_least w a code F (found_kind w a code F ∙ z)) l)

      room : last ≤ length ys
      room = omega (arith, ap length put, length_replaced slots (λ y. v) xs, (facts w a code F).regions_most)

      same : (b : Bool) → cond b v v ≡ v
      same true = refl
      same false = refl
