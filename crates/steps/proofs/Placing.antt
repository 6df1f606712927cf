-- Where the items of a plan in form and their places stand in the lent state: held words, and
-- places that items access, lie apart.
use Prim.Native.Nat.{ℕ, zero, suc, ◌+◌, ◌-◌, ◌*◌, ◌/◌, ◌%◌, ◌≤◌, ◌<◌}
use mathlib.Core.Path.{◌≡◌, sym, ◌∙◌, ap, subst}
use mathlib.Core.Bool.{true, false, ◌&&◌, ◌||◌, or-true}
use mathlib.Core.Logic.{⊎_elim}
use mathlib.Core.List.{List}
use native.Mathlib.Nat.{mul-zero, mod-lt, div-add-mod', div-lt_iff_lt-mul}
use native.Mathlib.Omega.{arith}
use borrow.Author.Tests.{eqb-true, ltb-true, leb-true, eq-eqb, lt-ltb, le-leb}
use lib.Dec.{eqb, ltb, leb}
use Rattle.finite.specs.Lists.{mem}
use Rattle.finite.proofs.Tests.{and-true, or_cases, false_of}
use Rattle.unroll.specs.System.{Accesses, writing}
use Rattle.body.specs.Body.{Body, Fits, first_slot}
use Rattle.body.specs.Items.{send, item_rank, item_count, item_at}
use Rattle.body.specs.Places.{slot, copy, initial, system}
use Rattle.body.proofs.Places.{copy_below, slot_opening}
use Rattle.body.proofs.Accessed.{send_from, Place, of_copy, of_send, of_receive, place_of, rank_below, receive_kind}
use Rattle.edges.specs.Tests.{kind_at, rank_at}
use Rattle.plan.specs.Sizes.{max_items}
use Rattle.plan.specs.Layout.{body_of}
use Rattle.plan.specs.Form.{in_form}
use Rattle.graph.proofs.Small.{plan_fits}
use Rattle.graph.proofs.Theorems.{laws}
use Rattle.steps.specs.State.{first_finished, first_unmet, first_held}
use Rattle.steps.specs.Answers.{is_count, is_copy, is_slot, is_held}

module _ (B : Body) where
  -- what an opening replaces

  pub started_count : (a : ℕ) → a < item_count B → is_count B a ≡ true
  started_count a l = rw (lt-ltb a (item_count B) l)

  pub finished_count : (a : ℕ) → a < item_count B → is_count B (first_finished + a) ≡ true
  finished_count a l =
      rw (le-leb first_finished (first_finished + a) (omega arith), lt-ltb (first_finished + a) (first_finished + item_count B) (omega arith))
      (or-true (ltb (first_finished + a) (item_count B)))

  pub unmet_count : (a : ℕ) → a < item_count B → is_count B (first_unmet + a) ≡ true
  unmet_count a l =
      rw (
        le-leb first_unmet (first_unmet + a) (omega arith),
        lt-ltb (first_unmet + a) (first_unmet + item_count B) (omega arith),
        or-true (leb first_finished (first_unmet + a) && ltb (first_unmet + a) (first_finished + item_count B)),
      )
      (or-true (ltb (first_unmet + a) (item_count B)))

  pub held_opened : (a : ℕ) → a < item_count B → (is_copy B (first_held + a) || (is_slot B (first_held + a) || is_held B (first_held + a))) ≡ true
  held_opened a l =
      rw (
        le-leb first_held (first_held + a) (omega arith),
        lt-ltb (first_held + a) (first_held + item_count B) (omega arith),
        or-true (is_slot B (first_held + a)),
      )
      (or-true (is_copy B (first_held + a)))

  slot_is : (a : ℕ) → a < item_count B → kind_at B a ≡ 1 → is_slot B (slot a) ≡ true
  unfolding slot
  slot_is a l k =
      let e : first_slot + a - first_slot ≡ a = omega arith in
      rw (le-leb first_slot (first_slot + a) (omega arith), lt-ltb (first_slot + a) (first_slot + item_count B) (omega arith), e, eq-eqb (kind_at B a) 1 k)

  pub copy_opened : (q g : ℕ) → q < B.ranks → g < B.regions → (is_copy B (copy B q g) || (is_slot B (copy B q g) || is_held B (copy B q g))) ≡ true
  copy_opened q g lq lg = rw (lt-ltb (copy B q g) (B.ranks * B.regions) (copy_below B q g lq lg))

  pub slot_opened : (a : ℕ) → a < item_count B → kind_at B a ≡ 1 → (is_copy B (slot a) || (is_slot B (slot a) || is_held B (slot a))) ≡ true
  slot_opened a l k = rw (slot_is a l k) (or-true (is_copy B (slot a)))

  -- and nothing else

  range_from : (first i : ℕ) → (leb first i && ltb i (first + item_count B)) ≡ true → (a : ℕ) × (a < item_count B) × (i ≡ first + a)
  range_from first i t =
      let p = and-true (leb first i) (ltb i (first + item_count B)) t in
      let l = leb-true first i p.0 in
      let k = ltb-true i (first + item_count B) p.1 in
      (i - first, omega arith, omega arith)

  pub count_from : (i : ℕ) (P : Type 0) → (i < item_count B → P) → ((a : ℕ) → a < item_count B → i ≡ first_finished + a → P) →
      ((a : ℕ) → a < item_count B → i ≡ first_unmet + a → P) → is_count B i ≡ true → P
  count_from i P s f u h =
      ⊎_elim (λ l. s (ltb-true i (item_count B) l))
      (λ t. ⊎_elim (λ e. let r = range_from first_finished i e in f r.0 r.1 r.2) (λ e. let r = range_from first_unmet i e in u r.0 r.1 r.2)
      (or_cases (leb first_finished i && ltb i (first_finished + item_count B)) _ t)) (or_cases (ltb i (item_count B)) _ h)

  copy_from : (x : ℕ) → x < B.ranks * B.regions → (q : ℕ) × (g : ℕ) × (q < B.ranks) × (g < B.regions) × (x ≡ copy B q g)
  unfolding copy
  copy_from x l =
      let some : 0 < B.regions = positive B.regions l in
      (x / B.regions, x % B.regions, (div-lt_iff_lt-mul some).1 l, mod-lt x some, sym (div-add-mod' x B.regions))
    where
      positive : (n : ℕ) → x < B.ranks * n → 0 < n
      positive zero k = absurd (omega (arith, mul-zero B.ranks))
      positive (suc n) k = omega arith

  pub value_from : (x : ℕ) (P : Type 0) → ((q g : ℕ) → q < B.ranks → g < B.regions → x ≡ copy B q g → P) →
      ((a i g q : ℕ) → a < item_count B → item_at B a ≡ send i g q → x ≡ slot a → P) → ((a : ℕ) → a < item_count B → x ≡ first_held + a → P) →
      (is_copy B x || (is_slot B x || is_held B x)) ≡ true → P
  unfolding slot
  value_from x P c t u h = ⊎_elim copied (λ e. ⊎_elim slotted held (or_cases (is_slot B x) (is_held B x) e)) (or_cases (is_copy B x) _ h)
    where
      copied : is_copy B x ≡ true → P
      copied e = let r = copy_from x (ltb-true x (B.ranks * B.regions) e) in c r.0 r.1 r.2 r.3 r.4

      slotted : is_slot B x ≡ true → P
      slotted e =
          let p = and-true (leb first_slot x) _ e in
          let q = and-true (ltb x (first_slot + item_count B)) (eqb (kind_at B (x - first_slot)) 1) p.1 in
          let r = send_from (item_at B (x - first_slot)) (eqb-true (kind_at B (x - first_slot)) 1 q.1) in
          let l = leb-true first_slot x p.0 in
          let k = ltb-true x (first_slot + item_count B) q.0 in
          t (x - first_slot) r.0 r.1 r.2 (omega arith) r.3 (omega arith)

      held : is_held B x ≡ true → P
      held e = let r = range_from first_held x e in u r.0 r.1 r.2

  -- what holds of the copies and of the slots of sends holds of the places that items access
  pub place_ind : Fits B → (P : ℕ → Type 0) → ((q g : ℕ) → q < B.ranks → g < B.regions → P (copy B q g)) →
      ((a : ℕ) → a < item_count B → kind_at B a ≡ 1 → P (slot a)) → (a x : ℕ) → a < item_count B → Accesses (system B) a x → P x
  place_ind F P c t a x la h = go (place_of B F a x la h)
    where
      go : Place B a (item_at B a) x → P x
      go (of_copy g lg e) = subst P (sym e) (c (rank_at B a) g (rank_below B F a la) lg)
      go (of_send k e) = subst P (sym e) (t a la k)
      go (of_receive k e) =
          let r = receive_kind B F a la k in
          let s : r.0 ≡ a - 1 = omega (arith, r.1) in
          subst P (ap slot s ∙ sym e) (t r.0 (omega (arith, r.1)) r.2)

  pub place_opened : Fits B → (a x : ℕ) → a < item_count B → Accesses (system B) a x → (is_copy B x || (is_slot B x || is_held B x)) ≡ true
  place_opened F =
      place_ind F (λ x. (is_copy B x || (is_slot B x || is_held B x)) ≡ true)
      copy_opened slot_opened

  -- the copies that an item accesses are on its own rank
  pub own_copy : Fits B → (a x : ℕ) → a < item_count B → Accesses (system B) a x → x < first_slot → (g : ℕ) × (g < B.regions) × (x ≡ copy B (item_rank B (item_at B a)) g)
  unfolding slot
  own_copy F a x la h l = go (place_of B F a x la h)
    where
      go : Place B a (item_at B a) x → (g : ℕ) × (g < B.regions) × (x ≡ copy B (item_rank B (item_at B a)) g)
      go (of_copy g lg e) = (g, lg, e)
      go (of_send k e) = absurd (omega arith)
      go (of_receive k e) = absurd (omega arith)

  pub held_opening : Fits B → (a : ℕ) → initial B (first_held + a) ≡ 0
  unfolding slot
  held_opening F a = let e : first_held + a ≡ first_slot + (max_items + a) = omega arith in ap (initial B) e ∙ slot_opening B F (max_items + a)

module _ (w : List ℕ) (formed : in_form w ≡ true) where
  pub items_few : item_count (body_of w) ≤ max_items
  items_few = laws.items w formed

  pub place_below : (a x : ℕ) → a < item_count (body_of w) → Accesses (system (body_of w)) a x → x < first_held
  unfolding slot
  place_below =
      let F = plan_fits w formed in
      place_ind (body_of w) F (λ x. x < first_held)
      (λ q g lq lg. omega (arith, copy_below (body_of w) q g lq lg, F.room))
      (λ a la k. omega (arith, items_few))

  -- no item writes beyond the places
  pub beyond_unwritten : (a x : ℕ) → a < item_count (body_of w) → first_held ≤ x → mem x ((system (body_of w)).writes a) ≡ false
  beyond_unwritten a x la l = false_of (mem x ((system (body_of w)).writes a)) (λ m. let k : x < first_held = place_below a x la (writing m) in omega arith)
