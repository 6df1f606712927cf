-- The items put are those whose start is accepted.
use Prim.Native.Nat.{ℕ, ◌+◌, ◌≤◌, ◌<◌}
use mathlib.Core.Path.{◌≡◌, refl, sym, ◌∙◌, ap}
use mathlib.Core.Bool.{Bool, true, false, cond, not, ◌&&◌}
use mathlib.Core.List.{List, [], ◌∷◌}
use native.Mathlib.Omega.{arith}
use borrow.Author.Tests.{not-true, not-false}
use lib.Dec.{eqb, ltb}
use lib.ListN.{length, get_or, set}
use Rattle.finite.specs.Lists.{collect}
use Rattle.finite.specs.Put.{Put, Added, Room, RoomAt}
use Rattle.finite.proofs.Collect.{gather_collect, collect_ext, collect_most}
use Rattle.finite.proofs.Puts.{added_none, added_one, added_same, added_put}
use Rattle.body.specs.Body.{Body}
use Rattle.body.specs.Items.{item_count, item_passes}
use Rattle.plan.specs.Sizes.{max_items, value_words}
use Rattle.plan.specs.Layout.{body_of}
use Rattle.graph.specs.Table.{Graph}
use Rattle.steps.specs.State.{state_of, done_by, unmet_by}
use Rattle.graph.specs.Answers.{plan_body}
use Rattle.steps.specs.Answers.{Left, start_tests, started, refused}
use Rattle.steps.specs.Calls.{start, lent, is_accepted}
use Rattle.steps.specs.Ready.{ready_items}
use Rattle.doors.specs.Doors.{Clear}
use Rattle.calls.proofs.Behind.{start_tested, whole}

-- whether item a may start, which has `own` passes
abbrev startable : List ℕ → ℕ → ℕ → Bool
startable C own a = ltb (done_by C a) own && (eqb (get_or C a 0) (done_by C a) && eqb (unmet_by C a) 0)

-- item a, where it may start
unfoldable pub ready_at : Body → List ℕ → ℕ → List ℕ
ready_at B C a = cond (startable C (item_passes B a) a) (a ∷ []) []

module _ (B : Body) (C : List ℕ) where
  pub ready_at_lem : (a own : ℕ) (t : Bool) → own ≡ item_passes B a → t ≡ startable C own a → cond t (a ∷ []) [] ≡ ready_at B C a
  unfolding ready_at
  ready_at_lem a own t o e = rw (e, o)

  at_most : (a : ℕ) → length (ready_at B C a) ≤ 1
  unfolding ready_at
  at_most a = go (startable C (item_passes B a) a)
    where
      go : (t : Bool) → length (cond t (a ∷ []) []) ≤ 1
      go true = omega arith
      go false = omega arith

  pub ready_room : (n : ℕ) (items : List ℕ) → n ≤ max_items → max_items ≤ length items → Room (collect n (ready_at B C)) items
  ready_room n items l m = omega (arith, collect_most n 1 (ready_at B C) (λ a k. at_most a))

-- a number put where `yes` holds
module _ (yes : Bool) (a at : ℕ) (items : List ℕ) where
  pub put_fits : RoomAt (cond yes (a ∷ []) []) at items → not yes ≡ false → at < length items
  put_fits h e = let k : RoomAt (a ∷ []) at items = rw (not-false yes e) at h in omega (arith, k.fits)

  pub put_none : not yes ≡ true → Added (cond yes (a ∷ []) []) at items at items
  put_none e = rw (not-true yes e) added_none

  pub put_one : (v : ℕ) → not yes ≡ false → v ≡ a → Added (cond yes (a ∷ []) []) at items (at + 1) (set items at v)
  put_one v e h = rw (not-false yes e) (added_one h)

-- the tests of a start, joined
tests_joined : (p q r : Bool) → eqb (cond p (cond q (cond r 0 16) 15) 14) 0 ≡ (p && (q && r))
tests_joined true true true = refl
tests_joined true true false = refl
tests_joined true false r = refl
tests_joined false q r = refl

-- a step is refused exactly for what its tests give
zero_refused : (w C W : List ℕ) (a T : ℕ) → eqb (cond (eqb T 0) (started w C W a) (refused w C W T)).refusal 0 ≡ eqb T 0
zero_refused w C W a T = go (eqb T 0) refl
  where
    go : (t : Bool) → eqb T 0 ≡ t → eqb (cond t (started w C W a) (refused w C W T)).refusal 0 ≡ t
    go true e = refl
    go false e = e

module _ (w C table : List ℕ) (n : ℕ) (G : Graph w table n) (K : Clear w C n) where
  accepted_is : (W : List ℕ) → value_words ≤ length W → (a : ℕ) → a < n → is_accepted w (lent C W) (start a) ≡ startable C (item_passes (body_of w) a) a
  accepted_is W v a l =
      let T = start_tests (body_of w) (state_of C W) (unmet_by C a) a in
      ap (λ (x : Left). eqb x.refusal 0) (start_tested w C table n G K W v a a refl l)
      ∙ (zero_refused w C W a T ∙ tests_joined (ltb (done_by C a) (item_passes (body_of w) a)) (eqb (get_or C a 0) (done_by C a)) (eqb (unmet_by C a) 0))

  ready_items_lem : (W : List ℕ) → value_words ≤ length W → collect n (ready_at (body_of w) C) ≡ ready_items w C W
  unfolding ready_items ready_at
  ready_items_lem W v =
      collect_ext n (ready_at (body_of w) C) (λ a. cond (is_accepted w (lent C W) (start a)) (a ∷ []) [])
      (λ a l.
      ap (λ (t : Bool). cond t (a ∷ []) []) (sym (accepted_is W v a l)))
      ∙ (ap (λ (m : ℕ). collect m (λ a. cond (is_accepted w (lent C W) (start a)) (a ∷ []) [])) count
      ∙ sym (gather_collect (item_count (plan_body w)) (λ a. is_accepted w (lent C W) (start a)) (λ a. a)))
    where
      count : n ≡ item_count (plan_body w)
      count = G.count ∙ ap (λ (x : List ℕ). item_count (body_of x)) (sym (whole w table n G))

  pub ready_put : (items items' : List ℕ) (r : ℕ) → max_items ≤ length items → Added (collect n (ready_at (body_of w) C)) 0 items r items' →
      (W : List ℕ) → value_words ≤ length W → Put (ready_items w C W) items r items'
  ready_put items items' r long h W v =
      added_put
      (rw (← ready_items_lem W v) (ready_room (body_of w) C n items G.most long))
      (added_same (ready_items_lem W v) h)
