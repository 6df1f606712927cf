-- A finish counted, and the items that it makes ready.
use Prim.Native.Nat.{ℕ, suc, ◌+◌, ◌-◌, ◌≤◌, ◌<◌}
use mathlib.Core.Path.{◌≡◌, sym, ◌∙◌, ap}
use mathlib.Core.Bool.{Bool, true, false, cond, ◌&&◌}
use mathlib.Core.List.{List, [], ◌∷◌, ◌++◌, append-nil}
use native.Mathlib.Omega.{arith}
use borrow.Author.Tests.{ltb-true, lt-ltb}
use lib.Dec.{eqb, ltb}
use lib.ListN.{length, get_or, set, take, drop}
use lib.Seq.{sets-eq, get_or-take}
use Rattle.finite.specs.Lists.{mem}
use Rattle.finite.specs.Put.{Added}
use Rattle.finite.specs.Update.{replaced}
use Rattle.finite.proofs.Tests.{test_ext}
use Rattle.plan.specs.Limits.{max_passes}
use Rattle.plan.specs.Layout.{plan_words, passes_of}
use Rattle.plan.specs.Sizes.{max_items, count_words, first_finished, first_unmet, first_held}
use Rattle.plan.specs.Code.{code_fewer}
use Rattle.masks.specs.Masks.{in_mask, Entered}
use Rattle.steps.specs.State.{done_by, unmet_by}
use Rattle.steps.specs.Answers.{Left}
use Rattle.prepared.specs.Tables.{first_write, code_in, sources_in, target_count, target_in, places_in}
use Rattle.prepared.specs.Steps.{lowered_by, freed_by, again, counts_in, finished_in, freed_in}
use Rattle.prepared.proofs.Lowering.{lowered_length, lowered_before}
use Rattle.engine.proofs.Lowered.{freed_not}

less_left : (x y z : ℕ) → ltb (x + y) z ≡ ltb x (z - y)
less_left x y z =
    test_ext (ltb (x + y) z) (ltb x (z - y))
    (λ h. lt-ltb x (z - y) (omega (arith, ltb-true (x + y) z h)))
    (λ h. lt-ltb (x + y) z (omega (arith, ltb-true x (z - y) h)))

-- item a's own count and number
module _ (tables counts : List ℕ) (a passes done fewer sources : ℕ) (d : done ≡ done_by counts a + 1) (f : fewer ≡ code_fewer (code_in tables a)) (s : sources ≡ sources_in tables a) where
  next : ltb (done + fewer) passes ≡ ltb (suc (done_by counts a)) (passes - code_fewer (code_in tables a))
  next =
      let e : done ≡ suc (done_by counts a) = omega arith in
      less_left done fewer passes ∙ rw (e, f)

  pub own_counted : (number : ℕ) → number ≡ cond (ltb (done + fewer) passes) sources 0 →
      set (set counts (first_unmet + a) number) (first_finished + a) done
      ≡ set (set counts (first_unmet + a) (cond (ltb (suc (done_by counts a)) (passes - code_fewer (code_in tables a))) (sources_in tables a) 0))
      (first_finished + a) (suc (done_by counts a))
  own_counted number n =
      let e : done ≡ suc (done_by counts a) = omega arith in
      let m : number ≡ cond (ltb (suc (done_by counts a)) (passes - code_fewer (code_in tables a))) (sources_in tables a) 0 = n ∙ (ap (λ (t : Bool). cond t sources 0) next ∙ ap (λ (x : ℕ). cond (ltb (suc (done_by counts a)) (passes - code_fewer (code_in tables a))) x 0) s) in
      ap (λ (x : ℕ). set (set counts (first_unmet + a) x) (first_finished + a) done) m
      ∙ ap (λ (x : ℕ). set (set counts (first_unmet + a) (cond (ltb (suc (done_by counts a)) (passes - code_fewer (code_in tables a))) (sources_in tables a) 0)) (first_finished + a) x) e

  pub own_ready : (ltb (done + fewer) passes && eqb sources 0) ≡ (ltb (suc (done_by counts a)) (passes - code_fewer (code_in tables a)) && eqb (sources_in tables a) 0)
  own_ready = ap (λ (t : Bool). t && eqb sources 0) next ∙ ap (λ (x : ℕ). ltb (suc (done_by counts a)) (passes - code_fewer (code_in tables a)) && eqb x 0) s

-- numbers stored from place 1 on, and how many they are at place 0
pub list_counted : (F out : List ℕ) (at v : ℕ) (mid out' : List ℕ) → Added F 1 out at mid → at ≤ length out → v ≡ at - 1 → out' ≡ mid →
    set out' 0 v ≡ (length F ∷ F) ++ drop (1 + length F) out
list_counted F [] at v mid out' A l e u = absurd (omega (arith, A.end))
list_counted F (x ∷ out) at v mid out' A l e u =
    let n : v ≡ length F = omega (arith, A.end) in
    ap (λ (xs : List ℕ). set xs 0 v) (u ∙ A.stored ∙ sets-eq F (x ∷ out) 1 (omega (arith, A.end)))
    ∙ ap (λ (k : ℕ). k ∷ (F ++ drop (1 + length F) (x ∷ out))) n

-- lowering the numbers of its targets keeps what item a has finished
module _ (tables counts : List ℕ) (a : ℕ) (la : a < max_items) (lowered : List ℕ) (low : lowered ≡ lowered_by (target_in tables a) (target_count tables a) counts) where
  done_kept : done_by lowered a ≡ done_by counts a
  done_kept =
      ap (λ (x : List ℕ). done_by x a) low ∙ lowered_before (target_in tables a) (target_count tables a) counts (first_finished + a) (omega arith)

  pub own_countable : count_words ≤ length counts → done_by counts a < max_passes → (count_words ≤ length lowered) × (done_by lowered a < max_passes)
  own_countable l m = (omega (arith, ap length low, lowered_length (target_in tables a) (target_count tables a) counts), omega (arith, done_kept))

-- a finish of item a, of a plan with so many passes; the numbers of its targets are lowered
module _ (plan tables counts values : List ℕ) (a passes : ℕ) (la : a < max_items) (p : passes ≡ passes_of plan) (lowered : List ℕ)
    (low : lowered ≡ lowered_by (target_in tables a) (target_count tables a) counts) where
  again_kept : ltb (suc (done_by lowered a)) (passes - code_fewer (code_in tables a)) ≡ again plan tables counts values a
  again_kept =
      let q : passes ≡ get_or (take plan_words plan) 0 0 = p ∙ sym (get_or-take plan_words plan 0 0 (omega arith)) in
      rw (done_kept tables counts a la lowered low, q)

  pub finished_by : (counts' values' : List ℕ) (word : ℕ) → word ≡ get_or values (first_held + a) 0 →
      counts' ≡ set (set lowered (first_unmet + a) (cond (ltb (suc (done_by lowered a)) (passes - code_fewer (code_in tables a))) (sources_in tables a) 0))
      (first_finished + a) (suc (done_by lowered a)) →
      values' ≡ replaced (λ x. mem x (places_in tables first_write a)) (λ x. word) values →
      ◌≡◌ {A = Left} (record { refusal = 0; word = word; counts = counts'; values = values' }) (finished_in plan tables counts values a)
  unfolding finished_in counts_in
  finished_by counts' values' word w e f =
      let n : counts' ≡ counts_in plan tables counts values a = e ∙ rw (again_kept, done_kept tables counts a la lowered low, low) in
      let v : values' ≡ replaced (λ x. mem x (places_in tables first_write a)) (λ x. get_or values (first_held + a) 0) values =
      f ∙ ap (λ (y : ℕ). replaced (λ x. mem x (places_in tables first_write a)) (λ x. y) values) w in
      rw (n, v, w)

  -- the item itself is made ready or not
  module _ (ready : Bool) (r : ready ≡ (ltb (suc (done_by lowered a)) (passes - code_fewer (code_in tables a)) && eqb (sources_in tables a) 0)) where
    freed_by_lem : freed_by (target_in tables a) (target_count tables a) counts ++ cond ready (a ∷ []) [] ≡ freed_in plan tables counts values a
    unfolding freed_in
    freed_by_lem = rw (r, again_kept)

    pub own_freed : ready ≡ true → freed_by (target_in tables a) (target_count tables a) counts ++ (a ∷ []) ≡ freed_in plan tables counts values a
    own_freed q = ap (λ (t : Bool). freed_by (target_in tables a) (target_count tables a) counts ++ cond t (a ∷ []) []) (sym q) ∙ freed_by_lem

    pub own_not : ready ≡ false → freed_by (target_in tables a) (target_count tables a) counts ≡ freed_in plan tables counts values a
    own_not q =
        sym (append-nil (freed_by (target_in tables a) (target_count tables a) counts))
        ∙ (ap (λ (t : Bool). freed_by (target_in tables a) (target_count tables a) counts ++ cond t (a ∷ []) []) (sym q) ∙ freed_by_lem)

-- item a, which has number 0, is not among the items that lowering puts into a set
pub own_outside : (f : ℕ → ℕ) (counts words mid : List ℕ) (k a : ℕ) → a < max_items → Entered words (λ b. mem b (freed_by f k counts)) mid → in_mask words a ≡ false →
    unmet_by counts a ≡ 0 → in_mask mid a ≡ false
own_outside f counts words mid k a l E h z = E.each a l ∙ rw (h, freed_not f counts k a z)
