-- A step by tables, by what refuses it; and what is known where nothing does.
use Prim.Native.Nat.{ℕ, ◌+◌, ◌≤◌, ◌<◌}
use mathlib.Core.Path.{◌≡◌, refl}
use mathlib.Core.Bool.{Bool, true, false, cond, not, ◌&&◌, ◌||◌}
use mathlib.Core.List.{List, []}
use native.Mathlib.Decide.{ℕ_discrete}
use native.Mathlib.Omega.{arith}
use borrow.Author.Tests.{eqb-true, ltb-true, leb-true, eq-eqb, ne_eqb}
use lib.Dec.{eqb, ltb, leb}
use lib.ListN.{length, get_or}
use Rattle.finite.specs.Below.{all_below}
use Rattle.finite.proofs.Below.{all_at}
use Rattle.finite.proofs.Tests.{and-true, or_right}
use Rattle.plan.specs.Limits.{max_passes, max_accesses}
use Rattle.plan.specs.Sizes.{max_items, max_edges, first_held}
use Rattle.graph.specs.Answers.{refusal_of, plan_body}
use Rattle.steps.specs.State.{state_of, done_by, unmet_by}
use Rattle.steps.specs.Answers.{Left, count_ok, tests_by, finish_tests, unless}
use Rattle.prepared.specs.Tables.{first_read, first_write, items_in, sources_in, start_in, target_count, target_in, place_count, place_in}
use Rattle.prepared.specs.Steps.{own_in, item_ok, places_ok, targets_ok, start_ok, finish_ok, started_in, start_prepared, finished_in, finish_prepared}
use Rattle.ranges.specs.Judged.{first_refusal, all_long, start_refusal, finish_refusal, StartClear, FinishClear}
use Rattle.ranges.proofs.Refusing.{lengths_long}

-- two refusals one after another
module _ (plan counts values : List ℕ) (long : Bool) (n a : ℕ) (ok : Bool) (own : ℕ) (made : Left) where
  first_both :
      unless plan counts values (refusal_of long (leb n max_items && (not (ltb a n) || ok)) (ltb a n)) (unless plan counts values own made)
      ≡ unless plan counts values (first_refusal long n a ok own) made
  unfolding first_refusal
  first_both = both (refusal_of long (leb n max_items && (not (ltb a n) || ok)) (ltb a n))
    where
      both : (r : ℕ) → unless plan counts values r (unless plan counts values own made) ≡ unless plan counts values (cond (eqb r 0) own r) made
      both r =
          elim (ℕ_discrete r 0) [
            | yes e ↦ rw (eq-eqb r 0 e)
            | no e ↦ rw (ne_eqb r 0 e, ne_eqb r 0 e)
          ]

module _ (plan tables counts values : List ℕ) (a : ℕ) where
  pub start_is : start_prepared plan tables counts values a ≡ unless plan counts values (start_refusal plan tables counts (length values) a) (started_in plan tables counts values a)
  unfolding start_prepared start_refusal start_ok
  start_is = first_both plan counts values (all_long plan tables counts (length values)) (items_in tables) a (start_ok plan tables counts [] a) _ (started_in plan tables counts values a)

  pub finish_is : finish_prepared plan tables counts values a ≡ unless plan counts values (finish_refusal plan tables counts (length values) a) (finished_in plan tables counts values a)
  unfolding finish_prepared finish_refusal finish_ok
  finish_is = first_both plan counts values (all_long plan tables counts (length values)) (items_in tables) a (finish_ok plan tables counts [] a) _ (finished_in plan tables counts values a)

-- nothing refuses
record Accepted (long : Bool) (n a : ℕ) (ok : Bool) (own : ℕ) : Type 0 where
  is_long : long ≡ true
  few : n ≤ max_items
  within : a < n
  words : ok ≡ true
  none : own ≡ 0

module _ (long : Bool) (n a : ℕ) (ok : Bool) (own : ℕ) where
  accepted : first_refusal long n a ok own ≡ 0 → Accepted long n a ok own
  unfolding first_refusal
  accepted e =
      let h = each long (leb n max_items) (ltb a n) ok e in
      record { is_long = h.0; few = leb-true _ _ h.1; within = ltb-true _ _ h.2; words = h.3; none = h.4 }
    where
      each : (l m b o : Bool) → cond (eqb (refusal_of l (m && (not b || o)) b) 0) own (refusal_of l (m && (not b || o)) b) ≡ 0 →
          (l ≡ true) × (m ≡ true) × (b ≡ true) × (o ≡ true) × (own ≡ 0)
      each false m b o e = let z : ◌≡◌ {A = ℕ} 11 0 = e in absurd (omega arith)
      each true false b o e = let z : ◌≡◌ {A = ℕ} 12 0 = e in absurd (omega arith)
      each true true false o e = let z : ◌≡◌ {A = ℕ} 13 0 = e in absurd (omega arith)
      each true true true false e = let z : ◌≡◌ {A = ℕ} 12 0 = e in absurd (omega arith)
      each true true true true e = (refl, refl, refl, refl, e)

module _ (plan tables counts : List ℕ) (room a : ℕ) where
  listed : (first : ℕ) → places_ok plan tables counts [] first a ≡ true →
      (place_count tables first a ≤ max_accesses) × ((k : ℕ) → k < place_count tables first a → place_in tables first a k < first_held)
  listed first e =
      let h = and-true (leb (place_count tables first a) max_accesses) (all_below (place_count tables first a) (λ k. ltb (place_in tables first a k) first_held)) e in
      (leb-true _ _ h.0, λ k l. ltb-true _ _ (all_at (λ k. ltb (place_in tables first a k) first_held) (place_count tables first a) k h.1 l))

  -- no more passes than a plan can have
  passes_most : item_ok plan tables counts [] a ≡ true → own_in plan tables counts [] a ≤ max_passes
  passes_most e =
      omega (
        arith,
        leb-true (plan_body plan).passes max_passes
            (and-true (leb (plan_body plan).passes max_passes) (count_ok (own_in plan tables counts [] a) (state_of counts []) a && leb (unmet_by counts a) (items_in tables)) e).0,
      )

  -- a pass is left where a start, or a finish, is accepted
  start_left : tests_by (own_in plan tables counts [] a) (state_of counts []) (unmet_by counts a) a ≡ 0 → get_or counts a 0 < own_in plan tables counts [] a
  start_left e =
      let h = each (ltb (done_by counts a) (own_in plan tables counts [] a)) (eqb (get_or counts a 0) (done_by counts a)) (eqb (unmet_by counts a) 0) e in
      omega (arith, ltb-true (done_by counts a) (own_in plan tables counts [] a) h.0, eqb-true (get_or counts a 0) (done_by counts a) h.1)
    where
      each : (l i u : Bool) → ◌≡◌ {A = ℕ} (cond l (cond i (cond u 0 16) 15) 14) 0 → (l ≡ true) × (i ≡ true)
      each false i u e = let z : ◌≡◌ {A = ℕ} 14 0 = e in absurd (omega arith)
      each true false u e = let z : ◌≡◌ {A = ℕ} 15 0 = e in absurd (omega arith)
      each true true u e = (refl, refl)

  finish_left : item_ok plan tables counts [] a ≡ true → finish_tests (state_of counts []) a ≡ 0 → done_by counts a < own_in plan tables counts [] a
  finish_left ok e =
      let own = own_in plan tables counts [] a in
      let u = and-true (leb (plan_body plan).passes max_passes) (count_ok own (state_of counts []) a && leb (unmet_by counts a) (items_in tables)) ok in
      let v = and-true (count_ok own (state_of counts []) a) (leb (unmet_by counts a) (items_in tables)) u.1 in
      let t = eqb (get_or counts a 0) (done_by counts a) in
      let w = and-true (leb (done_by counts a) own) (t || (eqb (get_or counts a 0) (done_by counts a + 1) && ltb (done_by counts a) own)) v.0 in
      ltb-true _ _ (and-true (eqb (get_or counts a 0) (done_by counts a + 1)) (ltb (done_by counts a) own) (or_right t _ w.1 (running t e))).1
    where
      running : (t : Bool) → ◌≡◌ {A = ℕ} (cond t 17 0) 0 → t ≡ false
      running false e = refl
      running true e = let z : ◌≡◌ {A = ℕ} 17 0 = e in absurd (omega arith)

  pub start_clear : start_refusal plan tables counts room a ≡ 0 → StartClear plan tables counts room a
  unfolding start_refusal start_ok
  start_clear e =
      let A = accepted (all_long plan tables counts room) (items_in tables) a (start_ok plan tables counts [] a) (tests_by (own_in plan tables counts [] a) (state_of counts []) (unmet_by counts a) a) e in
      let long = lengths_long (length plan) (length tables) (length counts) room A.is_long in
      let ok = and-true (item_ok plan tables counts [] a) (places_ok plan tables counts [] first_read a) A.words in
      let row = listed first_read ok.1 in
      record {
        long_plan_lem = long.0;
        long_tables = long.1;
        long_counts = long.2;
        long_values = long.3;
        below = omega (arith, A.few, A.within);
        few = row.0;
        places = row.1;
        small = omega (arith, passes_most ok.0, start_left A.none);
      }

  pub finish_clear : finish_refusal plan tables counts room a ≡ 0 → FinishClear plan tables counts room a
  unfolding finish_refusal finish_ok
  finish_clear e =
      let A = accepted (all_long plan tables counts room) (items_in tables) a (finish_ok plan tables counts [] a) (finish_tests (state_of counts []) a) e in
      let long = lengths_long (length plan) (length tables) (length counts) room A.is_long in
      let ok = and-true (item_ok plan tables counts [] a) (places_ok plan tables counts [] first_write a && targets_ok plan tables counts [] a) A.words in
      let both = and-true (places_ok plan tables counts [] first_write a) (targets_ok plan tables counts [] a) ok.1 in
      let row = listed first_write both.0 in
      let all = all_below (target_count tables a) (λ k. ltb (target_in tables a k) (items_in tables)) in
      let u = and-true (ltb (sources_in tables a) (items_in tables)) (leb (start_in tables (a + 1)) max_edges && (ltb (target_count tables a) (items_in tables) && all)) both.1 in
      let v = and-true (leb (start_in tables (a + 1)) max_edges) (ltb (target_count tables a) (items_in tables) && all) u.1 in
      let w = and-true (ltb (target_count tables a) (items_in tables)) all v.1 in
      record {
        long_plan_lem = long.0;
        long_tables = long.1;
        long_counts = long.2;
        long_values = long.3;
        below = omega (arith, A.few, A.within);
        few = row.0;
        places = row.1;
        ends = leb-true _ _ v.0;
        target_few = omega (arith, A.few, ltb-true (target_count tables a) (items_in tables) w.0);
        targets = λ k l. omega (
          arith,
          A.few,
          ltb-true (target_in tables a k) (items_in tables) (all_at (λ k. ltb (target_in tables a k) (items_in tables)) (target_count tables a) k w.1 l),
        );
        small = omega (arith, passes_most ok.0, finish_left ok.0 A.none);
      }
