-- A start or finish by the tables of the plan answers and leaves what the ordinary one does: in a
-- state in form, and, for a finish, in step.
use Prim.Native.Nat.{ℕ, suc, ◌≤◌, ◌<◌}
use mathlib.Core.Path.{◌≡◌, refl, sym, ◌∙◌, ap, ap₂}
use mathlib.Core.Bool.{Bool, true, false, cond, ◌&&◌}
use mathlib.Core.Logic.{◌⊎◌, inl, inr}
use mathlib.Core.List.{List}
use native.Mathlib.Decide.{dec_lt}
use native.Mathlib.Omega.{arith}
use borrow.Author.Tests.{eqb-false, le-leb, lt-ltb, le-ltb}
use lib.Dec.{eqb, ltb, leb}
use lib.ListN.{length, get_or}
use Rattle.finite.proofs.Tests.{and_intro}
use Rattle.finite.proofs.Below.{all_at}
use Rattle.body.specs.Items.{item_count, item_passes}
use Rattle.body.specs.Places.{system}
use Rattle.edges.specs.Tests.{edge_test}
use Rattle.waits.specs.InStep.{InStep}
use Rattle.plan.specs.Limits.{max_passes}
use Rattle.plan.specs.Sizes.{max_items}
use Rattle.plan.specs.Layout.{plan_words}
use Rattle.graph.specs.Answers.{plan_body, is_item}
use Rattle.steps.specs.State.{state_of, done_by, unmet_by}
use Rattle.steps.specs.Answers.{Left, count_ok, tests_by, start_tests, finish_tests, long_slices, call_refusal, unless, started, start_of, finished, finish_of}
use Rattle.steps.proofs.Accepting.{Clear, long_slices_lem, formed_counts_lem, formed_numbers_lem}
use Rattle.prepared.specs.Tables.{prepared_words, first_read, first_write}
use Rattle.prepared.specs.Steps.{own_in, item_ok, places_ok, targets_ok, start_ok, finish_ok, step_refusal, started_in, start_prepared, finished_in, finish_prepared}
use Rattle.prepared.specs.Laws.{Prepared}
use Rattle.prepared.proofs.Coded.{passes_few}
use Rattle.prepared.proofs.Usable.{reads_ok, writes_ok, targets_ok_lem, own_passes_lem}
use Rattle.prepared.proofs.Starting.{started_same}
use Rattle.prepared.proofs.Finishing.{finished_same}

module _ (plan tables counts values : List ℕ) (P : Prepared plan tables) (C : Clear plan counts values) where
  abbrev n : ℕ
  n = item_count (plan_body plan)

  long : plan_words ≤ length plan
  long = ((long_slices_lem plan counts values).0 C.long).0

  -- 11, 12 and 13

  all_long_lem : (long_slices plan counts values && leb prepared_words (length tables)) ≡ true
  all_long_lem = and_intro (long_slices plan counts values) (leb prepared_words (length tables)) C.long (le-leb prepared_words (length tables) P.long)

  step_refusal_lem : (a : ℕ) (ok : Bool) → (a < n → ok ≡ true) → step_refusal plan tables counts values a ok ≡ cond (ltb a n) 0 13
  step_refusal_lem a ok h =
      rw (all_long_lem, P.items, le-leb n max_items P.most)
      (elim (dec_lt a n) [
        | yes l ↦ rw (lt-ltb a n l, h l)
        | no l ↦ rw (le-ltb a n (omega arith))
      ])

  call_refusal_lem : (a : ℕ) → call_refusal plan counts values (is_item plan a) ≡ cond (ltb a n) 0 13
  call_refusal_lem a = rw (C.long, C.formed_plan_lem, C.formed_counts_lem, C.formed_numbers_lem)

  step_same : (a : ℕ) (ok : Bool) (tests tests' : ℕ) (made made' : Left) → (a < n → ok ≡ true) →
      (a < n → unless plan counts values tests made ≡ unless plan counts values tests' made') →
      unless plan counts values (step_refusal plan tables counts values a ok) (unless plan counts values tests made)
      ≡ unless plan counts values (call_refusal plan counts values (is_item plan a)) (unless plan counts values tests' made')
  step_same a ok tests tests' made made' h e =
      ap (λ (r : ℕ). unless plan counts values r (unless plan counts values tests made)) (step_refusal_lem a ok h)
      ∙ (elim (dec_lt a n) [
        | yes l ↦ rw (lt-ltb a n l) (e l)
        | no l ↦ rw (le-ltb a n (omega arith))
      ]
      ∙ sym (ap (λ (r : ℕ). unless plan counts values r (unless plan counts values tests' made')) (call_refusal_lem a)))

  -- the words that a step of item a uses lie in their ranges
  module _ (a : ℕ) (la : a < n) where
    item_ok_lem : item_ok plan tables counts values a ≡ true
    item_ok_lem =
        rw (
          le-leb (plan_body plan).passes max_passes (passes_few plan long C.formed_plan_lem),
          own_passes_lem plan tables P a la long C.formed_plan_lem counts values,
          all_at (λ b. count_ok (item_passes (plan_body plan) b) (state_of counts values) b) n a C.formed_counts_lem la,
          P.items,
          le-leb (unmet_by counts a) n ((formed_numbers_lem plan counts values).0 C.formed_numbers_lem a la),
        )

    pub start_ok_lem : start_ok plan tables counts values a ≡ true
    unfolding start_ok
    start_ok_lem =
        and_intro (item_ok plan tables counts values a) (places_ok plan tables counts values first_read a) item_ok_lem
        (reads_ok plan tables P a la counts values)

    pub finish_ok_lem : finish_ok plan tables counts values a ≡ true
    unfolding finish_ok
    finish_ok_lem =
        and_intro (item_ok plan tables counts values a) (places_ok plan tables counts values first_write a && targets_ok plan tables counts values a) item_ok_lem
        (and_intro (places_ok plan tables counts values first_write a) (targets_ok plan tables counts values a)
        (writes_ok plan tables P a la counts values) (targets_ok_lem plan tables P a la counts values))

  pub start_same : (a : ℕ) → start_prepared plan tables counts values a ≡ start_of plan counts values a
  unfolding start_prepared start_of
  start_same a =
      step_same a (start_ok plan tables counts values a) (tests_by (own_in plan tables counts values a) (state_of counts values) (unmet_by counts a) a)
      (start_tests (plan_body plan) (state_of counts values) (unmet_by counts a) a) (started_in plan tables counts values a) (started plan counts values a) (start_ok_lem a)
      (λ l. ap₂ (λ (p : ℕ) (r : Left). unless plan counts values (tests_by p (state_of counts values) (unmet_by counts a) a) r)
      (own_passes_lem plan tables P a l long C.formed_plan_lem counts values) (started_same plan tables counts values long C.formed_plan_lem P a l))

  module _ (steps : (a : ℕ) → a < n → get_or counts a 0 ≡ suc (done_by counts a) → InStep (system (plan_body plan)) (edge_test (plan_body plan)) (done_by counts) (unmet_by counts) a) where
    finish_made : (a : ℕ) → a < n → (t : Bool) → eqb (get_or counts a 0) (done_by counts a) ≡ t →
        unless plan counts values (cond t 17 0) (finished_in plan tables counts values a) ≡ unless plan counts values (cond t 17 0) (finished plan counts values a)
    finish_made a l true e = refl
    finish_made a l false e =
        finished_same plan tables counts values long C.formed_plan_lem P ((long_slices_lem plan counts values).0 C.long).1 a l
        (steps a l (runs ((formed_counts_lem plan counts values).0 C.formed_counts_lem a l).1))
      where
        runs : (get_or counts a 0 ≡ done_by counts a) ⊎ ((get_or counts a 0 ≡ suc (done_by counts a)) × (done_by counts a < item_passes (plan_body plan) a)) →
            get_or counts a 0 ≡ suc (done_by counts a)
        runs (inl h) = absurd (eqb-false (get_or counts a 0) (done_by counts a) e h)
        runs (inr h) = h.0

    pub finish_same : (a : ℕ) → finish_prepared plan tables counts values a ≡ finish_of plan counts values a
    unfolding finish_prepared finish_of
    finish_same a =
        step_same a (finish_ok plan tables counts values a) (finish_tests (state_of counts values) a) (finish_tests (state_of counts values) a)
        (finished_in plan tables counts values a) (finished plan counts values a) (finish_ok_lem a)
        (λ l. finish_made a l (eqb (get_or counts a 0) (done_by counts a)) refl)
