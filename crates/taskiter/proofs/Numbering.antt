-- Demand 2: the numbers of refused calls, what an accepted opening, finish or result leaves, and
-- the room that the state has.
use Prim.Native.Nat.{ℕ, ◌+◌, ◌-◌, ◌*◌, ◌≤◌, ◌<◌}
use mathlib.Core.Path.{◌≡◌, refl, sym, ◌∙◌, ap, subst}
use mathlib.Core.Bool.{Bool, true, false, cond, ◌||◌}
use mathlib.Core.Logic.Iff
use mathlib.Core.Logic.{◌↔◌, ◌⊎◌, inl, inr}
use mathlib.Core.List.{List}
use native.Mathlib.Decide.{dec_lt}
use native.Mathlib.Omega.{arith}
use borrow.Author.Tests.{lt-ltb, ltb-true}
use lib.Dec.{ltb}
use lib.ListN.{get_or, take}
use Rattle.finite.specs.Lists.{mem}
use Rattle.finite.proofs.Tests.{false_of, not_both}
use Rattle.unroll.specs.System.{Accesses}
use Rattle.body.specs.Body.{first_slot}
use Rattle.body.specs.Items.{item_rank, item_count, item_at}
use Rattle.body.specs.Places.{copy, system}
use Rattle.edges.specs.Tests.{edge_test}
use Rattle.waits.specs.Waits.{meets}
use Rattle.plan.specs.Limits.{max_word}
use Rattle.plan.specs.Layout.{plan_words}
use Rattle.graph.specs.Answers.{formed_plan, plan_body}
use Rattle.graph.proofs.Small.{plan_fits}
use Rattle.steps.specs.State.{first_finished, first_unmet, first_held, state_of, done_by, unmet_by, FreshNumbers}
use Rattle.steps.specs.Answers.{is_count, is_copy, is_slot, is_held, open_of, finish_of, result_of}
use Rattle.steps.specs.Calls.{Call, start, finish, result, lent}
use Rattle.steps.proofs.Accepting.{Clear, open_accepted, finish_clear, finish_can}
use Rattle.steps.proofs.Refusals.{within, none_short, not_short, open_11, open_12, call_11, call_12, call_13, start_14, start_15, start_16_number, start_16, finish_17, result_18}
use Rattle.steps.proofs.Placing.{count_from, value_from, own_copy, items_few, beyond_unwritten}
use Rattle.steps.proofs.Made.{open_count_size, open_value_size, open_started, open_finished, open_fresh, open_copy, open_slot, open_held}
use Rattle.steps.proofs.Made.{finish_word_lem, finish_count_size, finish_counted, finish_own, finish_other, finish_count_stays, finish_size, finish_written, finish_unwritten}
use Rattle.steps.proofs.Made.{open_count_stays, open_value_stays, result_written, result_unwritten, result_no_pass, result_counts, result_values}
use Rattle.taskiter.specs.Demands.{Short, PlanReady, Ready, FreshCount, AllFresh, UsedCount, of_start, of_finish, of_unmet, UsedValue, of_copy, of_slot, of_held}
use Rattle.taskiter.specs.Demands.{OpenMade, FinishMade, ResultMade, Within, Numbers}
use Rattle.taskiter.proofs.Freshness.{fresh_count_lem, fresh_all, all_fresh, meets_wait}
use Rattle.taskiter.proofs.Readiness.{ready_form, ready_clear, form_ready, clear_ready}
use Rattle.taskiter.proofs.Journals.{check_12, check_more_12}

-- a test of limits, as a fact
ltb_not : (m n : ℕ) → (ltb m n ≡ false) ↔ (m < n → ⊥)
ltb_not m n = (λ e l. not_both (lt-ltb m n l) e, λ f. false_of (ltb m n) (λ e. f (ltb-true m n e)))

within_not : (plan : List ℕ) (c : Call) → (within plan c ≡ false) ↔ (Within (plan_body plan) c → ⊥)
within_not plan (start a) = ltb_not a (item_count (plan_body plan))
within_not plan (finish a) = ltb_not a (item_count (plan_body plan))
within_not plan (result g) = ltb_not g (plan_body plan).regions

module _ (plan counts values : List ℕ) (words : (i : ℕ) → get_or plan i 0 ≤ max_word) where
  to_ready : Clear plan counts values → Ready plan counts values
  to_ready = clear_ready plan counts values words

  from_ready : Ready plan counts values → Clear plan counts values
  from_ready = ready_clear plan counts values

  with_ready : {X Y Z : Type 0} → X ↔ (Clear plan counts values × Y × Z) → X ↔ (Ready plan counts values × Y × Z)
  with_ready k = (λ x. let h = k.0 x in (to_ready h.0, h.1, h.2), λ h. k.1 (from_ready h.0, h.1, h.2))

  idle_ready : {X Y Z S T : Type 0} → X ↔ (Clear plan counts values × Y × Z × S × T) → X ↔ (Ready plan counts values × Y × Z × S × T)
  idle_ready k = (λ x. let h = k.0 x in (to_ready h.0, h.1, h.2, h.3, h.4), λ h. k.1 (from_ready h.0, h.1, h.2, h.3, h.4))

  fresh : AllFresh (plan_body plan) counts values → Clear plan counts values → FreshNumbers (plan_body plan) counts
  fresh F c = all_fresh plan c.formed_plan_lem counts values F

  opening_12 : ((open_of plan counts values).refusal ≡ 12) ↔ ((Short plan counts values → ⊥) × (PlanReady plan counts values → ⊥))
  opening_12 = (
    λ e. let h = (open_12 plan counts values).0 e in (not_short plan counts values h.0, λ R. not_both (ready_form plan counts values R) h.1),
    λ h.
        let l = none_short plan counts values h.0 in
        (open_12 plan counts values).1 (l, false_of (formed_plan plan) (λ f. h.1 (form_ready plan counts values words l f))),
  )

  pub numbers : Numbers plan counts values
  numbers =
      record {
        opening_11 = open_11 plan counts values;
        opening_12 = opening_12;
        check_12 = λ journal. Iff.trans (check_12 plan counts values journal) opening_12;
        check_more_12 = λ journal. check_more_12 plan counts values journal words;
        call_11 = call_11 plan (lent counts values);
        call_12 = λ c.
            let k = call_12 plan (lent counts values) c in
            (λ e. let h = k.0 e in (h.0, λ R. h.1 (from_ready R)), λ h. k.1 (h.0, λ q. h.1 (to_ready q)));
        call_13 = λ c.
            let k = call_13 plan (lent counts values) c in
            (λ e. let h = k.0 e in (to_ready h.0, (within_not plan c).0 h.1), λ h. k.1 (from_ready h.0, (within_not plan c).1 h.1));
        start_14 = λ a. with_ready (start_14 plan counts values a);
        start_15 = λ a. with_ready (start_15 plan counts values a);
        start_16_stored = λ a. idle_ready (start_16_number plan counts values a);
        start_16 = λ F a. (
          λ e.
              let f = fresh F ((start_16_number plan counts values a).0 e).0 in
              (idle_ready (start_16 plan counts values a f)).0 e,
          λ h. (idle_ready (start_16 plan counts values a (fresh F (from_ready h.0)))).1 h,
        );
        finish_17 = λ a. with_ready (finish_17 plan counts values a);
        result_18 = λ g. with_ready (result_18 plan counts values g);
      }

module _ (plan counts values : List ℕ) where
  -- what an accepted opening leaves

  count_used : (i : ℕ) → is_count (plan_body plan) i ≡ true → UsedCount (plan_body plan) i
  count_used i = count_from (plan_body plan) i (UsedCount (plan_body plan) i) (λ l. of_start i l refl) of_finish of_unmet

  value_used : (x : ℕ) → (is_copy (plan_body plan) x || (is_slot (plan_body plan) x || is_held (plan_body plan) x)) ≡ true → UsedValue (plan_body plan) x
  value_used x = value_from (plan_body plan) x (UsedValue (plan_body plan) x) of_copy of_slot of_held

  pub open_made : (open_of plan counts values).refusal ≡ 0 → OpenMade (plan_body plan) counts values (open_of plan counts values)
  open_made h =
      record {
        count_size = open_count_size plan counts values h;
        value_size = open_value_size plan counts values h;
        count_set = λ a l. (open_started plan counts values h a l, open_finished plan counts values h a l);
        number_set = fresh_all plan ((open_accepted plan counts values).0 h).1 (open_of plan counts values).counts (open_of plan counts values).values (open_fresh plan counts values h);
        copy_set = open_copy plan counts values h;
        slot_set = open_slot plan counts values h;
        held_set = open_held plan counts values h;
        count_stays = λ i f. open_count_stays plan counts values h i (false_of (is_count (plan_body plan) i) (λ e. f (count_used i e)));
        value_stays = λ x f.
            open_value_stays plan counts values h x
            (false_of (is_copy (plan_body plan) x || (is_slot (plan_body plan) x || is_held (plan_body plan) x)) (λ e. f (value_used x e)));
      }

  -- what an accepted finish leaves

  pub finish_made : (a : ℕ) → (finish_of plan counts values a).refusal ≡ 0 → FinishMade (plan_body plan) counts values a (finish_of plan counts values a)
  finish_made a h =
      record {
        word = finish_word_lem plan counts values a h;
        count_size = finish_count_size plan counts values a h;
        counted = finish_counted plan counts values a h;
        lowered = λ b lb other m.
            finish_other plan counts values a h b lb other
            ∙ ap (λ (t : Bool). cond t (unmet_by counts b - 1) (unmet_by counts b)) ((meets_wait plan formed counts values a b below lb).1 m);
        unlowered = λ b lb other f.
            finish_other plan counts values a h b lb other
            ∙ ap (λ (t : Bool). cond t (unmet_by counts b - 1) (unmet_by counts b))
            (false_of (meets (system (plan_body plan)) (edge_test (plan_body plan)) (done_by counts) a b) (λ e. f ((meets_wait plan formed counts values a b below lb).0 e)));
        own = subst (FreshCount (plan_body plan) (state_of (finish_of plan counts values a).counts (finish_of plan counts values a).values) a) (sym (finish_own plan counts values a h))
            (fresh_count_lem plan formed (finish_of plan counts values a).counts (finish_of plan counts values a).values a below);
        count_stays = λ i ne f. finish_count_stays plan counts values a h i ne (outside i f);
        size = finish_size plan counts values a h;
        written = finish_written plan counts values a h;
        unwritten = finish_unwritten plan counts values a h;
      }
    where
      formed : formed_plan plan ≡ true
      formed = (finish_clear plan counts values a h).formed_plan_lem

      below : a < item_count (plan_body plan)
      below = ((finish_can plan counts values (finish_clear plan counts values a h) a).0 h).in_range

      outside : (i : ℕ) → ((b : ℕ) → b < item_count (plan_body plan) → i ≡ first_unmet + b → ⊥) → (i < first_unmet) ⊎ (first_unmet + item_count (plan_body plan) ≤ i)
      outside i f =
          elim (dec_lt i first_unmet) [
            | yes l ↦ inl l
            | no l ↦
                elim (dec_lt i (first_unmet + item_count (plan_body plan))) [
                  | yes k ↦ absurd (f (i - first_unmet) (omega arith) (omega arith))
                  | no k ↦ inr (omega arith)
                ]
          ]

  -- what an accepted result answers

  pub result_made : (g : ℕ) → (result_of plan counts values g).refusal ≡ 0 → ResultMade (plan_body plan) counts values g (result_of plan counts values g)
  result_made g h =
      record {
        written = result_written plan counts values g h;
        unwritten = result_unwritten plan counts values g h;
        no_pass_lem = result_no_pass plan counts values g h;
        count_stays = result_counts plan counts values g h;
        value_stays = result_values plan counts values g h;
      }

  -- room

  pub room : PlanReady plan counts values → (item_count (plan_body plan) ≤ first_finished) × ((plan_body plan).ranks * (plan_body plan).regions ≤ first_slot)
  room R = let f = ready_form plan counts values R in (items_few (take plan_words plan) f, (plan_fits (take plan_words plan) f).room)

  pub held_apart : PlanReady plan counts values → (a b : ℕ) → a < item_count (plan_body plan) → mem (first_held + b) ((system (plan_body plan)).writes a) ≡ false
  held_apart R a b l = beyond_unwritten (take plan_words plan) (ready_form plan counts values R) a (first_held + b) l (omega arith)

  pub own_rank : PlanReady plan counts values → (a x : ℕ) → a < item_count (plan_body plan) → Accesses (system (plan_body plan)) a x → x < first_slot →
      (g : ℕ) × (g < (plan_body plan).regions) × (x ≡ copy (plan_body plan) (item_rank (plan_body plan) (item_at (plan_body plan) a)) g)
  own_rank R = own_copy (plan_body plan) (plan_fits (take plan_words plan) (ready_form plan counts values R))
