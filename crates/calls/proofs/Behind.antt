-- What a call answers behind its door, by the tests that are left: w, C and W are the words of the
-- plan, the counts and the values.
use Prim.Native.Nat.{ℕ, ◌+◌, ◌*◌, ◌≤◌, ◌<◌}
use mathlib.Core.Path.{◌≡◌, refl, sym, ◌∙◌, ap}
use mathlib.Core.Bool.{Bool, true, false, cond, not, ◌&&◌, ◌||◌}
use mathlib.Core.Logic.{⊎_elim}
use mathlib.Core.List.{List, []}
use mathlib.Core.Option.{Option, none, some}
use native.Mathlib.Numerals.{add-one}
use native.Mathlib.Omega.{arith}
use borrow.Author.Tests.{eqb-true, ltb-true, eq-eqb, ne_eqb, lt-ltb, le-ltb, le-leb, not-true, not-false}
use lib.Dec.{eqb, ltb, leb}
use lib.ListN.{length, get_or, set, take}
use Rattle.finite.specs.Below.{all_below, sum_below}
use Rattle.finite.specs.Lists.{mem}
use Rattle.finite.specs.Update.{replaced}
use Rattle.finite.proofs.Tests.{and-true, or_cases}
use Rattle.finite.proofs.Below.{all_of}
use Rattle.finite.proofs.Within.{within}
use Rattle.unroll.specs.Sequential.{word_on}
use Rattle.unroll.specs.AnyOrder.{all_steps}
use Rattle.body.specs.Body.{Body}
use Rattle.body.specs.Items.{item_count, item_passes, total_steps}
use Rattle.body.specs.Transfers.{last_before}
use Rattle.body.specs.Places.{initial, system, result_from, result_of as region_result}
use Rattle.body.proofs.WrappedCount.{all_steps_lem}
use Rattle.plan.specs.Limits.{max_passes}
use Rattle.plan.specs.Sizes.{count_words, value_words, first_finished, first_unmet, first_held}
use Rattle.plan.specs.Layout.{plan_words, body_of, regions_of}
use Rattle.graph.specs.Table.{Graph}
use Rattle.graph.specs.Answers.{refusal_of, plan_body, is_item}
use Rattle.graph.proofs.Lookup.{passes_most}
use Rattle.steps.specs.State.{state_of, done_by, unmet_by}
use Rattle.steps.specs.Answers.{Left, count_ok, is_complete, start_tests, finish_tests, formed_counts, formed_numbers, long_slices, call_refusal, refused}
use Rattle.steps.specs.Answers.{started, start_of, finished, finished_counts, finish_of, shown, result_of, open_count, is_copy, is_slot, is_held, open_of}
use Rattle.values.specs.Items.{Formed, Found}
use Rattle.values.proofs.Plans.{plan_whole}
use Rattle.values.proofs.Finding.{found_at, whole_plan}
use Rattle.calls.specs.Told.{told}
use Rattle.doors.specs.Doors.{Clear}
use Rattle.doors.proofs.Counting.{complete_is, counts_below, counts_opened}

-- a result does not depend on the counts
pub result_apart : (B : Body) (C D W : List ℕ) (g : ℕ) → region_result B (state_of C W) g ≡ region_result B (state_of D W) g
unfolding region_result
result_apart B C D W g = go (last_before B B.tasks g)
  where
    go : (o : Option ℕ) → result_from B (state_of C W) g o ≡ result_from B (state_of D W) g o
    go none = refl
    go (some j) = refl

-- nor do the counts that a finish leaves depend on the values
finish_apart : (w C U W : List ℕ) (a : ℕ) → finished_counts w C U a ≡ finished_counts w C W a
unfolding finished_counts
finish_apart w C U W a = refl

-- an item's start is counted and its word held
module _ (w : List ℕ) (a code : ℕ) (F : Found w a code) (C W : List ℕ) where
  pub started_is : (word : ℕ) → word ≡ word_on (system (body_of w)) a (λ x. get_or W x 0) →
      ◌≡◌ {A = Left} (told (record { refusal = 0; word = word }) (set C a (get_or C a 0 + 1)) (set W (first_held + a) word)) (started w C W a)
  started_is word e = rw (whole_plan w a code F, add-one, e)

module _ (w table : List ℕ) (n : ℕ) (G : Graph w table n) where
  pub graph_formed : Formed w
  graph_formed = record { long = G.long; formed = G.formed }

  pub whole : take plan_words w ≡ w
  whole = plan_whole w graph_formed

  -- two steps for each of them
  pub total_is : (steps : ℕ) → steps ≡ sum_below n (λ a. 2 * item_passes (body_of w) a) → steps ≡ total_steps (body_of w)
  unfolding all_steps
  total_is steps e = e ∙ (ap (λ (m : ℕ). sum_below m (λ a. 2 * item_passes (body_of w) a)) G.count ∙ all_steps_lem (body_of w))

  module _ (C W : List ℕ) (c : count_words ≤ length C) (v : value_words ≤ length W) where
    long : long_slices w C W ≡ true
    long = rw (le-leb plan_words (length w) (omega (arith, G.long)), le-leb count_words (length C) c, le-leb value_words (length W) v)

    -- an opening
    pub open_made : (D C' W' : List ℕ) → D ≡ replaced (counts_below n) (λ i. 0) C → C' ≡ replaced (within first_unmet n) (open_count (body_of w)) D →
        W' ≡ replaced (λ x. is_copy (body_of w) x || (is_slot (body_of w) x || is_held (body_of w) x)) (initial (body_of w)) W →
        ◌≡◌ {A = Left} (record { refusal = 0; word = 0; counts = C'; values = W' }) (open_of w C W)
    unfolding open_of
    open_made D C' W' e d f = rw (long, whole, G.formed, counts_opened (body_of w) n G.count G.most C D C' e d, f)

module _ (w C table : List ℕ) (n : ℕ) (G : Graph w table n) (K : Clear w C n) (W : List ℕ) (v : value_words ≤ length W) where
  formed_counts_lem : formed_counts w C W ≡ true
  formed_counts_lem =
      rw (whole w table n G) (all_of (λ a. count_ok (item_passes (body_of w) a) (state_of C W) a) (item_count (body_of w)) (λ a l. K.counts_ok_lem a (omega (arith, G.count))))

  formed_numbers_lem : formed_numbers w C W ≡ true
  formed_numbers_lem =
      rw (whole w table n G)
      (all_of (λ a. leb (unmet_by C a) (item_count (body_of w))) (item_count (body_of w))
      (λ a l. rw (← G.count) (K.numbers_ok a (omega (arith, G.count)))))

  -- only the number is left to be tested
  call_is : (t : Bool) → call_refusal w C W t ≡ refusal_of true true t
  call_is t = rw (long w table n G C W K.room v, formed_counts_lem, formed_numbers_lem, whole w table n G, G.formed)

  item_is : (item : ℕ) → is_item w item ≡ ltb item n
  item_is item = rw (whole w table n G, G.count)

  -- a number that no item or region has
  pub start_beyond : (item : ℕ) → n ≤ item → refused w C W 13 ≡ start_of w C W item
  unfolding start_of
  start_beyond item l = rw (call_is (is_item w item), item_is item, le-ltb item n l)

  pub finish_beyond : (item : ℕ) → n ≤ item → refused w C W 13 ≡ finish_of w C W item
  unfolding finish_of
  finish_beyond item l = rw (call_is (is_item w item), item_is item, le-ltb item n l)

  pub result_beyond : (g : ℕ) → regions_of w ≤ g → refused w C W 13 ≡ result_of w C W g
  unfolding result_of
  result_beyond g l = rw (call_is (ltb g (plan_body w).regions), whole w table n G, le-ltb g (regions_of w) l)

  module _ (item a : ℕ) (at : a ≡ item) (below : item < n) where
    item_below : a < n
    item_below = omega (arith, at)

    abbrev pub tests : ℕ
    tests = start_tests (body_of w) (state_of C W) (unmet_by C a) a

    pub start_tested : start_of w C W item ≡ cond (eqb tests 0) (started w C W a) (refused w C W tests)
    unfolding start_of
    start_tested = rw (call_is (is_item w item), item_is item, lt-ltb item n below, whole w table n G, ← at)

    finish_tested : finish_of w C W item ≡ cond (eqb (finish_tests (state_of C W) a) 0) (finished w C W a) (refused w C W (finish_tests (state_of C W) a))
    unfolding finish_of
    finish_tested = rw (call_is (is_item w item), item_is item, lt-ltb item n below, ← at)

    -- a start, by the passes that the item has, and has started and finished
    module _ (own : ℕ) (has : own ≡ item_passes (body_of w) a) where
      pub start_done : own ≤ get_or C (first_finished + a) 0 → refused w C W 14 ≡ start_of w C W item
      start_done l = sym (start_tested ∙ rw (le-ltb (get_or C (first_finished + a) 0) (item_passes (body_of w) a) (omega (arith, has))))

      module _ (left : get_or C (first_finished + a) 0 < own) where
        has_left : ltb (get_or C (first_finished + a) 0) (item_passes (body_of w) a) ≡ true
        has_left = lt-ltb (get_or C (first_finished + a) 0) (item_passes (body_of w) a) (omega (arith, has))

        pub start_running : (get_or C a 0 ≡ get_or C (first_finished + a) 0 → ⊥) → refused w C W 15 ≡ start_of w C W item
        start_running r = sym (start_tested ∙ rw (has_left, ne_eqb (get_or C a 0) (get_or C (first_finished + a) 0) r))

        module _ (idle : get_or C a 0 ≡ get_or C (first_finished + a) 0) where
          tests_are : tests ≡ cond (eqb (unmet_by C a) 0) 0 16
          tests_are = rw (has_left, eq-eqb (get_or C a 0) (get_or C (first_finished + a) 0) idle)

          pub start_waiting : (unmet_by C a ≡ 0 → ⊥) → refused w C W 16 ≡ start_of w C W item
          start_waiting h = sym (start_tested ∙ rw (tests_are, ne_eqb (unmet_by C a) 0 h))

          pub start_made : unmet_by C a ≡ 0 → (x : Left) → x ≡ started w C W a → x ≡ start_of w C W item
          start_made h x e = e ∙ sym (start_tested ∙ rw (tests_are, eq-eqb (unmet_by C a) 0 h))

          pub start_asks : (code : ℕ) → code ≡ get_or table a 0 → Found w a code × (count_words ≤ length C) × (value_words ≤ length W) × (get_or C a 0 < max_passes)
          start_asks code e = (found_at w table n G a code item_below e, K.room, v, omega (arith, has, passes_most w table n G))

    -- a finish
    pub finish_idle : get_or C a 0 ≡ get_or C (first_finished + a) 0 → refused w C W 17 ≡ finish_of w C W item
    finish_idle e = sym (finish_tested ∙ rw (eq-eqb (get_or C a 0) (get_or C (first_finished + a) 0) e))

    module _ (runs : get_or C a 0 ≡ get_or C (first_finished + a) 0 → ⊥) where
      pub finish_made : (C' W' : List ℕ) (word : ℕ) → C' ≡ finished_counts w C [] a → word ≡ get_or W (first_held + a) 0 →
          W' ≡ replaced (λ x. mem x ((system (body_of w)).writes a)) (λ x. get_or W (first_held + a) 0) W →
          ◌≡◌ {A = Left} (record { refusal = 0; word = word; counts = C'; values = W' }) (finish_of w C W item)
      finish_made C' W' word c e f =
          sym (finish_tested ∙ rw (ne_eqb (get_or C a 0) (get_or C (first_finished + a) 0) runs, c ∙ finish_apart w C [] W a, e, f, whole w table n G))

      started_one : (s d p : ℕ) → (leb d p && (eqb s d || (eqb s (d + 1) && ltb d p))) ≡ true → (s ≡ d → ⊥) → d < p
      started_one s d p h k =
          ⊎_elim
          (λ e. absurd (k (eqb-true s d e)))
          (λ e. ltb-true d p (and-true (eqb s (d + 1)) (ltb d p) e).1)
          (or_cases (eqb s d) (eqb s (d + 1) && ltb d p) (and-true (leb d p) (eqb s d || (eqb s (d + 1) && ltb d p)) h).1)

      pub finish_asks : (a < n) × (count_words ≤ length C) × (done_by C a < max_passes)
      finish_asks = (
        item_below,
        K.room,
        omega (arith, started_one (get_or C a 0) (get_or C (first_finished + a) 0) (item_passes (body_of w) a) (K.counts_ok_lem a item_below) runs, passes_most w table n G),
      )

      pub write_asks : (code : ℕ) → code ≡ get_or table a 0 → Found w a code × (value_words ≤ length W)
      write_asks code e = (found_at w table n G a code item_below e, v)

  -- a result
  module _ (region : ℕ) (below : region < regions_of w) (ok : Bool)
      (o : ok ≡ all_below n (λ a. eqb (get_or C (first_finished + a) 0) (item_passes (body_of w) a))) where
    result_tested : result_of w C W region ≡ cond ok (shown w C W region) (refused w C W 18)
    unfolding result_of
    result_tested = rw (call_is (ltb region (plan_body w).regions), whole w table n G, lt-ltb region (regions_of w) below, ← complete) (go _ ok)
      where
        complete : ok ≡ is_complete (body_of w) (state_of C W)
        complete = o ∙ complete_is G C W

        go : (x : Left) (b : Bool) → cond (eqb (cond b 0 18) 0) x (refused w C W (cond b 0 18)) ≡ cond b x (refused w C W 18)
        go x true = refl
        go x false = refl

    pub result_early : not ok ≡ true → refused w C W 18 ≡ result_of w C W region
    result_early h = sym (result_tested ∙ rw (not-true ok h))

    pub result_made : not ok ≡ false → (g word : ℕ) → g ≡ region → word ≡ region_result (body_of w) (state_of [] W) g →
        ◌≡◌ {A = Left} (record { refusal = 0; word = word; counts = C; values = W }) (result_of w C W region)
    result_made h g word e f =
        let k : word ≡ region_result (body_of w) (state_of C W) region = f ∙ (ap (region_result (body_of w) (state_of [] W)) e ∙ result_apart (body_of w) [] C W region) in
        sym (result_tested ∙ rw (not-false ok h, whole w table n G, k))
