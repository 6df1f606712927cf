-- The table of specs/Table.antt, proved: texts, edges and kernels by computing, calls by the
-- demands.
use Prim.Native.Nat.{ℕ, suc, ◌+◌, ◌-◌, ◌*◌, ◌^◌, ◌≤◌, ◌<◌}
use mathlib.Core.Path.{◌≡◌, refl, sym, ◌∙◌, ap, ap₂, subst}
use mathlib.Core.Bool.{Bool, cond}
use mathlib.Core.Logic.{inl, ⊎_elim}
use mathlib.Core.List.{List, [], ◌∷◌, ◌++◌, map}
use native.Mathlib.Decide.{ℕ_discrete}
use native.Mathlib.Omega.{arith}
use lib.ListN.{length, get_or, set, take, length-set}
use lib.Seq.{take_at, get_or-set_same, get_or-set_other}
use borrow.Author.Tests.{le-ltb}
use Rattle.unroll.specs.Edges.{Edge}
use Rattle.unroll.specs.Meaning.{StartRule}
use Rattle.body.specs.Body.{Body}
use Rattle.body.specs.TwoRanks.{ten_edges}
use Rattle.body.specs.Items.{writer, item_count, item_at, item_passes, total_steps}
use Rattle.body.specs.Places.{system}
use Rattle.body.specs.Loop.{loop_word, loop_final}
use Rattle.edges.specs.Tests.{edge_test}
use Rattle.edges.proofs.Decided.{edge_distance_is}
use Rattle.waits.specs.Waits.{fresh_count}
use Rattle.waits.proofs.Unmet.{count_agree}
use Rattle.finite.proofs.Members.{at_in}
use Rattle.plan.specs.Layout.{plan_words, body_of}
use Rattle.reading.specs.Reading.{read_of, accepted as read_to}
use Rattle.kernels.proofs.Cases.{mean_widest, mean_rounded, mean_of_3, mean_of_6, mean_of_10, sum_wraps, difference_wraps}
use Rattle.graph.specs.Answers.{plan_body}
use Rattle.tried.proofs.Cases.{two_ranks_edges, two_readers_edges, unmet_opened, unmet_task_run, unmet_send_run, unmet_ended, unmet_wrapped, targets_example, sources_example}
use Rattle.steps.specs.State.{state_of, first_finished, first_unmet, done_by, unmet_by}
use Rattle.steps.specs.Answers.{open_of}
use Rattle.steps.specs.Calls.{Call, start, finish, result, is_step, Lent, lent_by, call, play, accepted}
use Rattle.steps.proofs.Refusals.{not_short}
use Rattle.journal.specs.Checking.{check_of}
use Rattle.journal.specs.Laws.{Words, Checks, Completes}
use Rattle.taskiter.specs.Demands.{AllFresh, PlanReady, Ready, Opened, OpenMade, Steps, starts_of, AtEnd, InAnyOrder, JournalGiven, Demands}
use Rattle.taskiter.proofs.Readiness.{read_formed, ready_long}
use Rattle.taskiter.proofs.Freshness.{all_fresh}
use Rattle.taskiter.proofs.Demands.{demands}
use Rattle.tried.specs.Table.{example_of, example, example_words, no_pass, Fresh, Accepts, after, stored, Table}
use Rattle.tried.proofs.Read.{example_read, no_pass_read, more_passes_read, more_passes_before, most_passes_read, too_many_passes, readers_read, unordered_read, ahead_read, example_written, second_begin, named_twice_lem}
use Rattle.tried.proofs.Starts.{nth_start}
use Rattle.tried.proofs.Printed.{printed, ahead_printed}
use Rattle.tried.proofs.Checked.{none_unfinished, first_unfinished, word_refused, early_refused, unended_refused}
use Rattle.tried.proofs.Drawn.{example_items, example_passes, example_total, ahead_passes, final_two, final_none, first_writer, final_of, word_of_lem}

module _ (D : Demands) where
  -- what the demands say of a fresh state of the example with p passes
  module _ (p : ℕ) (text : List ℕ) (read : read_of text ≡ read_to (example_words p)) (plan : List ℕ) (s : Lent) (F : Fresh p plan s) where
    run : Opened text (example_words p) plan F.counts F.values
    run =
        subst (λ (q : List ℕ). Opened text (example_words p) q F.counts F.values) (sym F.holds)
        (D.demand_3.any_order text (example_words p) F.behind F.counts F.values read F.long_counts F.long_values)

    order : (l : List Call) → InAnyOrder (body_of (example_words p)) plan s l
    order l = subst (λ (t : Lent). InAnyOrder (body_of (example_words p)) plan t l) (sym F.opened) (run.every_list l)

    ready : (l : List Call) → Ready plan (play plan s l).counts (play plan s l).values
    ready l = subst (λ (t : Lent). Ready plan (play plan t l).counts (play plan t l).values) (sym F.opened) (run.stays_ready l)

    body_is : plan_body plan ≡ body_of (example_words p)
    body_is = ap body_of (ap (take plan_words) F.holds ∙ take_at (example_words p) F.behind plan_words run.size)

    items_four : item_count (plan_body plan) ≡ 4
    items_four = ap item_count body_is ∙ ap length (example_items p)

    own_passes_lem : (a : ℕ) → a < 4 → item_passes (plan_body plan) a ≡ p
    own_passes_lem a l = ap (λ (B : Body). item_passes B a) body_is ∙ example_passes p a l

    steps : (t : Lent) → Steps plan t.counts t.values
    steps t = D.demand_2.steps plan t.counts t.values F.words

    fresh_ready : Ready plan s.counts s.values
    unfolding play
    fresh_ready = ready []

    made : OpenMade (plan_body plan) F.counts F.values (open_of plan F.counts F.values)
    made = (D.demand_2.steps plan F.counts F.values F.words).opened run.accepted

    none_started : (a : ℕ) → a < 4 → get_or s.counts a 0 ≡ 0
    none_started a l = ap (λ (t : Lent). get_or t.counts a 0) F.opened ∙ (made.count_set a (omega (arith, items_four))).0

    none_finished : (a : ℕ) → a < 4 → get_or s.counts (first_finished + a) 0 ≡ 0
    none_finished a l = ap (λ (t : Lent). get_or t.counts (first_finished + a) 0) F.opened ∙ (made.count_set a (omega (arith, items_four))).1

    -- after the result of a region is accepted
    at_end_lem : (l : List Call) → (after plan s l (result 0)).refusal ≡ 0 → AtEnd (body_of (example_words p)) plan s l
    at_end_lem l h = ((order l).accepts_results 0 (omega arith)).1 h

    finals : (l : List Call) → AtEnd (body_of (example_words p)) plan s l → (v w : ℕ) →
        loop_final (body_of (example_words p)) 0 ≡ v → loop_final (body_of (example_words p)) 1 ≡ w →
        Accepts (after plan s l (result 0)) v × Accepts (after plan s l (result 1)) w
    finals l e v w x y =
        let a = ((order l).accepts_results 0 (omega arith)).0 e in
        let b = ((order l).accepts_results 1 (omega arith)).0 e in
        (record { refusal = a; word = (order l).final 0 a ∙ x }, record { refusal = b; word = (order l).final 1 b ∙ y })

    all_steps_lem : (l : List Call) → AtEnd (body_of (example_words p)) plan s l → accepted plan is_step s l ≡ 2 * (p * 4)
    all_steps_lem l e = (order l).ends.0 e ∙ example_total p

  -- two passes
  module _ (plan : List ℕ) (s : Lent) (F : Fresh 2 plan s) where
    case_b : (l : List Call) → (after plan s l (result 0)).refusal ≡ 0 →
        (accepted plan is_step s l ≡ 16) × Accepts (after plan s l (result 0)) 7 × Accepts (after plan s l (result 1)) 13
    case_b l h =
        let e = at_end_lem 2 example example_read plan s F l h in
        let r = finals 2 example example_read plan s F l e 7 13 final_two.0 final_two.1 in
        (all_steps_lem 2 example example_read plan s F l e, r.0, r.1)

    reaches_b : (l : List Call) × ((after plan s l (result 0)).refusal ≡ 0)
    reaches_b =
        let k = (order 2 example example_read plan s F []).leads_on in
        (k.0, ((order 2 example example_read plan s F k.0).accepts_results 0 (omega arith)).0 k.2)

    R : Ready plan s.counts s.values
    R = fresh_ready 2 example example_read plan s F

    four : item_count (plan_body plan) ≡ 4
    four = items_four 2 example example_read plan s F

    two : (a : ℕ) → a < 4 → item_passes (plan_body plan) a ≡ 2
    two = own_passes_lem 2 example example_read plan s F

    started : (a : ℕ) → a < 4 → get_or s.counts a 0 ≡ 0
    started = none_started 2 example example_read plan s F

    finished : (a : ℕ) → a < 4 → get_or s.counts (first_finished + a) 0 ≡ 0
    finished = none_finished 2 example example_read plan s F

    fresh : AllFresh (plan_body plan) s.counts s.values
    unfolding play
    fresh = subst (λ (B : Body). AllFresh B s.counts s.values) (sym (body_is 2 example example_read plan s F)) (order 2 example example_read plan s F []).numbers

    -- item 3 waits for item 2
    edge_2_3 : Edge (system (plan_body plan)) 2 3 0
    edge_2_3 = subst (λ (B : Body). Edge (system B) 2 3 0) (sym (body_is 2 example example_read plan s F)) ((two_ranks_edges.exactly 2 3 0).0 (at_in (2, 3, 0) (0, 0, 0) ten_edges 7 (omega arith) refl))

    case_h : ((call plan s (start 3)).refusal ≡ 16) × ((call plan s (finish 0)).refusal ≡ 17) × ((call plan s (result 0)).refusal ≡ 18)
    case_h =
        let N = (steps 2 example example_read plan s F s).numbers in (
          (N.start_16 fresh 3).1 (
            R,
            omega (arith, four),
            omega (arith, two 3 (omega arith), finished 3 (omega arith)),
            started 3 (omega arith) ∙ sym (finished 3 (omega arith)),
            λ r. ⊎_elim
                (λ z. omega (arith, z, started 3 (omega arith), finished 2 (omega arith)))
                (λ z. omega (arith, z, two 2 (omega arith), started 3 (omega arith)))
                (r.same_pass 2 edge_2_3),
          ),
          (N.finish_17 0).1 (R, omega (arith, four), started 0 (omega arith) ∙ sym (finished 0 (omega arith))),
          (N.result_18 0).1 (
            R,
            subst (λ (B : Body). 0 < B.regions) (sym (body_is 2 example example_read plan s F)) (omega arith),
            λ c. let z = c 0 (omega (arith, four)) in omega (arith, z, two 0 (omega arith), finished 0 (omega arith)),
          ),
        )

    rule_0 : StartRule (system (plan_body plan)) (state_of s.counts s.values) 0
    rule_0 =
        record {
          in_range = omega (arith, four);
          left = omega (arith, two 0 (omega arith), finished 0 (omega arith));
          idle = started 0 (omega arith) ∙ sym (finished 0 (omega arith));
          same_pass = λ b e. absurd (no_edge b e);
          pass_before = λ b q e h. absurd (omega (arith, h, started 0 (omega arith)));
        }
      where
        no_edge : (b : ℕ) → Edge (system (plan_body plan)) b 0 0 → ⊥
        no_edge b e = let z : ◌≡◌ {A = ℕ} 0 1 = edge_distance_is (system (plan_body plan)) b 0 0 e ∙ ap (λ (t : Bool). cond t 0 1) (le-ltb b 0 (omega arith)) in omega (arith, z)

    word_0 : loop_word (body_of (example_words 2)) 0 (writer (item_at (body_of (example_words 2)) 0)) ≡ 6
    word_0 = ap (loop_word (body_of (example_words 2)) 0) (first_writer 2) ∙ word_of_lem 2 0 (omega arith)

    one_started : (C : List ℕ) → C ≡ set s.counts 0 (suc (get_or s.counts 0 0)) → get_or C 0 0 ≡ suc (get_or C first_finished 0)
    one_started C e =
        let n : 0 < length s.counts = omega (arith, R.plan_ready.long_counts) in
        let x : get_or C 0 0 ≡ suc (get_or s.counts 0 0) = ap (λ (l : List ℕ). get_or l 0 0) e ∙ get_or-set_same s.counts 0 (suc (get_or s.counts 0 0)) 0 n in
        let y : get_or C first_finished 0 ≡ get_or s.counts first_finished 0 = ap (λ (l : List ℕ). get_or l first_finished 0) e
        ∙ get_or-set_other s.counts 0 first_finished (suc (get_or s.counts 0 0)) 0 (λ q. let z : ◌≡◌ {A = ℕ} first_finished 0 = q in omega (arith, z)) in
        omega (arith, x, y, started 0 (omega arith), finished 0 (omega arith))

    case_i : Accepts (call plan s (start 0)) 6 × ((after plan s (start 0 ∷ []) (start 0)).refusal ≡ 15)
    unfolding play accepted
    case_i =
        let h = ((steps 2 example example_read plan s F s).starts fresh 0).1 (R, rule_0) in
        let m = (steps 2 example example_read plan s F s).started 0 h in
        let t : Lent = lent_by (call plan s (start 0)) in (
          record { refusal = h; word = ((order 2 example example_read plan s F (start 0 ∷ [])).starts [] [] 0 refl h).2 ∙ word_0 },
          ((steps 2 example example_read plan s F t).numbers.start_15 0).1
              (ready 2 example example_read plan s F (start 0 ∷ []), omega (arith, four), one_started (call plan s (start 0)).counts m.counted),
        )

    -- journals, where the lent values are words
    module _ (value-words : Words F.values) where
      given : JournalGiven (body_of (example_words 2)) plan (lent_by (open_of plan F.counts F.values)) [] (check_of plan F.counts F.values)
      given = (run 2 example example_read plan s F).checked F.words value-words

      checks : Checks plan s (check_of plan F.counts F.values)
      unfolding play
      checks = subst (λ (t : Lent). Checks plan t (check_of plan F.counts F.values)) (sym F.opened) given.checks

      completes : Completes plan s [] (check_of plan F.counts F.values)
      completes = subst (λ (t : Lent). Completes plan t [] (check_of plan F.counts F.values)) (sym F.opened) given.completes

      sixteen : total_steps (plan_body plan) ≡ 16
      sixteen = ap total_steps (body_is 2 example example_read plan s F) ∙ example_total 2

    -- the numbers that the opening stores
    number_is : (a : ℕ) → a < 4 → unmet_by s.counts a ≡ fresh_count (system (body_of (example_words 2))) (edge_test (body_of (example_words 2))) (λ b. get_or [] b 0) a
    number_is a l =
        let la : a < item_count (plan_body plan) = omega (arith, four) in
        all_fresh plan (read_formed plan R.plan_ready.read) s.counts s.values fresh a la
        ∙ (count_agree (system (plan_body plan)) (edge_test (plan_body plan)) (done_by s.counts) (λ b. get_or [] b 0) a la (λ c lc. finished c (omega (arith, four)))
        ∙ ap (λ (B : Body). fresh_count (system B) (edge_test B) (λ b. get_or [] b 0) a) (body_is 2 example example_read plan s F))

    stored_opened : map (unmet_by s.counts) (0 ∷ 1 ∷ 2 ∷ 3 ∷ []) ≡ 0 ∷ 1 ∷ 1 ∷ 1 ∷ []
    stored_opened =
        ap₂ ◌∷◌ (number_is 0 (omega arith)) (ap₂ ◌∷◌ (number_is 1 (omega arith)) (ap₂ ◌∷◌ (number_is 2 (omega arith)) (ap₂ ◌∷◌ (number_is 3 (omega arith)) refl)))
        ∙ unmet_opened

    -- another number of item a is stored
    module _ (a n : ℕ) (l : a < 4) where
      abbrev C : List ℕ
      C = set s.counts (first_unmet + a) n

      is_stored : unmet_by C a ≡ n
      is_stored = get_or-set_same s.counts (first_unmet + a) n 0 (omega (arith, R.plan_ready.long_counts))

      same_count : (i : ℕ) → (i ≡ first_unmet + a → ⊥) → get_or C i 0 ≡ get_or s.counts i 0
      same_count i ne = get_or-set_other s.counts (first_unmet + a) i n 0 ne

      not_started : (b : ℕ) → b < 4 → get_or C b 0 ≡ 0
      not_started b k = same_count b (λ e. omega (arith, e)) ∙ started b k

      not_finished : (b : ℕ) → b < 4 → get_or C (first_finished + b) 0 ≡ 0
      not_finished b k = same_count (first_finished + b) (λ e. omega (arith, e)) ∙ finished b k

      plan_stays : PlanReady plan C s.values
      plan_stays =
          let r = R.plan_ready in
          record { long_plan_lem = r.long_plan_lem; long_counts = omega (arith, r.long_counts, length-set s.counts (first_unmet + a) n); long_values = r.long_values; read = r.read }

      stays_ready : n ≤ 4 → Ready plan C s.values
      stays_ready m =
          record {
            plan_ready = plan_stays;
            counts_formed = λ b lb.
                let k : b < 4 = omega (arith, four) in
                record { finished = omega (arith, not_finished b k); started = inl (not_started b k ∙ sym (not_finished b k)) };
            numbers_formed = λ b lb.
                elim (ℕ_discrete b a) [
                  | yes e ↦ omega (arith, ap (unmet_by C) e, is_stored, four)
                  | no ne ↦ omega (arith, same_count (first_unmet + b) (λ e. ne (omega (arith, e))), R.numbers_formed b lb)
                ];
          }

    stored_none : (call plan (stored s 3 0) (start 3)).refusal ≡ 0
    stored_none =
        let k : 3 < 4 = omega arith in
        ((steps 2 example example_read plan s F (stored s 3 0)).starts_stored 3).1 (
          stays_ready 3 0 k (omega arith),
          record {
            in_range = omega (arith, four);
            left = omega (arith, two 3 k, not_finished 3 0 k 3 k);
            idle = not_started 3 0 k 3 k ∙ sym (not_finished 3 0 k 3 k);
            none_unmet = is_stored 3 0 k;
          },
        )

    stored_most : (call plan (stored s 0 4) (start 0)).refusal ≡ 16
    stored_most =
        let k : 0 < 4 = omega arith in
        ((steps 2 example example_read plan s F (stored s 0 4)).numbers.start_16_stored 0).1 (
          stays_ready 0 4 k (omega arith),
          omega (arith, four),
          omega (arith, two 0 k, not_finished 0 4 k 0 k),
          not_started 0 4 k 0 k ∙ sym (not_finished 0 4 k 0 k),
          λ e. omega (arith, e, is_stored 0 4 k),
        )

    stored_above : (a : ℕ) → (call plan (stored s 0 5) (start a)).refusal ≡ 12
    stored_above a =
        let k : 0 < 4 = omega arith in
        let c : List ℕ = (stored s 0 5).counts in
        ((steps 2 example example_read plan s F (stored s 0 5)).numbers.call_12 (start a)).1 (
          not_short plan c s.values (ready_long plan c s.values (plan_stays 0 5 k)),
          λ r. omega (arith, r.numbers_formed 0 (omega (arith, four)), is_stored 0 5 k, four),
        )

  -- as many passes as there can be
  module _ (plan : List ℕ) (s : Lent) (F : Fresh (10 ^ 12) plan s) where
    abbrev longest : List ℕ
    longest = example_of "1000000000000"

    most_passes_end : (l : List Call) → (after plan s l (result 0)).refusal ≡ 0 →
        (accepted plan is_step s l ≡ 8 * 10 ^ 12) × Accepts (after plan s l (result 0)) (10 ^ 12 + 5)
    most_passes_end l h = (
      all_steps_lem (10 ^ 12) longest most_passes_read plan s F l (at_end_lem (10 ^ 12) longest most_passes_read plan s F l h),
      record { refusal = h; word = (order (10 ^ 12) longest most_passes_read plan s F l).final 0 h ∙ final_of (10 ^ 12) (omega arith) },
    )

    most_passes_reached : (l : List Call) × ((after plan s l (result 0)).refusal ≡ 0)
    most_passes_reached =
        let k = (order (10 ^ 12) longest most_passes_read plan s F []).leads_on in
        (k.0, ((order (10 ^ 12) longest most_passes_read plan s F k.0).accepts_results 0 (omega arith)).0 k.2)

    past_32_bits : (l : List Call) → get_or (play plan s l).counts 0 0 ≡ 2 ^ 32 - 1 → (after plan s l (start 0)).refusal ≡ 0 →
        ((after plan s l (start 0)).word ≡ 2 ^ 32 + 5) × (get_or (after plan s l (start 0)).counts 0 0 ≡ 2 ^ 32)
    past_32_bits l c h =
        let O = (order (10 ^ 12) longest most_passes_read plan s F (l ++ (start 0 ∷ []))).starts l [] 0 refl h in
        let n : starts_of (body_of (example_words (10 ^ 12))) plan s 0 l ≡ 2 ^ 32 - 1 =
        sym ((order (10 ^ 12) longest most_passes_read plan s F l).counted 0 O.0).0 ∙ c in
        let w : writer (item_at (body_of (example_words (10 ^ 12))) 0) ≡ 0 = first_writer (10 ^ 12) in
        let m = (steps (10 ^ 12) longest most_passes_read plan s F (play plan s l)).started 0 h in
        let long : 0 < length (play plan s l).counts = omega (arith, (ready (10 ^ 12) longest most_passes_read plan s F l).plan_ready.long_counts) in (
          O.2 ∙ (ap₂ (loop_word (body_of (example_words (10 ^ 12)))) n w ∙ word_of_lem (10 ^ 12) (2 ^ 32 - 1) (omega arith)),
          ap (λ (k : List ℕ). get_or k 0 0) m.counted
              ∙ (get_or-set_same (play plan s l).counts 0 (suc (get_or (play plan s l).counts 0 0)) 0 long ∙ ap suc c),
        )

    past_32_reached : (l : List Call) × (get_or (play plan s l).counts 0 0 ≡ 2 ^ 32 - 1) × ((after plan s l (start 0)).refusal ≡ 0)
    past_32_reached =
        let k = (order (10 ^ 12) longest most_passes_read plan s F []).leads_on in
        let O = order (10 ^ 12) longest most_passes_read plan s F k.0 in
        let n : 0 < item_count (body_of (example_words (10 ^ 12))) = omega (arith, ap length (example_items (10 ^ 12))) in
        let own : item_passes (body_of (example_words (10 ^ 12))) 0 ≡ 10 ^ 12 = example_passes (10 ^ 12) 0 (omega arith) in
        let done = k.2 0 n in
        let below : 0 < item_count (plan_body plan) = omega (arith, items_four (10 ^ 12) longest most_passes_read plan s F) in
        let formed = (ready (10 ^ 12) longest most_passes_read plan s F k.0).counts_formed 0 below in
        let few : 2 ^ 32 - 1 < starts_of (body_of (example_words (10 ^ 12))) plan s 0 k.0 =
        ⊎_elim (λ e. omega (arith, e, (O.counted 0 n).0, (O.counted 0 n).1, done, own)) (λ e. omega (arith, e.0, (O.counted 0 n).0, (O.counted 0 n).1, done, own)) formed.started in
        let found = nth_start plan k.0 s (2 ^ 32 - 1) few in
        (found.0, ((order (10 ^ 12) longest most_passes_read plan s F found.0).counted 0 n).0 ∙ found.1, found.2)

  -- no pass
  module _ (plan : List ℕ) (s : Lent) (F : Fresh 0 plan s) where
    ended : (l : List Call) → AtEnd (body_of (example_words 0)) plan s l
    ended l a below =
        let c = ((order 0 no_pass no_pass_read plan s F l).counted a below).1 in
        let k : a < item_count (plan_body plan) = subst (λ (B : Body). a < item_count B) (sym (body_is 0 no_pass no_pass_read plan s F)) below in
        let n : a < 4 = omega (arith, items_four 0 no_pass no_pass_read plan s F) in
        let r : get_or (play plan s l).counts (first_finished + a) 0 ≤ item_passes (plan_body plan) a = ((ready 0 no_pass no_pass_read plan s F l).counts_formed a k).finished in
        let z : get_or (play plan s l).counts (first_finished + a) 0 ≡ 0 = omega (arith, r, own_passes_lem 0 no_pass no_pass_read plan s F a n) in
        sym c ∙ (z ∙ sym (example_passes 0 a n))

    case_c : (l : List Call) →
        Accepts (after plan s l (result 0)) 5 × Accepts (after plan s l (result 1)) 0 × (accepted plan is_step s l ≡ 0)
        × ((after plan s l (start 0)).refusal ≡ 14)
    case_c l =
        let four : 0 < item_count (plan_body plan) = omega (arith, items_four 0 no_pass no_pass_read plan s F) in
        let e : 0 < item_count (body_of (example_words 0)) = subst (λ (B : Body). 0 < item_count B) (body_is 0 no_pass no_pass_read plan s F) four in
        let done : get_or (play plan s l).counts (first_finished + 0) 0 ≡ item_passes (plan_body plan) 0 =
        ((order 0 no_pass no_pass_read plan s F l).counted 0 e).1
        ∙ (ended l 0 e ∙ sym (ap (λ (B : Body). item_passes B 0) (body_is 0 no_pass no_pass_read plan s F))) in
        let r = finals 0 no_pass no_pass_read plan s F l (ended l) 5 0 final_none.0 final_none.1 in
        let none = ((steps 0 no_pass no_pass_read plan s F (play plan s l)).numbers.start_14 0).1 (ready 0 no_pass no_pass_read plan s F l, four, done) in
        (r.0, r.1, all_steps_lem 0 no_pass no_pass_read plan s F l (ended l), none)

  from_demands : Table
  from_demands =
      record {
        example_read = example_read;
        printed = printed;
        no_pass_read = no_pass_read;
        readers_read = readers_read;
        unordered_read = unordered_read;
        written = example_written;
        more_passes_read = more_passes_read;
        more_passes_before = more_passes_before;
        most_passes_read = most_passes_read;
        too_many_passes = too_many_passes;
        most_passes_end = most_passes_end;
        most_passes_reached = most_passes_reached;
        past_32_bits = past_32_bits;
        past_32_reached = past_32_reached;
        ahead_read = ahead_read;
        ahead_passes = ahead_passes;
        ahead_printed = ahead_printed;
        case_a = two_ranks_edges;
        case_b = case_b;
        reaches_b = reaches_b;
        case_c = case_c;
        case_d = mean_widest;
        case_e = mean_rounded;
        mean_of_3 = mean_of_3;
        mean_of_6 = mean_of_6;
        mean_of_10 = mean_of_10;
        case_f = sum_wraps;
        case_g = difference_wraps;
        case_h = case_h;
        case_i = case_i;
        journal_none = λ plan s F v. none_unfinished plan s _ (checks plan s F v) (completes plan s F v) (sixteen plan s F v);
        journal_start = λ plan s F v.
            let c = (case_i plan s F).0 in first_unfinished plan s _ (checks plan s F v) (completes plan s F v) (sixteen plan s F v) c.refusal c.word;
        journal_word = λ plan s F v.
            let c = (case_i plan s F).0 in word_refused plan s _ (checks plan s F v) (completes plan s F v) (sixteen plan s F v) c.refusal c.word;
        journal_early = λ plan s F v. early_refused plan s _ (checks plan s F v) (completes plan s F v) (sixteen plan s F v) (case_h plan s F).0;
        journal_unended = λ plan s F v. unended_refused plan s _ (checks plan s F v) (completes plan s F v) (sixteen plan s F v);
        case_j = two_readers_edges;
        unmet_opened = unmet_opened;
        unmet_task_run = unmet_task_run;
        unmet_send_run = unmet_send_run;
        unmet_ended = unmet_ended;
        unmet_wrapped = unmet_wrapped;
        targets_example = targets_example;
        sources_example = sources_example;
        stored_opened = stored_opened;
        stored_none = stored_none;
        stored_most = stored_most;
        stored_above = stored_above;
        case_k = second_begin;
        case_l = named_twice_lem;
      }

pub table : Table
table = from_demands demands
