-- What a run hands out, from what its door and the functions behind it answer. P is the lent plan;
-- T, L, C, W and R are the slices lent for items, edges, counts, values and results.
use Prim.Native.Nat.{ℕ, ◌≤◌, ◌<◌}
use mathlib.Core.Path.{◌≡◌, refl, sym, ◌∙◌, ap}
use mathlib.Core.Bool.{Bool, true, false, ◌&&◌}
use mathlib.Core.List.{List, [], ◌++◌}
use native.Mathlib.Omega.{arith}
use borrow.Author.Tests.{le-leb, lt-leb, lt-ltb, le-ltb, leb-true}
use lib.Dec.{ltb, leb}
use lib.ListN.{length, get_or, take, drop, length-append, length-drop, length-map, get_or-append}
use Rattle.finite.specs.Update.{replaced}
use Rattle.finite.proofs.Tests.{and-true}
use Rattle.finite.proofs.Collect.{get_d_map}
use Rattle.finite.proofs.Replaced.{length_replaced, replaced_at, replaced_not}
use Rattle.body.specs.Items.{task, item_list, item_count, item_at}
use Rattle.body.specs.Places.{result_of as region_result}
use Rattle.plan.specs.Sizes.{max_items, edge_words, count_words, value_words, result_words}
use Rattle.std.specs.Prelude.{Result, Ok, Err}
use Rattle.plan.specs.declared.refusal.Refusal.{Refusal}
use Rattle.plan.specs.Refusals.{number_of, refusal_number}
use Rattle.plan.specs.Layout.{plan_words, body_of, regions_of}
use Rattle.graph.specs.Table.{code_of, table_of, Graph}
use Rattle.graph.specs.Answers.{refusal_of, long_plan, formed_plan, plan_body}
use Rattle.steps.specs.State.{state_of}
use Rattle.steps.specs.Answers.{Left, open_of}
use Rattle.steps.specs.Calls.{lent, lent_by}
use Rattle.steps.specs.Turns.{Going, Over}
use Rattle.steps.proofs.Accepting.{refusal_none, long_slices_lem, open_accepted, result_shown}
use Rattle.values.specs.Items.{Formed}
use Rattle.values.proofs.Plans.{facts}
use Rattle.doors.specs.Doors.{ByPlan}
use Rattle.plan.proofs.Refusals.{number_above}
use Rattle.calls.specs.Drawn.{Drawn}
use Rattle.calls.proofs.Behind.{graph_formed, result_apart}
use Rattle.taskiter.specs.declared.Outcome.{Outcome}
use Rattle.taskiter.specs.Run.{Ran}
use Rattle.taskiter.specs.Shown.{long_run, Shown}
use Rattle.taskiter.proofs.Exported.{items_whole, items_kept, edges_listed, graph_room}
use Rattle.taskiter.proofs.Ending.{run_ran}

module _ (P T L C W R : List ℕ) where
  refused_by : (n : ℕ) (r : Outcome) (T' : List ℕ) → (n ≡ 0 → ⊥) → r ≡ record { refusal = n; items = 0; edges = 0; steps = 0 } → n ≡ refusal_of (long_run P T L C W R) (formed_plan P) true →
      T' ≡ T → Shown P T L C W R r T' L C W R
  refused_by n r T' z e h t =
      let no : r.refusal ≡ 0 → ⊥ = λ k. z (sym (ap (λ (x : Outcome). x.refusal) e) ∙ k) in
      record {
        refusal = ap (λ (x : Outcome). x.refusal) e ∙ h;
        refused = λ k. (e ∙ ap (λ (x : ℕ). record { refusal = x; items = 0; edges = 0; steps = 0 }) (sym (ap (λ (x : Outcome). x.refusal) e)), t, refl, refl, refl, refl);
        items = λ k. absurd (no k);
        edges = λ k. absurd (no k);
        ran = λ k. absurd (no k);
        results = λ k. absurd (no k);
        behind = λ k. absurd (no k);
      }

  pub run_short : (r : Outcome) → length T < max_items → r ≡ record { refusal = 11; items = 0; edges = 0; steps = 0 } → Shown P T L C W R r T L C W R
  run_short r h e = refused_by 11 r T (λ z. omega arith) e (rw (lt-leb max_items (length T) h) (go (long_plan P))) refl
    where
      go : (l : Bool) → 11 ≡ refusal_of (l && false) (formed_plan P) true
      go true = refl
      go false = refl

  abbrev state_long : Bool
  state_long = leb count_words (length C) && leb value_words (length W)

  abbrev lists_long : Bool
  lists_long = leb edge_words (length L) && leb result_words (length R)

  -- the door by the plan, which is told whether the other slices are long enough
  module _ (room : max_items ≤ length T) (T1 : List ℕ) where
    refusal_is : (d : Result ℕ Refusal) → ByPlan P (state_long && lists_long) (take max_items T) d T1 → refusal_number d ≡ refusal_of (long_run P T L C W R) (formed_plan P) true
    refusal_is d B = B.refusal ∙ rw (le-leb max_items (length T) room)

    pub run_refused : (e : Refusal) → ByPlan P (state_long && lists_long) (take max_items T) (Err e) T1 → (r : Outcome) →
        r ≡ record { refusal = number_of e; items = 0; edges = 0; steps = 0 } → Shown P T L C W R r (T1 ++ drop max_items T) L C W R
    run_refused e B r h = refused_by (number_of e) r (T1 ++ drop max_items T) (number_above e) h (refusal_is (Err e) B) (items_kept P T room _ T1 e B)

    module _ (n : ℕ) (B : ByPlan P (state_long && lists_long) (take max_items T) (Ok n) T1) where
      passed : (long_plan P ≡ true) × ((state_long && lists_long) ≡ true) × (formed_plan P ≡ true)
      passed =
          let p = refusal_none (long_plan P && (state_long && lists_long)) (formed_plan P) true (sym B.refusal) in
          let q = and-true (long_plan P) (state_long && lists_long) p.0 in
          (q.0, q.1, p.1)

      state : (count_words ≤ length C) × (value_words ≤ length W)
      state =
          let s = and-true (leb count_words (length C)) (leb value_words (length W)) (and-true state_long lists_long passed.1).0 in
          (leb-true count_words (length C) s.0, leb-true value_words (length W) s.1)

      lists : (edge_words ≤ length L) × (result_words ≤ length R)
      lists =
          let s = and-true (leb edge_words (length L)) (leb result_words (length R)) (and-true state_long lists_long passed.1).1 in
          (leb-true edge_words (length L) s.0, leb-true result_words (length R) s.1)

      pub plan_room : plan_words ≤ length P
      plan_room = graph_room P T1 n B.clear

      pub lent_graph : Graph (take plan_words P) (T1 ++ drop max_items T) n
      unfolding item_at
      lent_graph =
          let G = B.clear in
          record {
            long = G.long;
            formed = G.formed;
            count = G.count;
            most = G.most;
            each = λ a l.
                ap (λ (t : List ℕ). get_or t a 0) (items_whole P T room _ T1 n B)
                ∙ (get_or-append (table_of (plan_body P)) (drop (item_count (plan_body P)) T) 0 a (omega (arith, l, G.count, length-map (item_list (plan_body P)) (code_of (plan_body P))))
                ∙ get_d_map (code_of (plan_body P)) (item_list (plan_body P)) a (task 0) 0 (omega (arith, G.count)));
          }

      table_long : length (T1 ++ drop max_items T) ≡ length T
      table_long =
          ap length (items_whole P T room _ T1 n B)
          ∙ (length-append (table_of (plan_body P)) (drop (item_count (plan_body P)) T)
          ∙ omega (arith, length-map (item_list (plan_body P)) (code_of (plan_body P)), length-drop (item_count (plan_body P)) T, B.clear.count, B.clear.most, room))

      pub items_ask : Graph (take plan_words P) (T1 ++ drop max_items T) n × (n ≤ length (T1 ++ drop max_items T))
      items_ask = (lent_graph, omega (arith, table_long, room, B.clear.most))

      pub run_asks : (edge_words ≤ length L) × (count_words ≤ length C) × (value_words ≤ length W)
      run_asks = (lists.0, state.0, state.1)

      module _ (m steps : ℕ) (L' C' W' : List ℕ) (D : Drawn (take plan_words P) L m L')
          (G : Going (take plan_words P) (lent_by (open_of (take plan_words P) C W)) (lent C' W') steps × Over (take plan_words P) (lent C' W')) where
        ran_is : Ran P C W (record { refusal = 0; number = steps }) C' W'
        ran_is = run_ran P C W ((open_accepted P C W).1 ((long_slices_lem P C W).1 (plan_room, state.0, state.1), passed.2)) C' W' steps G

        pub results_ask : Formed (take plan_words P) × (value_words ≤ length W') × (result_words ≤ length R)
        results_ask = (graph_formed (take plan_words P) T1 n B.clear, G.0.idle.long_values, lists.1)

        pub run_shown : (R' : List ℕ) →
            R' ≡ replaced (λ g. ltb g (regions_of (take plan_words P))) (region_result (body_of (take plan_words P)) (state_of [] W')) R →
            Shown P T L C W R (record { refusal = 0; items = n; edges = m; steps = steps }) (T1 ++ drop max_items T) L' C' W' R'
        run_shown R' f =
            record {
              refusal = refusal_is (Ok n) B;
              refused = λ n. absurd (n refl);
              items = λ y.
                  record {
                    refusal = rw (passed.0, le-leb max_items (length T) room, passed.2);
                    listed = λ x. (B.clear.count, items_whole P T room _ T1 n B);
                    refused = λ n. absurd (n refl);
                  };
              edges = λ y. edges_listed P L passed.2 plan_room lists.0 m m L' D refl;
              ran = λ y. ran_is;
              results = λ y g l.
                  let few : g < length R = omega (arith, l, (facts (take plan_words P) (graph_formed (take plan_words P) T1 n B.clear)).regions_most, lists.1) in
                  let shown = ap (λ (x : Left). x.word) (result_shown P C' W' g ((ran_is.ran refl).results g l).0) in
                  ap (λ (x : List ℕ). get_or x g 0) f
                  ∙ (replaced_at (λ g. ltb g (regions_of (take plan_words P))) (region_result (plan_body P) (state_of [] W')) R g few
                  ∙ (rw (lt-ltb g (regions_of (take plan_words P)) l) (result_apart (plan_body P) [] C' W' g ∙ sym shown)));
              behind = λ y. (
                ap length f ∙ length_replaced (λ g. ltb g (regions_of (take plan_words P))) (region_result (plan_body P) (state_of [] W')) R,
                λ g l. ap (λ (x : List ℕ). get_or x g 0) f ∙ replaced_not (λ g. ltb g (regions_of (take plan_words P))) (region_result (plan_body P) (state_of [] W'))
                    R g (le-ltb g (regions_of (take plan_words P)) l),
              );
            }
