-- Numbers of unmet waits: the counts that code goes by, and the demands' words for them.
use Prim.Native.Nat.{ℕ, ◌+◌, ◌≤◌, ◌<◌}
use mathlib.Core.Path.{◌≡◌, sym, ◌∙◌, subst}
use mathlib.Core.Bool.{true}
use mathlib.Core.Logic.{◌↔◌}
use mathlib.Core.List.{List}
use native.Mathlib.Decide.{dec_lt, ℕ_discrete}
use native.Mathlib.Omega.{arith}
use lib.ListN.{length, take}
use Rattle.unroll.specs.Edges.{Edge}
use Rattle.body.specs.Items.{item_count, item_passes}
use Rattle.body.specs.Places.{system}
use Rattle.edges.specs.Tests.{distance, edge_test}
use Rattle.edges.proofs.Decided.{edge_distance_is}
use Rattle.waits.specs.Waits.{Tells, is_unmet, fresh_count, meets}
use Rattle.waits.proofs.Unmet.{meets_parts, meets_of, count_left, count_done, count_most, unmet_exactly}
use Rattle.waits.proofs.Fresh.{counted}
use Rattle.waits.proofs.Bodies.{tells}
use Rattle.plan.specs.Sizes.{max_items}
use Rattle.plan.specs.Layout.{plan_words}
use Rattle.graph.specs.Answers.{formed_plan, plan_body}
use Rattle.graph.proofs.Small.{plan_fits, plan_small}
use Rattle.steps.specs.State.{count_words, state_of, done_by, unmet_by, FreshNumbers}
use Rattle.steps.specs.Answers.{Left, start_of, finish_of, result_of}
use Rattle.steps.specs.Calls.{Call, start, finish, result, lent, call}
use Rattle.steps.proofs.Accepting.{Clear, long_slices_lem, formed_counts_lem, start_clear, start_turn, finish_clear, finish_can, result_clear, every_unchanged}
use Rattle.steps.proofs.Placing.{items_few}
use Rattle.steps.proofs.Numbered.{started_fresh, finished_fresh}
use Rattle.steps.proofs.Simulating.{formed_running}
use Rattle.steps.proofs.Made.{start_counts, finish_counts, result_counts}
use Rattle.taskiter.specs.Demands.{FreshCount, AllFresh, MeetsWait}

module _ (plan : List ℕ) (formed : formed_plan plan ≡ true) (counts values : List ℕ) where
  told : Tells (system (plan_body plan)) (edge_test (plan_body plan))
  told = tells (plan_body plan) (plan_fits (take plan_words plan) formed) (plan_small (take plan_words plan) formed).regions

  pub fresh_count_lem : (a : ℕ) → a < item_count (plan_body plan) →
      FreshCount (plan_body plan) (state_of counts values) a (fresh_count (system (plan_body plan)) (edge_test (plan_body plan)) (done_by counts) a)
  fresh_count_lem a la =
      record {
        done = count_done (system (plan_body plan)) (edge_test (plan_body plan)) (done_by counts) a;
        left = λ l. (
          is_unmet (system (plan_body plan)) (edge_test (plan_body plan)) (done_by counts) a,
          count_left (system (plan_body plan)) (edge_test (plan_body plan)) (done_by counts) a l,
          λ b lb. unmet_exactly (system (plan_body plan)) (edge_test (plan_body plan)) told (state_of counts values) a b la lb,
        );
      }

  count_fresh : (a n : ℕ) → a < item_count (plan_body plan) → FreshCount (plan_body plan) (state_of counts values) a n →
      n ≡ fresh_count (system (plan_body plan)) (edge_test (plan_body plan)) (done_by counts) a
  count_fresh a n la F =
      elim (dec_lt (done_by counts a) (item_passes (plan_body plan) a)) [
        | yes l ↦
            (let t = F.left l in
            t.1 ∙ sym (counted (system (plan_body plan)) (edge_test (plan_body plan)) told (state_of counts values) a la t.0 l t.2))
        | no l ↦
            (let m : item_passes (plan_body plan) a ≤ done_by counts a = omega arith in
            F.done m ∙ sym (count_done (system (plan_body plan)) (edge_test (plan_body plan)) (done_by counts) a m))
      ]

  pub one_count : (a : ℕ) → a < item_count (plan_body plan) →
      (n : ℕ) × (n < item_count (plan_body plan)) × ((m : ℕ) → FreshCount (plan_body plan) (state_of counts values) a m ↔ (m ≡ n))
  one_count a la = (
    fresh_count (system (plan_body plan)) (edge_test (plan_body plan)) (done_by counts) a,
    count_most (system (plan_body plan)) (edge_test (plan_body plan)) (done_by counts) a la,
    λ m. (count_fresh a m la, λ e. subst (FreshCount (plan_body plan) (state_of counts values) a) (sym e) (fresh_count_lem a la)),
  )

  pub fresh_all : FreshNumbers (plan_body plan) counts → AllFresh (plan_body plan) counts values
  fresh_all f a la = subst (FreshCount (plan_body plan) (state_of counts values) a) (sym (f a la)) (fresh_count_lem a la)

  pub all_fresh : AllFresh (plan_body plan) counts values → FreshNumbers (plan_body plan) counts
  all_fresh F a la = count_fresh a (unmet_by counts a) la (F a la)

  pub meets_wait : (a b : ℕ) → a < item_count (plan_body plan) → b < item_count (plan_body plan) →
      (meets (system (plan_body plan)) (edge_test (plan_body plan)) (done_by counts) a b ≡ true) ↔ MeetsWait (plan_body plan) (state_of counts values) a b
  meets_wait a b la lb = (
    λ h.
        let m = meets_parts (system (plan_body plan)) (edge_test (plan_body plan)) (done_by counts) a b h in
        record { d = distance a b; edge = (told a b la lb).0 m.stands; pass = m.pass; left = m.left },
    λ m.
        let e : m.d ≡ distance a b = edge_distance_is (system (plan_body plan)) a b m.d m.edge in
        meets_of (system (plan_body plan)) (edge_test (plan_body plan)) (done_by counts) a b
        (record {
          stands = (told a b la lb).1 (subst (Edge (system (plan_body plan)) a b) e m.edge);
          pass = subst (λ (d : ℕ). done_by counts b ≡ done_by counts a + d) e m.pass;
          left = m.left;
        }),
  )

-- an accepted call keeps them
module _ (plan counts values : List ℕ) where
  kept_by : (r : Left) (c : Clear plan counts values) → AllFresh (plan_body plan) counts values →
      (FreshNumbers (plan_body plan) counts → FreshNumbers (plan_body plan) r.counts) → AllFresh (plan_body plan) r.counts r.values
  kept_by r c F f = fresh_all plan c.formed_plan_lem r.counts r.values (f (all_fresh plan c.formed_plan_lem counts values F))

  few : Clear plan counts values → item_count (plan_body plan) ≤ max_items
  few c = items_few (take plan_words plan) c.formed_plan_lem

  long : Clear plan counts values → count_words ≤ length counts
  long c = ((long_slices_lem plan counts values).0 c.long).1

  accepted_fresh : AllFresh (plan_body plan) counts values → (c : Call) → (call plan (lent counts values) c).refusal ≡ 0 →
      AllFresh (plan_body plan) (call plan (lent counts values) c).counts (call plan (lent counts values) c).values
  accepted_fresh F (start a) z =
      let c = start_clear plan counts values a z in
      kept_by (start_of plan counts values a) c F
      (λ f. subst (FreshNumbers (plan_body plan)) (sym (start_counts plan counts values a z))
      (started_fresh plan counts values (few c) (long c) a ((start_turn plan counts values c a).0 z).0 f))
  accepted_fresh F (finish a) z =
      let c = finish_clear plan counts values a z in
      let k = (finish_can plan counts values c a).0 z in
      let made = formed_running (item_passes (plan_body plan)) (state_of counts values) a k.running ((formed_counts_lem plan counts values).0 c.formed_counts_lem a k.in_range) in
      kept_by (finish_of plan counts values a) c F
      (λ f. subst (FreshNumbers (plan_body plan)) (sym (finish_counts plan counts values a z)) (finished_fresh plan counts values (few c) (long c) a k.in_range made f))
  accepted_fresh F (result g) z =
      kept_by (result_of plan counts values g) (result_clear plan counts values g z) F (subst (FreshNumbers (plan_body plan)) (sym (result_counts plan counts values g z)))

  pub stays_fresh : AllFresh (plan_body plan) counts values → (c : Call) →
      AllFresh (plan_body plan) (call plan (lent counts values) c).counts (call plan (lent counts values) c).values
  stays_fresh F c =
      elim (ℕ_discrete (call plan (lent counts values) c).refusal 0) [
        | yes z ↦ accepted_fresh F c z
        | no f ↦ (let u = every_unchanged plan (lent counts values) c f in rw (u.1, u.2) F)
      ]
