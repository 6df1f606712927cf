-- A finish by the tables of the plan leaves what the ordinary one does, where the neighbours of its
-- item are in step.
use Prim.Native.Nat.{ℕ, suc, ◌+◌, ◌-◌, ◌≤◌, ◌<◌}
use mathlib.Core.Path.{◌≡◌, refl, sym, ◌∙◌, ap₂, subst}
use mathlib.Core.Bool.{Bool, true, false, cond, ◌&&◌, and-false, and-true as and-always}
use mathlib.Core.List.{List}
use native.Mathlib.Decide.{dec_lt, ℕ_discrete}
use native.Mathlib.Omega.{arith}
use borrow.Author.Tests.{eq-eqb, ne_eqb, lt-ltb, le-ltb, le-leb, lt-leb}
use lib.Dec.{ltb, leb}
use lib.ListN.{length, get_or, set}
use Rattle.finite.specs.Lists.{mem}
use Rattle.finite.specs.Update.{update, replaced}
use Rattle.finite.proofs.Tests.{false_of}
use Rattle.finite.proofs.Replaced.{replaced_ext}
use Rattle.unroll.specs.System.{System}
use Rattle.body.specs.Items.{item_count}
use Rattle.body.specs.Places.{system}
use Rattle.edges.specs.Tests.{edge_test}
use Rattle.edges.proofs.Decided.{distance_next}
use Rattle.waits.specs.Waits.{fresh_count, meets, lowered}
use Rattle.waits.specs.Stored.{lowered_to, finished_numbers}
use Rattle.waits.specs.InStep.{InStep}
use Rattle.waits.proofs.Unmet.{meets_parts}
use Rattle.plan.specs.Layout.{plan_words}
use Rattle.graph.specs.Answers.{formed_plan, plan_body}
use Rattle.steps.specs.State.{count_words, first_finished, first_unmet, state_of, done_by, unmet_by}
use Rattle.steps.specs.Answers.{Left, finished_counts, finished}
use Rattle.prepared.specs.Tables.{leads, sources_in, target_count, target_in}
use Rattle.prepared.specs.Steps.{lowered_by, again, counts_in, finished_in}
use Rattle.prepared.specs.Laws.{Prepared}
use Rattle.prepared.proofs.Lowering.{among, lowered_where}
use Rattle.prepared.proofs.Usable.{apart, targets_among, again_is}

module _ (plan tables counts values : List ℕ) (long : plan_words ≤ length plan) (formed : formed_plan plan ≡ true) (P : Prepared plan tables)
    (long_counts : count_words ≤ length counts) (a : ℕ) (la : a < item_count (plan_body plan)) where
  abbrev S : System
  S = system (plan_body plan)

  abbrev edge : ℕ → ℕ → Bool
  edge = edge_test (plan_body plan)

  abbrev n : ℕ
  n = item_count (plan_body plan)

  -- its own wait is not met
  meets_self : meets S edge (done_by counts) a a ≡ false
  meets_self = false_of (meets S edge (done_by counts) a a) (λ h. omega (arith, (meets_parts S edge (done_by counts) a a h).pass, distance_next a a (omega arith)))

  module _ (I : InStep S edge (done_by counts) (unmet_by counts) a) where
    lowered_each : (b : ℕ) → cond (among (target_in tables a) (target_count tables a) b) (unmet_by counts b - 1) (unmet_by counts b)
        ≡ cond (ltb b n && meets S edge (done_by counts) a b) (unmet_by counts b - 1) (unmet_by counts b)
    unfolding leads lowered
    lowered_each b =
        elim (dec_lt b n) [
          | yes l ↦ elim (ℕ_discrete a b) [
            | yes e ↦ rw (targets_among plan tables P a la b, lt-ltb b n l, ← e, eq-eqb a a refl, meets_self, and-false (edge a a))
            | no ne ↦ rw (targets_among plan tables P a la b, lt-ltb b n l, ne_eqb a b ne, and-always (edge a b)) (sym (I.lowers b l))
          ]
          | no l ↦ rw (targets_among plan tables P a la b, le-ltb b n (omega arith))
        ]

    lowered_same : lowered_by (target_in tables a) (target_count tables a) counts ≡ lowered_to S edge first_unmet (done_by counts) a n counts
    unfolding lowered_to
    lowered_same =
        lowered_where (target_in tables a) (target_count tables a) counts (apart plan tables P a la counts long_counts)
        ∙ replaced_ext (λ i. leb first_unmet i && among (target_in tables a) (target_count tables a) (i - first_unmet))
        (λ i. leb first_unmet i && (ltb (i - first_unmet) n && meets S edge (done_by counts) a (i - first_unmet)))
        (λ i. get_or counts i 0 - 1) (λ i. get_or counts i 0 - 1) counts each
      where
        each : (i : ℕ) → i < length counts →
            cond (leb first_unmet i && among (target_in tables a) (target_count tables a) (i - first_unmet)) (get_or counts i 0 - 1) (get_or counts i 0)
            ≡ cond (leb first_unmet i && (ltb (i - first_unmet) n && meets S edge (done_by counts) a (i - first_unmet))) (get_or counts i 0 - 1) (get_or counts i 0)
        each i l =
            elim (dec_lt i first_unmet) [
              | yes k ↦ rw (lt-leb first_unmet i k)
              | no k ↦
                  (let e : first_unmet + (i - first_unmet) ≡ i = omega arith in
                  rw (le-leb first_unmet i (omega arith))
                  (subst
                  (λ (x : ℕ).
                  cond (among (target_in tables a) (target_count tables a) (i - first_unmet)) (get_or counts x 0 - 1) (get_or counts x 0)
                  ≡ cond (ltb (i - first_unmet) n && meets S edge (done_by counts) a (i - first_unmet)) (get_or counts x 0 - 1) (get_or counts x 0))
                  e (lowered_each (i - first_unmet))))
            ]

    own_same : cond (again plan tables counts values a) (sources_in tables a) 0 ≡ fresh_count S edge (update (done_by counts) a (suc (done_by counts a))) a
    own_same = rw (again_is plan tables P a la long formed counts values, P.sources a la) (sym I.own)

    pub counts_same : counts_in plan tables counts values a ≡ finished_counts plan counts values a
    unfolding counts_in finished_counts finished_numbers
    counts_same = ap₂ (λ (m : List ℕ) (x : ℕ). set (set m (first_unmet + a) x) (first_finished + a) (suc (done_by counts a))) lowered_same own_same

    pub finished_same : finished_in plan tables counts values a ≡ finished plan counts values a
    unfolding finished_in
    finished_same = ap₂ left counts_same (P.writes a la)
      where
        left : List ℕ → List ℕ → Left
        left m l =
            record {
              refusal = 0;
              word = (state_of counts values).held a;
              counts = m;
              values = replaced (λ x. mem x l) (λ x. (state_of counts values).held a) values;
            }
