-- The lent states that calls reach from an opening: an item that runs has no unmet wait, and its
-- neighbours are in step.
use Prim.Native.Nat.{ℕ, suc, ◌+◌, ◌≤◌, ◌<◌}
use mathlib.Core.Path.{◌≡◌, ◌∙◌, ap, subst}
use mathlib.Core.Bool.{Bool, true}
use mathlib.Core.Logic.{inl, inr}
use mathlib.Core.List.{List, [], ◌∷◌}
use native.Mathlib.Decide.{dec_lt}
use native.Mathlib.Omega.{arith}
use lib.ListN.{length, get_or, take}
use Rattle.finite.proofs.Tests.{false_of}
use Rattle.finite.proofs.Below.{count_never}
use Rattle.unroll.specs.Instances.{Before}
use Rattle.unroll.specs.System.{System}
use Rattle.unroll.specs.Edges.{Edge, rule, reuse}
use Rattle.unroll.specs.Machine.{State, opening, Met, start as start_step, finish as finish_step, step}
use Rattle.unroll.proofs.Decide.{decides}
use Rattle.unroll.proofs.Edges.{dependence_later}
use Rattle.unroll.proofs.Invariant.{Invariant, opening_invariant}
use Rattle.unroll.proofs.Runs.{step_invariant}
use Rattle.body.specs.Items.{item_count}
use Rattle.body.specs.Places.{system}
use Rattle.body.proofs.Made.{writers_made, waits_made}
use Rattle.edges.specs.Tests.{edge_test}
use Rattle.waits.specs.Waits.{Tells, is_unmet, fresh_count}
use Rattle.waits.specs.InStep.{InStep}
use Rattle.waits.proofs.Unmet.{count_left, count_agree, unmet_exactly}
use Rattle.waits.proofs.InStep.{in_step}
use Rattle.waits.proofs.Bodies.{tells}
use Rattle.plan.specs.Layout.{plan_words}
use Rattle.graph.specs.Answers.{formed_plan, plan_body}
use Rattle.graph.proofs.Small.{plan_fits, plan_small}
use Rattle.steps.specs.State.{done_by, unmet_by}
use Rattle.steps.specs.Answers.{open_of}
use Rattle.steps.specs.Calls.{Call, start, finish, result, Lent, lent_by, call, play}
use Rattle.steps.proofs.Accepting.{Clear, long_slices_lem, open_accepted}
use Rattle.steps.proofs.Simulating.{Tied, opening_tied, tied_clear, result_same, start_follows, finish_follows}

-- an item that runs: what it waited for has finished, or is not made
module _ (S : System) (s : State) (i : Invariant S s) (b : ℕ) (lb : b < S.items) (running : s.started b ≡ suc (s.finished b)) where
  running_met : (a d p : ℕ) → Edge S a b d → p + d ≡ s.finished b → Met S s a p
  running_met a d p (reuse l e h) q = inl (omega (arith, ap s.finished e))
  running_met a d p (rule e) q =
      let D = dependence_later S p 0 a d b e in
      let z : p + 0 ≡ p = omega arith in
      let before : Before p a (s.finished b) b = subst (λ (r : ℕ). Before r a (s.finished b) b) z (subst (λ (r : ℕ). Before (p + 0) a r b) q D.order) in
      elim (dec_lt p (S.passes a)) [
        | yes k ↦ inl (i.served (s.finished b) b lb (omega arith) p a D.place D.from before D.conflict k)
        | no k ↦ inr (omega arith)
      ]

  running_none : (edge : ℕ → ℕ → Bool) → Tells S edge → fresh_count S edge s.finished b ≡ 0
  running_none edge T =
      count_left S edge s.finished b (omega (arith, i.most b))
      ∙ count_never S.items (is_unmet S edge s.finished b)
      (λ a la. false_of (is_unmet S edge s.finished b a) (λ h.
      let u = (unmet_exactly S edge T s b a lb la).0 h in
      u.unmet (running_met a u.d u.p u.edge u.source)))

module _ (plan : List ℕ) (long : plan_words ≤ length plan) (formed : formed_plan plan ≡ true) where
  abbrev S : System
  S = system (plan_body plan)

  -- the lent state shows a state of the machine that calls reach from its opening
  pub record Shown (s : Lent) : Type 0 where
    pub σ : State
    pub tied : Tied plan s σ
    pub kept : Invariant S σ

  pub shown_step : (s : Lent) → Shown s → (c : Call) → Shown (lent_by (call plan s c))
  shown_step s h (start a) =
      record {
        σ = step S (decides S) h.σ (start_step a);
        tied = (start_follows plan (decides S) long formed s h.σ a h.tied).tied;
        kept = step_invariant S (decides S) (writers_made (plan_body plan) (plan_fits (take plan_words plan) formed)) h.σ (start_step a) h.kept;
      }
  shown_step s h (finish a) =
      record {
        σ = step S (decides S) h.σ (finish_step a);
        tied = (finish_follows plan (decides S) long formed s h.σ a h.tied).tied;
        kept = step_invariant S (decides S) (writers_made (plan_body plan) (plan_fits (take plan_words plan) formed)) h.σ (finish_step a) h.kept;
      }
  shown_step s h (result g) = rw (result_same plan s g) h

  pub shown_play : (l : List Call) (s : Lent) → Shown s → Shown (play plan s l)
  unfolding play
  shown_play [] s h = h
  shown_play (c ∷ l) s h = shown_play l (lent_by (call plan s c)) (shown_step s h c)

  module _ (s : Lent) (h : Shown s) where
    pub shown_clear : Clear plan s.counts s.values
    shown_clear = tied_clear plan long formed s h.σ h.tied

    edges_told : Tells S (edge_test (plan_body plan))
    edges_told = tells (plan_body plan) (plan_fits (take plan_words plan) formed) (plan_small (take plan_words plan) formed).regions

    -- an item that runs
    module _ (b : ℕ) (lb : b < item_count (plan_body plan)) (running : get_or s.counts b 0 ≡ suc (done_by s.counts b)) where
      machine_runs : h.σ.started b ≡ suc (h.σ.finished b)
      machine_runs = omega (arith, running, h.tied.agree.started b lb, h.tied.agree.finished b lb)

      pub shown_none : unmet_by s.counts b ≡ 0
      shown_none =
          h.tied.fresh b lb
          ∙ (count_agree S (edge_test (plan_body plan)) (done_by s.counts) h.σ.finished b lb h.tied.agree.finished
          ∙ running_none S h.σ h.kept b lb machine_runs (edge_test (plan_body plan)) edges_told)

      pub shown_in_step : InStep S (edge_test (plan_body plan)) (done_by s.counts) (unmet_by s.counts) b
      shown_in_step =
          in_step S (edge_test (plan_body plan)) edges_told (waits_made (plan_body plan) (plan_fits (take plan_words plan) formed)) h.σ h.kept b lb machine_runs
          (done_by s.counts) h.tied.agree.finished (unmet_by s.counts) h.tied.fresh shown_none

-- from an opening
module _ (plan counts values : List ℕ) (z : (open_of plan counts values).refusal ≡ 0) where
  pub open_long : plan_words ≤ length plan
  open_long = ((long_slices_lem plan counts values).0 ((open_accepted plan counts values).0 z).0).0

  pub open_formed : formed_plan plan ≡ true
  open_formed = ((open_accepted plan counts values).0 z).1

  pub shown_opening : Shown plan open_long open_formed (lent_by (open_of plan counts values))
  shown_opening =
      record {
        σ = opening (system (plan_body plan));
        tied = opening_tied plan counts values z;
        kept = opening_invariant (system (plan_body plan));
      }
