-- In a state that turns reach from an opening, the item that takes the next turn has its neighbours
-- in step.
use Prim.Native.Nat.{ℕ, suc, ◌<◌}
use mathlib.Core.Path.{◌≡◌, sym, ◌∙◌, ap, subst}
use mathlib.Core.Bool.{true}
use mathlib.Core.List.{List}
use borrow.Author.Tests.{eqb-true}
use lib.Dec.{eqb, ltb}
use lib.ListN.{take}
use Rattle.finite.proofs.Tests.{and-true}
use Rattle.finite.proofs.Update.{update_same}
use Rattle.unroll.specs.System.{System}
use Rattle.unroll.specs.Machine.{State, start as start_step, opening, CanStart, start_state}
use Rattle.unroll.specs.AnyOrder.{reached}
use Rattle.unroll.proofs.Decide.{decides}
use Rattle.unroll.proofs.Invariant.{Invariant, start_invariant}
use Rattle.unroll.proofs.Runs.{reply_some, reached_invariant}
use Rattle.body.specs.Items.{item_count, item_passes}
use Rattle.body.specs.Places.{system}
use Rattle.body.proofs.Made.{writers_made, waits_made}
use Rattle.edges.specs.Tests.{edge_test}
use Rattle.waits.specs.InStep.{InStep}
use Rattle.waits.proofs.InStep.{in_step}
use Rattle.waits.proofs.Bodies.{tells}
use Rattle.plan.specs.Layout.{plan_words}
use Rattle.graph.specs.Answers.{plan_body}
use Rattle.graph.proofs.Small.{plan_fits, plan_small}
use Rattle.steps.specs.State.{done_by, unmet_by}
use Rattle.steps.specs.Calls.{Lent}
use Rattle.steps.specs.Turns.{is_ready, Going}
use Rattle.steps.proofs.Simulating.{Tied, opened_tied, start_follows}
use Rattle.steps.proofs.Playing.{steps_of, play_tied}
use Rattle.steps.proofs.Running.{ready_accepted}
use Rattle.values.specs.Items.{Formed}
use Rattle.values.proofs.Plans.{plan_long, plan_formed}
use Rattle.runs.specs.Turns.{Opened}

module _ (w : List ℕ) (F : Formed w) (s₀ : Lent) (O : Opened w s₀) (s : Lent) (steps : ℕ) (G : Going w s₀ s steps) where
  abbrev S : System
  S = system (plan_body w)

  -- the machine's state after the same steps
  abbrev machine : State
  machine = reached S (decides S) (steps_of G.calls)

  machine_tied : Tied w s machine
  machine_tied =
      subst (λ (x : Lent). Tied w x machine) (sym G.reached)
      (play_tied w (decides S) (plan_long w F) (plan_formed w F) G.calls s₀ (opening S)
      (subst (λ (x : Lent). Tied w x (opening S)) (sym O.left) (opened_tied w (plan_formed w F) O.counts O.values O.long_counts O.long_values)))

  machine_invariant : Invariant S machine
  machine_invariant = reached_invariant S (decides S) (writers_made (plan_body w) (plan_fits (take plan_words w) (plan_formed w F))) (steps_of G.calls)

  module _ (a : ℕ) (la : a < item_count (plan_body w)) (ready : is_ready (plan_body w) s.counts a ≡ true) where
    machine_starts : CanStart S machine a
    machine_starts =
        let f = start_follows w (decides S) (plan_long w F) (plan_formed w F) s machine a machine_tied in
        (reply_some S (decides S) machine (start_step a) _ (f.answered (ready_accepted w (plan_long w F) (plan_formed w F) s G.idle a la ready))).0

    started_one : (start_state S machine a).started a ≡ suc ((start_state S machine a).finished a)
    unfolding start_state
    started_one = update_same machine.started a (suc (machine.started a)) ∙ ap suc machine_starts.idle

    agree : (c : ℕ) → c < item_count (plan_body w) → done_by s.counts c ≡ (start_state S machine a).finished c
    unfolding start_state
    agree c lc = machine_tied.agree.finished c lc

    number_none : unmet_by s.counts a ≡ 0
    unfolding is_ready
    number_none = eqb-true (unmet_by s.counts a) 0 (and-true (ltb (done_by s.counts a) (item_passes (plan_body w) a)) (eqb (unmet_by s.counts a) 0) ready).1

    pub ready_steps : InStep S (edge_test (plan_body w)) (done_by s.counts) (unmet_by s.counts) a
    ready_steps =
        let fits = plan_fits (take plan_words w) (plan_formed w F) in
        in_step S (edge_test (plan_body w)) (tells (plan_body w) fits (plan_small (take plan_words w) (plan_formed w F)).regions) (waits_made (plan_body w) fits)
        (start_state S machine a)
        (start_invariant S (writers_made (plan_body w) fits) machine a machine_invariant machine_starts)
        a la started_one (done_by s.counts) agree (unmet_by s.counts) G.idle.fresh number_none
