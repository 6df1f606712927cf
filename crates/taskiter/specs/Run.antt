-- What running a plan to its end answers and leaves (paper 01, "The run program").
use Rattle.std.specs.Prelude.{ℕ, ◌<◌, ◌≡◌, List, length}
use Rattle.body.specs.Loop.{loop_final}
use Rattle.body.specs.Items.{total_steps}
use Rattle.graph.specs.declared.Number.{Number}
use Rattle.graph.specs.Answers.{plan_body}
use Rattle.steps.specs.State.{state_of}
use Rattle.steps.specs.Answers.{open_of, result_of}
use Rattle.steps.specs.Calls.{Call, is_step, Lent, lent, lent_by, play, accepted}
use Rattle.steps.specs.Running.{Taken}
use Rattle.taskiter.specs.Demands.{Complete, AllFresh}

-- from the state s to the state t in so many steps
pub record Run (plan : List ℕ) (s t : Lent) (steps : ℕ) : Type 0 where
  -- the steps are those of the run program's order, every one is accepted, and they lead to t
  pub calls : List Call
  pub taken : Taken plan s calls
  pub all_accepted : accepted plan is_step s calls ≡ length calls
  pub reached : t ≡ play plan s calls
  pub counted : steps ≡ length calls
  -- then the loop is complete, after two steps for each pass that each item has
  pub complete : Complete (plan_body plan) (state_of t.counts t.values)
  pub total : steps ≡ total_steps (plan_body plan)
  -- each number of unmet waits is a fresh count over the edges
  pub numbers : AllFresh (plan_body plan) t.counts t.values
  -- no other list of steps is taken in that order and leads to a complete loop
  pub only : (k : List Call) → Taken plan s k → Complete (plan_body plan) (state_of (play plan s k).counts (play plan s k).values) → k ≡ calls
  -- every region's result is accepted, and is its final number in the unrolled loop
  pub results : (g : ℕ) → g < (plan_body plan).regions →
      ((result_of plan t.counts t.values g).refusal ≡ 0) × ((result_of plan t.counts t.values g).word ≡ loop_final (plan_body plan) g)

-- a plan and a lent state at entry, the answer, and the state at exit
pub record Ran (plan counts values : List ℕ) (r : Number) (counts' values' : List ℕ) : Type 0 where
  -- refused as the opening is, with nothing changed
  pub refusal : r.refusal ≡ (open_of plan counts values).refusal
  pub refused : (r.refusal ≡ 0 → ⊥) → (r.number ≡ 0) × (counts' ≡ counts) × (values' ≡ values)
  -- else run from the opening; the answer is the number of steps
  pub ran : r.refusal ≡ 0 → Run plan (lent_by (open_of plan counts values)) (lent counts' values') r.number
