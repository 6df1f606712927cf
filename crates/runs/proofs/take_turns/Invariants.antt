use Prim.Native.Nat.{◌*◌, ◌-◌}
use mathlib.Core.Path.{◌≡◌}
use lib.ListN.{length}
use Rattle.body.specs.Items.{item_count}
use Rattle.plan.specs.Limits.{max_accesses}
use Rattle.plan.specs.Layout.{passes_of}
use Rattle.graph.specs.Answers.{plan_body}
use Rattle.steps.specs.Calls.{lent}
use Rattle.steps.specs.Turns.{Going}
use Rattle.runs.proofs.Taking.{Taken}
use Rattle.runs.proofs.take_turns.Given as goal

abbrev pub invariant-loop-lowest : goal.invariant-loop-lowest
invariant-loop-lowest l =
    Going l.plan (lent l.initial.counts l.initial.values) (lent l.counts l.values) l.steps × Taken l.plan l.counts l.lowest l.words
    × (length l.room ≡ max_accesses) × (length l.counts ≡ length l.initial.counts) × (length l.values ≡ length l.initial.values)

abbrev pub decreases-loop-lowest : goal.decreases-loop-lowest
decreases-loop-lowest l =
    2 * (item_count (plan_body l.plan) * passes_of l.plan) - l.steps
