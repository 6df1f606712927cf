use mathlib.Core.Path.{◌≡◌}
use Rattle.body.specs.Transfers.{last_before}
use Rattle.plan.specs.Layout.{body_of, tasks_of}
use Rattle.values.proofs.results.last_writer.Given as goal

abbrev pub invariant-loop-i : goal.invariant-loop-i
invariant-loop-i l = last_before (body_of l.plan) (tasks_of l.plan) l.g ≡ last_before (body_of l.plan) l.i l.g
