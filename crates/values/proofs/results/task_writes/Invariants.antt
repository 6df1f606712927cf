use mathlib.Core.Bool.{false}
use mathlib.Core.Path.{◌≡◌}
use Rattle.finite.specs.Below.{any_below}
use Rattle.values.proofs.Resulting.{writes_here}
use Rattle.values.proofs.results.task_writes.Given as goal

abbrev pub invariant-loop-k : goal.invariant-loop-k
invariant-loop-k l = any_below l.k (writes_here l.plan l.i l.g) ≡ false
