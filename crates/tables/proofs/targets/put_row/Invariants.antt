use Prim.Native.Nat.{◌-◌, ◌≤◌}
use Rattle.tables.proofs.Targeted.{RowTo}
use Rattle.tables.proofs.targets.put_row.Given as goal

abbrev pub invariant-loop-b : goal.invariant-loop-b
invariant-loop-b l = (l.passed ≤ l.n) × RowTo l.marks l.at l.initial.targets l.initial.sources l.passed l.end l.targets l.sources

abbrev pub decreases-loop-b : goal.decreases-loop-b
decreases-loop-b l = l.n - l.passed
