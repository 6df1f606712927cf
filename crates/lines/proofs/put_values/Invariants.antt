use Prim.Native.Nat.{◌-◌, ◌≤◌}
use Rattle.finite.specs.Lists.{collect}
use Rattle.finite.specs.Put.{Added}
use Rattle.lines.specs.Tables.{value_line_at}
use Rattle.lines.proofs.put_values.Given as goal

abbrev pub invariant-loop-g : goal.invariant-loop-g
invariant-loop-g l = (l.g ≤ l.n) × Added (collect l.g (value_line_at l.words)) 0 l.initial.out l.at l.out

abbrev pub decreases-loop-g : goal.decreases-loop-g
decreases-loop-g l = l.n - l.g
