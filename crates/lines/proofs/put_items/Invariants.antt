use Prim.Native.Nat.{◌-◌, ◌≤◌}
use Rattle.finite.specs.Lists.{collect}
use Rattle.finite.specs.Put.{Added}
use Rattle.lines.specs.Tables.{item_line_at}
use Rattle.lines.proofs.put_items.Given as goal

abbrev pub invariant-loop-a : goal.invariant-loop-a
invariant-loop-a l = (l.a ≤ l.n) × Added (collect l.a (item_line_at l.table)) 0 l.initial.out l.at l.out

abbrev pub decreases-loop-a : goal.decreases-loop-a
decreases-loop-a l = l.n - l.a
