use Prim.Native.Nat.{◌-◌, ◌≤◌}
use Rattle.finite.specs.Lists.{collect}
use Rattle.finite.specs.Put.{Added}
use Rattle.lines.specs.Tables.{edge_line_at}
use Rattle.lines.proofs.put_edges.Given as goal

abbrev pub invariant-loop-k : goal.invariant-loop-k
invariant-loop-k l = (l.k ≤ l.m) × Added (collect l.k (edge_line_at l.list)) 0 l.initial.out l.at l.out

abbrev pub decreases-loop-k : goal.decreases-loop-k
decreases-loop-k l = l.m - l.k
