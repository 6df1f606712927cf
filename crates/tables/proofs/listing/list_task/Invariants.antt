use Rattle.finite.specs.Lists.{collect}
use Rattle.finite.specs.Put.{Added}
use Rattle.graph.proofs.Accesses.{Passed}
use Rattle.tables.proofs.Listed.{used_at}
use Rattle.tables.proofs.listing.list_task.Given as goal

abbrev pub invariant-loop-k : goal.invariant-loop-k
invariant-loop-k l = Passed l.plan l.i l.count l.k × Added (collect l.k (used_at l.plan l.write l.i l.first)) 0 l.initial.row l.at l.row
