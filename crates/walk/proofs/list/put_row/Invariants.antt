use Rattle.finite.specs.Lists.{collect}
use Rattle.finite.specs.Put.{Added}
use Rattle.walk.specs.Listing.{entry_of}
use Rattle.walk.proofs.list.put_row.Given as goal

abbrev pub invariant-loop-b : goal.invariant-loop-b
invariant-loop-b l = Added (collect l.b (entry_of l.marks l.a)) l.at l.initial.edges l.end l.edges
