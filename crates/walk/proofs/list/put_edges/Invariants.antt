use Rattle.finite.specs.Lists.{collect}
use Rattle.finite.specs.Put.{Added}
use Rattle.plan.specs.Layout.{body_of}
use Rattle.walk.specs.Listing.{numbers_from}
use Rattle.walk.proofs.list.put_edges.Given as goal

abbrev pub invariant-loop-a : goal.invariant-loop-a
invariant-loop-a l = Added (collect l.a (numbers_from (body_of l.items.plan.now))) 0 l.initial.edges l.at l.edges
