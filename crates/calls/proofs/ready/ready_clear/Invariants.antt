use Rattle.finite.specs.Lists.{collect}
use Rattle.finite.specs.Put.{Added}
use Rattle.plan.specs.Layout.{body_of}
use Rattle.calls.proofs.Readying.{ready_at}
use Rattle.calls.proofs.ready.ready_clear.Given as goal

abbrev pub invariant-loop-a : goal.invariant-loop-a
invariant-loop-a l = Added (collect l.a (ready_at (body_of l.items.plan.now) l.counts)) 0 l.initial.list l.at l.list
