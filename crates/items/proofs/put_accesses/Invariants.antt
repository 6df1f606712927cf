use Rattle.finite.specs.Lists.{collect}
use Rattle.finite.specs.Put.{Added}
use Rattle.items.specs.Codes.{access_codes}
use Rattle.items.proofs.put_accesses.Given as goal

abbrev pub invariant-loop-a : goal.invariant-loop-a
invariant-loop-a l = Added (collect l.a (access_codes l.from.plan.now l.from.masks.now l.from.wraps.now l.i)) l.n l.initial.items l.at l.items
