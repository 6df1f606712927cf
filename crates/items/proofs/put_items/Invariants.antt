use Rattle.finite.specs.Lists.{collect}
use Rattle.finite.specs.Put.{Added}
use Rattle.items.specs.Codes.{task_codes}
use Rattle.items.proofs.put_items.Given as goal

abbrev pub invariant-loop-i : goal.invariant-loop-i
invariant-loop-i l = Added (collect l.i (task_codes l.from.plan.now l.from.masks.now l.from.wraps.now)) 0 l.initial.items l.at l.items
