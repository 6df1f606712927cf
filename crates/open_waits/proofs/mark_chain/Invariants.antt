use Prim.Native.Nat.{◌≤◌}
use Rattle.open_waits.specs.Sources.{max_events, Counted}
use Rattle.open_waits.proofs.Marks.{Left}
use Rattle.open_waits.proofs.mark_chain.Given as goal

abbrev pub invariant-loop-left : goal.invariant-loop-left
invariant-loop-left l = (l.left ≤ max_events) × Counted l.mark l.seen l.sum × Left l.nexts l.mark l.initial.seen l.link l.seen l.left

abbrev pub decreases-loop-left : goal.decreases-loop-left
decreases-loop-left l = l.left
