use Rattle.graph.proofs.Accesses.{Passed}
use Rattle.open_waits.proofs.TaskTouch.{Accessed}
use Rattle.open_waits.proofs.touch_task.Given as goal

abbrev pub invariant-loop-k : goal.invariant-loop-k
invariant-loop-k l = Passed l.plan l.i l.count l.k × Accessed l.plan l.i l.a l.q l.mark l.initial.seen l.k l.heads l.writers l.nexts l.seen l.sum
