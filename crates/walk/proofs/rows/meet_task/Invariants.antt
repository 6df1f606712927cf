use Rattle.graph.proofs.Accesses.{Passed, touch_to}
use Rattle.walk.specs.Rows.{Places, Meets}
use Rattle.walk.proofs.rows.meet_task.Given as goal

abbrev pub invariant-loop-a : goal.invariant-loop-a
invariant-loop-a l = Passed l.plan l.i l.count l.a × Places l.places × Meets (touch_to l.plan l.i l.a) l.initial.places l.places l.hit
