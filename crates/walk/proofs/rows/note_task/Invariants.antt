use Rattle.graph.proofs.Accesses.{Passed, touch_to}
use Rattle.walk.specs.Rows.{Touches}
use Rattle.walk.proofs.rows.note_task.Given as goal

abbrev pub invariant-loop-a : goal.invariant-loop-a
invariant-loop-a l = Passed l.plan l.i l.count l.a × Touches (touch_to l.plan l.i l.a) l.places
