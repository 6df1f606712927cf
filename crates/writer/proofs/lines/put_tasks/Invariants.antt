use Rattle.finite.specs.Lists.{collect}
use Rattle.finite.specs.Put.{Added}
use Rattle.writer.specs.Parts.{task_lines}
use Rattle.writer.proofs.lines.put_tasks.Given as goal

abbrev pub invariant-loop-i : goal.invariant-loop-i
invariant-loop-i l = Added (collect l.i (task_lines l.plan)) l.at l.initial.out l.end l.out
