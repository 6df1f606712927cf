use Rattle.writer.specs.Parts.{task_lines}
use Rattle.writer.proofs.Sizes.{Summed}
use Rattle.writer.proofs.lengths.tasks_length.Given as goal

abbrev pub invariant-loop-i : goal.invariant-loop-i
invariant-loop-i l = Summed (task_lines l.plan) 289 l.i l.sum
