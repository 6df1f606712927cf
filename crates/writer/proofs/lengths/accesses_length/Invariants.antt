use Rattle.writer.specs.Parts.{access_line_at}
use Rattle.writer.proofs.Sizes.{Summed}
use Rattle.writer.proofs.lengths.accesses_length.Given as goal

abbrev pub invariant-loop-a : goal.invariant-loop-a
invariant-loop-a l = Summed (access_line_at l.plan l.i) 27 l.a l.sum
