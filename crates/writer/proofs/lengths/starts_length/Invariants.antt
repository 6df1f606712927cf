use Rattle.writer.specs.Parts.{start_line}
use Rattle.writer.proofs.Sizes.{Summed}
use Rattle.writer.proofs.lengths.starts_length.Given as goal

abbrev pub invariant-loop-g : goal.invariant-loop-g
invariant-loop-g l = Summed (start_line l.plan) 48 l.g l.sum
