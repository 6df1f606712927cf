use Rattle.finite.specs.Lists.{collect}
use Rattle.finite.specs.Put.{Added}
use Rattle.writer.specs.Parts.{start_line}
use Rattle.writer.proofs.lines.put_starts.Given as goal

abbrev pub invariant-loop-g : goal.invariant-loop-g
invariant-loop-g l = Added (collect l.g (start_line l.plan)) l.at l.initial.out l.end l.out
