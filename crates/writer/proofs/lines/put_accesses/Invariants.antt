use Rattle.finite.specs.Lists.{collect}
use Rattle.finite.specs.Put.{Added}
use Rattle.writer.specs.Parts.{access_line_at}
use Rattle.writer.proofs.lines.put_accesses.Given as goal

abbrev pub invariant-loop-a : goal.invariant-loop-a
invariant-loop-a l = Added (collect l.a (access_line_at l.plan l.i)) l.at l.initial.out l.end l.out
