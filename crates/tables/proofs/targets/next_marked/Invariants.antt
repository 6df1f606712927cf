use Rattle.tables.specs.Targets.{Passed}
use Rattle.tables.proofs.targets.next_marked.Given as goal

abbrev pub invariant-loop-at : goal.invariant-loop-at
invariant-loop-at l = Passed l.marks l.b l.n l.at
