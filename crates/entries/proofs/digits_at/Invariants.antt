use Rattle.std.proofs.Common.{◌+◌}
use Rattle.entries.specs.Scan.{Read}
use Rattle.entries.proofs.digits_at.Given as goal

abbrev pub invariant-loop-size : goal.invariant-loop-size
invariant-loop-size l = Read l.s l.at l.value (l.at + l.size)
