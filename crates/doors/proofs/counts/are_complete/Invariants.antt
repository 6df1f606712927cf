use mathlib.Core.Path.{◌≡◌}
use lib.Dec.{ltb}
use Rattle.doors.proofs.Counting.{complete_to}
use Rattle.doors.proofs.counts.are_complete.Given as goal

abbrev pub invariant-loop-a : goal.invariant-loop-a
invariant-loop-a l = (ltb l.missing 1 ≡ complete_to l.counts l.table l.passes l.a)
