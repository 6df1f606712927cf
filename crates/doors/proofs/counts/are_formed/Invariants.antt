use mathlib.Core.Path.{◌≡◌}
use mathlib.Core.Bool.{◌&&◌}
use lib.Dec.{ltb}
use Rattle.plan.specs.Counts.{top_bit}
use Rattle.doors.proofs.Counting.{formed_to, numbers_to}
use Rattle.doors.proofs.counts.are_formed.Given as goal

abbrev pub invariant-loop-a : goal.invariant-loop-a
invariant-loop-a l =
    ((ltb l.apart 2 && ltb l.beyond top_bit) ≡ formed_to l.counts l.table l.passes l.a) × (ltb l.above top_bit ≡ numbers_to l.counts l.n l.a)
