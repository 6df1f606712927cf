use mathlib.Core.Path.{◌≡◌}
use lib.ListN.{length}
use Rattle.finite.specs.Update.{replaced}
use Rattle.doors.proofs.Counting.{counts_below}
use Rattle.doors.proofs.counts.clear_counts.Given as goal

abbrev pub invariant-loop-a : goal.invariant-loop-a
invariant-loop-a l = (length l.counts ≡ length l.initial.counts) × (l.counts ≡ replaced (counts_below l.a) (λ i. 0) l.initial.counts)
