use Prim.Native.Nat.{◌-◌, ◌≤◌}
use mathlib.Core.Path.{◌≡◌}
use lib.ListN.{length}
use Rattle.steps.specs.Calls.{lent}
use Rattle.checker.proofs.Lining.{Reached}
use Rattle.checker.proofs.check_lines.Given as goal

abbrev pub invariant-loop-at : goal.invariant-loop-at
invariant-loop-at l =
    Reached l.plan l.tables l.journal (lent l.initial.counts l.initial.values) (lent l.counts l.values) l.at l.held × (l.at ≤ length l.journal) × (l.held ≤ l.at)
    × (length l.counts ≡ length l.initial.counts) × (length l.values ≡ length l.initial.values)

abbrev pub decreases-loop-at : goal.decreases-loop-at
decreases-loop-at l = length l.journal - l.at
