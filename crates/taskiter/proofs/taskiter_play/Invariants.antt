use Prim.Native.Nat.{◌*◌, ◌≤◌}
use mathlib.Core.Path.{◌≡◌}
use lib.ListN.{length}
use Rattle.steps.specs.Calls.{lent}
use Rattle.taskiter.proofs.Playing.{Rest}
use Rattle.taskiter.proofs.taskiter_play.Given as goal

abbrev pub invariant-loop-k : goal.invariant-loop-k
invariant-loop-k l =
    Rest l.plan (lent l.initial.counts l.initial.values) l.calls l.initial.answers (lent l.counts l.values) l.answers l.k × (2 * length l.calls ≤ length l.answers) × (length l.counts ≡ length l.initial.counts) ×
    (length l.values ≡ length l.initial.values) × (length l.answers ≡ length l.initial.answers)
