use Prim.Native.Nat.{◌≤◌}
use mathlib.Core.Path.{◌≡◌}
use lib.ListN.{length, get_or, take}
use Rattle.finite.specs.Lists.{gather}
use Rattle.plan.specs.Limits.{max_accesses}
use Rattle.plan.specs.Layout.{region_at, is_read}
use Rattle.graph.proofs.Accesses.{Passed}
use Rattle.values.proofs.places.task_word.Given as goal

abbrev pub invariant-loop-k : goal.invariant-loop-k
invariant-loop-k l =
    Passed l.plan l.i l.count l.k × (l.n ≤ l.k) × (length l.reads ≡ max_accesses)
    × (take l.n l.reads ≡ gather l.k (is_read l.plan l.i) (λ j. get_or l.copies (region_at l.plan l.i j) 0))
