use Prim.Native.Nat.{◌+◌}
use mathlib.Core.Path.{◌≡◌}
use Rattle.finite.specs.Below.{any_below}
use Rattle.tables.specs.Targets.{is_marked}
use Rattle.tables.proofs.targets.any_marked.Given as goal

abbrev pub invariant-loop-k : goal.invariant-loop-k
invariant-loop-k l = l.found ≡ any_below l.k (λ j. is_marked l.marks (l.b + j))
