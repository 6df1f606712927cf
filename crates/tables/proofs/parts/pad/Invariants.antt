use Prim.Native.Nat.{ℕ, ◌<◌}
use mathlib.Core.Path.{◌≡◌}
use lib.ListN.{length, get_or}
use Rattle.tables.proofs.parts.pad.Given as goal

abbrev pub invariant-loop-k : goal.invariant-loop-k
invariant-loop-k l = (length l.front ≡ l.n) × ((j : ℕ) → j < l.k → get_or l.front j 0 ≡ get_or l.from j 0)
