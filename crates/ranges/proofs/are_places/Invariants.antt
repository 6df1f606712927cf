use Prim.Native.Nat.{◌≤◌}
use mathlib.Core.Path.{◌≡◌}
use mathlib.Core.Bool.{true}
use lib.Dec.{ltb}
use Rattle.finite.specs.Below.{all_below}
use Rattle.plan.specs.Sizes.{first_held}
use Rattle.prepared.specs.Tables.{place_in}
use Rattle.ranges.proofs.are_places.Given as goal

abbrev pub invariant-loop-k : goal.invariant-loop-k
invariant-loop-k l = (l.k ≤ l.count) × (true ≡ all_below l.k (λ j. ltb (place_in l.tables l.first l.a j) first_held))
