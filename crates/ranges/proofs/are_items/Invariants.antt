use Prim.Native.Nat.{◌+◌, ◌-◌, ◌≤◌}
use mathlib.Core.Path.{◌≡◌}
use mathlib.Core.Bool.{true}
use lib.Dec.{ltb}
use lib.ListN.{get_or}
use Rattle.finite.specs.Below.{all_below}
use Rattle.prepared.specs.Tables.{first_target}
use Rattle.ranges.proofs.are_items.Given as goal

abbrev pub invariant-loop-j : goal.invariant-loop-j
invariant-loop-j l =
    (l.j - l.from ≤ l.to - l.from) × (true ≡ all_below (l.j - l.from) (λ k. ltb (get_or l.tables (first_target + (l.from + k)) 0) l.items))
