-- Bytes put at the start of a slice, and others put in the part behind them.
use Prim.Native.Nat.{ℕ, ◌+◌, ◌-◌, ◌≤◌}
use mathlib.Core.Path.{◌≡◌, ap, subst}
use mathlib.Core.List.{List, ◌++◌}
use native.Mathlib.Omega.{arith}
use lib.ListN.{length, take, drop, length-append}
use Rattle.finite.specs.Put.{Put, Room}

-- by another name
pub put_as : {X Y out out' : List ℕ} {r : ℕ} → X ≡ Y → Put X out r out' → Put Y out r out'
put_as {X} {Y} {out} {out'} {r} e P = subst (λ (l : List ℕ). Put l out r out') e P

-- where the part starts
pub part_start : (X out : List ℕ) (r : ℕ) (mid : List ℕ) → Put X out r mid → r ≤ length mid
part_start X out r mid P = omega (arith, P.count, ap length P.begins, length-append X (drop (length X) out))

module _ (X Y out : List ℕ) (room : Room (X ++ Y) out) where
  pub room_first : Room X out
  room_first = omega (arith, room, length-append X Y)

  pub sum_most : (r : ℕ) (mid : List ℕ) → Put X out r mid → (q : ℕ) (part : List ℕ) → Put Y (take (length mid - r) (drop r mid)) q part → r + q ≤ length out
  sum_most r mid P q part Q = omega (arith, P.count, Q.count, room, length-append X Y)
