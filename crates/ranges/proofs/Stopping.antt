-- Loops over the numbers f 0, f 1, .., that stop at the first one that is not below a limit.
use Prim.Native.Nat.{ℕ, ◌+◌, ◌≤◌, ◌<◌}
use mathlib.Core.Path.{◌≡◌, sym, ◌∙◌}
use mathlib.Core.Bool.{Bool, true, false, ◌&&◌}
use native.Mathlib.Omega.{arith}
use borrow.Author.Tests.{lt-ltb, le-ltb, le-leb}
use lib.Dec.{ltb, leb}
use Rattle.finite.specs.Below.{all_below}
use Rattle.finite.proofs.Below.{all_more, all_fails}

module _ (f : ℕ → ℕ) (limit k x : ℕ) (e : x ≡ f k) where
  pub below_more : x < limit → true ≡ all_below k (λ j. ltb (f j) limit) → true ≡ all_below (k + 1) (λ j. ltb (f j) limit)
  below_more h all = all_more (λ j. ltb (f j) limit) k true true all (sym (lt-ltb (f k) limit (omega arith)))

  pub below_stop : limit ≤ x → (n : ℕ) → k < n → false ≡ all_below n (λ j. ltb (f j) limit)
  below_stop h n l = sym (all_fails (λ j. ltb (f j) limit) n k l (le-ltb (f k) limit (omega arith)))

-- of a list of n numbers, which are x, and `most` at most
module _ (p : ℕ → Bool) (n most x : ℕ) (e : x ≡ n) where
  pub list_all : x ≤ most → (r : Bool) → r ≡ all_below x p → r ≡ (leb n most && all_below n p)
  list_all h r q = q ∙ rw (e, le-leb n most (omega arith))
