-- A test passed by each of a list, and lists of numbers that are alike.
use Prim.Native.Nat.{ℕ, zero, suc, ◌<◌}
use mathlib.Core.Path.{◌≡◌, refl}
use mathlib.Core.Bool.{Bool, true}
use mathlib.Core.List.{List, [], ◌∷◌, ◌++◌}
use native.Mathlib.Omega.{arith}
use borrow.Author.Tests.{eq-eqb}
use lib.Dec.{eqb}
use lib.ListN.{length, get_or}
use Rattle.finite.specs.Lists.{tabulate}
use Rattle.finite.proofs.Tests.{and_intro, and-true}
use Rattle.text.specs.Words.{alike}
use Rattle.reading.specs.Valid.{every}

module _ {X : Type 0} where
  pub every_append : (p : X → Bool) (l k : List X) → every p l ≡ true → every p k ≡ true → every p (l ++ k) ≡ true
  every_append p [] k h g = g
  every_append p (y ∷ l) k h g = let a = and-true (p y) (every p l) h in and_intro (p y) _ a.0 (every_append p l k a.1 g)

  pub every_snoc : (p : X → Bool) (l : List X) (x : X) → every p l ≡ true → p x ≡ true → every p (l ++ (x ∷ [])) ≡ true
  every_snoc p l x h k = every_append p l (x ∷ []) h (and_intro (p x) true k refl)

  pub every_at : (p : X → Bool) (l : List X) (i : ℕ) (d : X) → every p l ≡ true → i < length l → p (get_or l i d) ≡ true
  every_at p [] i d h k = absurd (omega arith)
  every_at p (y ∷ l) zero d h k = (and-true (p y) (every p l) h).0
  every_at p (y ∷ l) (suc i) d h k = every_at p l i d (and-true (p y) (every p l) h).1 (omega arith)

  pub every_tabulate : (p : X → Bool) (f : ℕ → X) (n : ℕ) → ((i : ℕ) → i < n → p (f i) ≡ true) → every p (tabulate n f) ≡ true
  unfolding tabulate
  every_tabulate p f zero h = refl
  every_tabulate p f (suc n) h = every_snoc p (tabulate n f) (f n) (every_tabulate p f n (λ i k. h i (omega arith))) (h n (omega arith))

pub alike_refl : (l : List ℕ) → alike l l ≡ true
alike_refl [] = refl
alike_refl (x ∷ l) = and_intro (eqb x x) _ (eq-eqb x x refl) (alike_refl l)
