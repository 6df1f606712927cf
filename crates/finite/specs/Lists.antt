-- Lists of numbers, and lists built from the numbers below n.
use Rattle.std.specs.Prelude.{ℕ, zero, suc, Bool, true, false, cond, not, ◌&&◌, ◌||◌, List, [], ◌∷◌, ◌++◌, eqb}

-- x stands in the list
unfoldable pub mem : ℕ → List ℕ → Bool
mem x [] = false
mem x (y ∷ l) = eqb x y || mem x l

-- no number stands twice in the list
unfoldable pub distinct : List ℕ → Bool
distinct [] = true
distinct (x ∷ l) = not (mem x l) && distinct l

-- where x first stands in the list; its length where it does not
unfoldable pub position : ℕ → List ℕ → ℕ
position x [] = 0
position x (y ∷ l) = cond (eqb x y) 0 (suc (position x l))

-- the n numbers from a on
unfoldable pub range : ℕ → ℕ → List ℕ
range a zero = []
range a (suc n) = a ∷ range (suc a) n

module _ {X : Type 0} where
  -- f k for each k below n, in order
  unfoldable pub tabulate : ℕ → (ℕ → X) → List X
  tabulate zero f = []
  tabulate (suc n) f = tabulate n f ++ (f n ∷ [])

  -- f k for each k below n of which p holds, in order
  unfoldable pub gather : ℕ → (ℕ → Bool) → (ℕ → X) → List X
  gather zero p f = []
  gather (suc n) p f = gather n p f ++ cond (p n) (f n ∷ []) []

  -- the lists f 0, f 1, .., f (n - 1), one after another
  unfoldable pub collect : ℕ → (ℕ → List X) → List X
  collect zero f = []
  collect (suc n) f = collect n f ++ f n
