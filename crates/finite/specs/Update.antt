-- Functions and lists with some of their values replaced.
use Rattle.std.specs.Prelude.{ℕ, Bool, cond, List, eqb, length, get_or}
use Rattle.finite.specs.Lists.{mem, tabulate}

-- a word for each number
abbrev pub Store : Type 0
Store = ℕ → ℕ

-- f with v at a
unfoldable pub update : Store → ℕ → ℕ → Store
update f a v b = cond (eqb b a) v (f b)

-- f with v at each number of the list
unfoldable pub put : List ℕ → ℕ → Store → Store
put l v f x = cond (mem x l) v (f x)

-- the list xs with f i at each place i of which p holds
unfoldable pub replaced : (ℕ → Bool) → (ℕ → ℕ) → List ℕ → List ℕ
replaced p f xs = tabulate (length xs) (λ i. cond (p i) (f i) (get_or xs i 0))
