-- The digits of a number (paper 01, "The plan text"): what a written text has for it.
use Rattle.std.specs.Prelude.{ℕ, zero, suc, ◌+◌, ◌/◌, ◌%◌, cond, List, [], ◌∷◌, ◌++◌, nat_lt}
use Rattle.text.specs.declared.Number.{Number}
use Rattle.text.specs.declared.Number.TheVariants.{Value, TooLarge, Malformed}

-- n in decimal, for n below 10 to the k + 1
abbrev pub decimal : ℕ → ℕ → List ℕ
decimal zero n = (48 + n) ∷ []
decimal (suc k) n = cond (nat_lt n 10) ((48 + n) ∷ []) (decimal k (n / 10) ++ ((48 + n % 10) ∷ []))

-- a number that is none has no digits
unfoldable pub digits : Number → List ℕ
digits (Value n) = decimal 19 n
digits TooLarge = []
digits Malformed = []
