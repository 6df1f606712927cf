-- A number of the text (paper 01, "The plan text"): decimal, 1 to 20 digits, with no leading zero
-- except 0 itself.
use Rattle.std.specs.Prelude.{ℕ, ◌+◌, ◌-◌, ◌*◌, ◌^◌, Bool, true, cond, not, ◌&&◌, List, [], ◌∷◌, length, ◌==◌, nat_le, nat_lt}
use Rattle.text.specs.declared.Number.{Number}
use Rattle.text.specs.declared.Number.TheVariants.{Value, TooLarge, Malformed}

-- the digits 0 to 9 are the bytes 48 to 57
abbrev pub is_digit : ℕ → Bool
is_digit c = nat_le 48 c && nat_le c 57

-- every byte is a digit
abbrev pub all_digits : List ℕ → Bool
all_digits [] = true
all_digits (c ∷ s) = is_digit c && all_digits s

-- the first of several digits is no 0
abbrev pub no_leading_zero : List ℕ → Bool
no_leading_zero [] = true
no_leading_zero (c ∷ []) = true
no_leading_zero (c ∷ d ∷ s) = not (c == 48)

-- what digits write in decimal, behind digits that write a
abbrev pub decimal_after : ℕ → List ℕ → ℕ
decimal_after a [] = a
decimal_after a (c ∷ s) = decimal_after (a * 10 + (c - 48)) s

-- 1 to 20 digits, with no leading zero except 0 itself
unfoldable pub well_formed : List ℕ → Bool
well_formed f = nat_le 1 (length f) && (nat_le (length f) 20 && (no_leading_zero f && all_digits f))

-- what a field says as a number; in form, it can still be above 2^64 - 1
unfoldable pub number_of : List ℕ → Number
number_of f =
    cond (well_formed f)
    (cond (nat_lt (decimal_after 0 f) (2 ^ 64)) (Value (decimal_after 0 f)) TooLarge)
    Malformed
