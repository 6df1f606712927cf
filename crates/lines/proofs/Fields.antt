-- The parts of a line.
use Prim.Native.Nat.{ℕ}
use mathlib.Core.Path.{◌≡◌, refl}
use mathlib.Core.List.{◌∷◌}
use borrow.Author.Tests.{ne_eqb}
use Rattle.text.specs.declared.Number.TheVariants.{Value}
use Rattle.text.specs.Digits.{digits}
use Rattle.lines.specs.Lines.{field, kind_field}

-- a field: a space, and a number behind it
pub field_digits : (n : ℕ) → field n ≡ 32 ∷ digits (Value n)
unfolding field digits
field_digits n = refl

-- a kind that is neither a task nor a send
pub kind_other : (kind : ℕ) → (kind ≡ 0 → ⊥) → (kind ≡ 1 → ⊥) → kind_field kind ≡ kind_field 2
unfolding kind_field
kind_other kind h k = rw (ne_eqb kind 0 h, ne_eqb kind 1 k)
