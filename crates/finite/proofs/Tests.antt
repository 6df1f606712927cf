-- Laws of tests, beside the kit's (mathlib.Core.Bool, borrow.Author.Tests).
use mathlib.Core.Path.{◌≡◌, refl, sym, ◌∙◌}
use mathlib.Core.Bool.{Bool, true, false, ◌&&◌, ◌||◌, true≢false, and-eq-true_iff}
use mathlib.Core.Logic.{◌⊎◌, inl, inr}
use borrow.Author.Tests.{eqb-true, eq-eqb, lt-ltb, le-ltb}
use lib.Dec.{eqb, ltb}
use native.Mathlib.Decide.{dec_lt}
use native.Mathlib.Omega.{arith}
use Prim.Native.Nat.{ℕ, ◌+◌}

unfoldable pub true_or_false : (b : Bool) → (b ≡ true) ⊎ (b ≡ false)
true_or_false true = inl refl
true_or_false false = inr refl

pub not_both : {b : Bool} → b ≡ true → b ≡ false → ⊥
not_both p q = true≢false (sym p ∙ q)

pub false_of : (b : Bool) → (b ≡ true → ⊥) → b ≡ false
false_of true f = absurd (f refl)
false_of false f = refl

pub or_cases : (a b : Bool) → (a || b) ≡ true → (a ≡ true) ⊎ (b ≡ true)
or_cases true b h = inl refl
or_cases false b h = inr h

-- tests that imply each other are equal
pub test_ext : (a b : Bool) → (a ≡ true → b ≡ true) → (b ≡ true → a ≡ true) → a ≡ b
test_ext true b f g = sym (f refl)
test_ext false true f g = g refl
test_ext false false f g = refl

-- equal parts make equal conjunctions: for `search`, where a callee's answer is a part
pub and_parts : {a b c d : Bool} → a ≡ c → b ≡ d → (a && b) ≡ (c && d)
and_parts p q = rw (p, q)

pub and-true : (a b : Bool) → (a && b) ≡ true → (a ≡ true) × (b ≡ true)
and-true a b = (and-eq-true_iff a b).0

pub and_intro : (a b : Bool) → a ≡ true → b ≡ true → (a && b) ≡ true
and_intro a b p q = rw (p, q)

pub or_parts : (a b : Bool) → (a || b) ≡ false → (a ≡ false) × (b ≡ false)
or_parts true b e = absurd (not_both refl e)
or_parts false b e = (refl, e)

pub or_right : (a b : Bool) → (a || b) ≡ true → a ≡ false → b ≡ true
or_right true b h e = absurd (not_both refl e)
or_right false b h e = h

pub eqb_comm : (x y : ℕ) → eqb x y ≡ eqb y x
eqb_comm x y = test_ext (eqb x y) (eqb y x) (λ e. eq-eqb y x (sym (eqb-true x y e))) (λ e. eq-eqb x y (sym (eqb-true y x e)))

-- numbers from n on
pub eqb_from : (n a b : ℕ) → eqb (n + a) (n + b) ≡ eqb a b
eqb_from n a b =
    test_ext (eqb (n + a) (n + b)) (eqb a b)
    (λ e. eq-eqb a b (omega (arith, eqb-true (n + a) (n + b) e)))
    (λ e. eq-eqb (n + a) (n + b) (omega (arith, eqb-true a b e)))

-- the test of the next number
pub ltb_next : (x g : ℕ) → (x ≡ g → ⊥) → ltb x (g + 1) ≡ ltb x g
ltb_next x g n =
    elim (dec_lt x g) [
      | yes l ↦ lt-ltb x (g + 1) (omega arith) ∙ sym (lt-ltb x g l)
      | no l ↦ le-ltb x (g + 1) (omega arith) ∙ sym (le-ltb x g (omega arith))
    ]

-- two tests, each with a number more
pub or_both : (x y u s : Bool) → (x || (y || (u || s))) ≡ ((y || u) || (x || s))
or_both true true u s = refl
or_both true false true s = refl
or_both true false false s = refl
or_both false true u s = refl
or_both false false u s = refl
