-- What the difference of two counts modulo 2 ^ 64 tells of them.
use Rattle.std.proofs.Common.{◌≡◌, ℕ, ◌^◌, ◌<◌, eqb, ltb, sym, ◌∙◌, arith, le-ltb, lt-ltb, eq-eqb, ne_eqb}
use native.Mathlib.Decide.{ℕ_discrete}
use Rattle.plan.specs.Counts.{surplus_of}

-- whether they are equal
pub surplus_none : (x y : ℕ) → x < 2 ^ 64 → y < 2 ^ 64 → ltb (surplus_of x y) 1 ≡ eqb y x
surplus_none x y l m =
    elim (ℕ_discrete y x) [
      | yes e ↦ lt-ltb (surplus_of x y) 1 (omega arith) ∙ sym (eq-eqb y x e)
      | no n ↦ le-ltb (surplus_of x y) 1 (omega (arith, n)) ∙ sym (ne_eqb y x n)
    ]
