-- Operations on the bits of numbers that are sums of powers of two, and how many bits are set.
use Prim.Native.Nat.{ℕ, zero, suc, ◌+◌, ◌-◌, ◌*◌, ◌/◌, ◌%◌, ◌^◌, ◌<◌}
use mathlib.Core.Path.{◌≡◌, refl, sym, ◌∙◌, ap, ap₂}
use mathlib.Core.Bool.{Bool, true, false, cond, not, ◌&&◌, ◌||◌}
use native.Mathlib.Nat.{mod-lt}
use native.Mathlib.Omega.{arith}
use borrow.Author.Tests.{ltb-true, lt-ltb}
use lib.Bits.{bit_and, bit_or, bit_xor, and_block, or_block, xor_block, and_zero_l, and_le_l, and_le_r, or_lt, or_add_and}
use lib.Count.{ones, ones_cat}
use lib.Dec.{eqb, ltb}
use lib.Pow.{pow_pos, split}
use Rattle.finite.specs.Below.{all_below, count_below, sum_below}
use Rattle.finite.proofs.Tests.{test_ext, and-true}
use Rattle.finite.proofs.Below.{all_more}
use Rattle.finite.proofs.Bits.{bits_below, bits_ext, bits_below_lem, bits_of, bits_all, bit_low}

abbrev digit : Bool → ℕ
digit b = cond b 1 0

bits_top : (n : ℕ) (p : ℕ → Bool) → bits_below (suc n) p ≡ digit (p n) * 2 ^ n + bits_below n p
unfolding sum_below
bits_top n p = omega (arith, one (p n))
  where
    one : (b : Bool) → cond b (2 ^ n) 0 ≡ digit b * 2 ^ n
    one true = omega arith
    one false = omega arith

-- an operation that takes numbers apart at each bit, and what it does to digits
bits_op : (op : ℕ → ℕ → ℕ) (f : Bool → Bool → Bool)
    → ((k a b r s : ℕ) → r < 2 ^ k → s < 2 ^ k → op (a * 2 ^ k + r) (b * 2 ^ k + s) ≡ op a b * 2 ^ k + op r s)
    → ((a b : Bool) → op (digit a) (digit b) ≡ digit (f a b))
    → op 0 0 ≡ 0
    → (n : ℕ) (p r : ℕ → Bool) → op (bits_below n p) (bits_below n r) ≡ bits_below n (λ q. f (p q) (r q))
unfolding sum_below
bits_op op f block digits none zero p r = none
bits_op op f block digits none (suc n) p r =
    ap₂ op (bits_top n p) (bits_top n r)
    ∙ (block n (digit (p n)) (digit (r n)) (bits_below n p) (bits_below n r) (bits_below_lem n p) (bits_below_lem n r)
    ∙ (ap₂ (λ (x y : ℕ). x * 2 ^ n + y) (digits (p n) (r n)) (bits_op op f block digits none n p r) ∙ sym (bits_top n (λ q. f (p q) (r q)))))

bits_and : (n : ℕ) (p r : ℕ → Bool) → bit_and (bits_below n p) (bits_below n r) ≡ bits_below n (λ q. p q && r q)
bits_and = bits_op bit_and (λ a b. a && b) and_block digits refl
  where
    digits : (a b : Bool) → bit_and (digit a) (digit b) ≡ digit (a && b)
    digits true true = refl
    digits true false = refl
    digits false true = refl
    digits false false = refl

pub bits_or : (n : ℕ) (p r : ℕ → Bool) → bit_or (bits_below n p) (bits_below n r) ≡ bits_below n (λ q. p q || r q)
bits_or = bits_op bit_or (λ a b. a || b) or_block digits refl
  where
    digits : (a b : Bool) → bit_or (digit a) (digit b) ≡ digit (a || b)
    digits true true = refl
    digits true false = refl
    digits false true = refl
    digits false false = refl

-- the others
bits_not : (n : ℕ) (p : ℕ → Bool) → bit_xor (2 ^ n - 1) (bits_below n p) ≡ bits_below n (λ q. not (p q))
bits_not n p =
    let e : 2 ^ n - 1 ≡ bits_below n (λ _. true) = omega (arith, bits_all n) in
    ap (λ (x : ℕ). bit_xor x (bits_below n p)) e ∙ bits_op bit_xor differ xor_block digits refl n (λ _. true) p
  where
    differ : Bool → Bool → Bool
    differ true b = not b
    differ false b = b

    digits : (a b : Bool) → bit_xor (digit a) (digit b) ≡ digit (differ a b)
    digits true true = refl
    digits true false = refl
    digits false true = refl
    digits false false = refl

-- what lies above the first n bits of a number is not in a number of n bits
and_low : (n x a p : ℕ) → x < 2 ^ n → p < 2 ^ n → bit_and x (a * 2 ^ n + p) ≡ bit_and x p
and_low n x a p l m =
    let e : x ≡ 0 * 2 ^ n + x = omega arith in
    ap (λ (y : ℕ). bit_and y (a * 2 ^ n + p)) e ∙ (and_block n 0 a x p l m ∙ ap (λ (y : ℕ). y * 2 ^ n + bit_and x p) (and_zero_l a) ∙ omega arith)

-- the first n bits of a number
bits_first : (n x : ℕ) → bits_below n (λ q. eqb (x / 2 ^ q % 2) 1) ≡ x % 2 ^ n
bits_first n x =
    bits_ext n (λ q. eqb (x / 2 ^ q % 2) 1) (λ q. eqb (x % 2 ^ n / 2 ^ q % 2) 1)
    (λ q l. ap (λ (z : ℕ). eqb (z / 2 ^ q % 2) 1) (sym (split x n)) ∙ ap (λ (b : ℕ). eqb b 1) (bit_low (x / 2 ^ n) (x % 2 ^ n) n q l))
    ∙ bits_of n (x % 2 ^ n) (mod-lt x (pow_pos n))

-- the bits that x and s have and y has not
pub bits_and_not : (n x s y : ℕ) → x < 2 ^ n → y < 2 ^ n
    → bit_and (bit_and x s) (bit_xor (2 ^ n - 1) y) ≡ bits_below n (λ q. (eqb (x / 2 ^ q % 2) 1 && eqb (s / 2 ^ q % 2) 1) && not (eqb (y / 2 ^ q % 2) 1))
bits_and_not n x s y l m =
    let X : ℕ → Bool = λ q. eqb (x / 2 ^ q % 2) 1 in
    let S : ℕ → Bool = λ q. eqb (s / 2 ^ q % 2) 1 in
    let Y : ℕ → Bool = λ q. eqb (y / 2 ^ q % 2) 1 in
    let low : bit_and x s ≡ bit_and x (s % 2 ^ n) = ap (bit_and x) (sym (split s n)) ∙ and_low n x (s / 2 ^ n) (s % 2 ^ n) l (mod-lt s (pow_pos n)) in
    ap₂ bit_and (low ∙ (ap₂ bit_and (sym (bits_of n x l)) (sym (bits_first n s)) ∙ bits_and n X S)) (ap (bit_xor (2 ^ n - 1)) (sym (bits_of n y m)) ∙ bits_not n Y)
    ∙ bits_and n (λ q. X q && S q) (λ q. not (Y q))

-- how many are set
pub ones_bits : (n : ℕ) (p : ℕ → Bool) → ones (bits_below n p) ≡ count_below n p
unfolding ones sum_below count_below
ones_bits zero p = refl
ones_bits (suc n) p = ap ones (bits_top n p) ∙ (ones_cat n (digit (p n)) (bits_below n p) (bits_below_lem n p) ∙ omega (arith, digit_ones (p n), ones_bits n p))
  where
    digit_ones : (b : Bool) → ones (digit b) ≡ digit b
    digit_ones true = refl
    digit_ones false = refl

-- two numbers joined by or lie below a power of two exactly if both do
pub or_below : (k x y : ℕ) → ltb (bit_or x y) (2 ^ k) ≡ (ltb x (2 ^ k) && ltb y (2 ^ k))
or_below k x y = test_ext (ltb (bit_or x y) (2 ^ k)) (ltb x (2 ^ k) && ltb y (2 ^ k)) apart joined
  where
    apart : ltb (bit_or x y) (2 ^ k) ≡ true → (ltb x (2 ^ k) && ltb y (2 ^ k)) ≡ true
    apart h =
        let l : bit_or x y < 2 ^ k = ltb-true (bit_or x y) (2 ^ k) h in
        rw (lt-ltb x (2 ^ k) (omega (arith, or_add_and x y, and_le_r x y)), lt-ltb y (2 ^ k) (omega (arith, or_add_and x y, and_le_l x y)))

    joined : (ltb x (2 ^ k) && ltb y (2 ^ k)) ≡ true → ltb (bit_or x y) (2 ^ k) ≡ true
    joined h =
        let both = and-true (ltb x (2 ^ k)) (ltb y (2 ^ k)) h in
        lt-ltb (bit_or x y) (2 ^ k) (or_lt k x y (ltb-true x (2 ^ k) both.0) (ltb-true y (2 ^ k) both.1))

-- a turn `all = all | x` of a loop: whether each number so far lies below a power of two
pub or_more : (k : ℕ) (p : ℕ → Bool) (i all x : ℕ) → ltb all (2 ^ k) ≡ all_below i p → ltb x (2 ^ k) ≡ p i → ltb (bit_or all x) (2 ^ k) ≡ all_below (i + 1) p
or_more k p i all x h e = or_below k all x ∙ all_more p i (ltb all (2 ^ k)) (ltb x (2 ^ k)) h e
