-- Numbers as sums of powers of two: 2 ^ q for each q below n of which p holds. And a number's
-- lowest set bit.
use Prim.Native.Nat.{ℕ, zero, suc, ◌+◌, ◌-◌, ◌*◌, ◌/◌, ◌%◌, ◌^◌, ◌<◌, min}
use mathlib.Core.Path.{◌≡◌, refl, sym, ◌∙◌, ap, ap₂}
use mathlib.Core.Bool.{Bool, true, false, cond, not, ◌||◌, or-true, or-false}
use native.Mathlib.Decide.{ℕ_discrete, dec_lt}
use native.Mathlib.Nat.{mod-lt, mul-one, mul_assoc, suc-mul, mul-add-mod_self_right, div-one, zero-div, div-eq_of_lt, div-lt_iff_lt-mul, lt_of_lt_of_le, pow-suc}
use native.Mathlib.Omega.{arith}
use borrow.Author.Tests.{eq-eqb, ne_eqb}
use lib.Bits.{bit_and, and_le_r, and_step, and_zero_l, and_self, and_block}
use lib.Count.{count_trailing_zeros, under}
use lib.Dec.{eqb}
use lib.Pow.{pow_pos, pow-add, pow_mono, field, high, split, shl-shr, shr-shr, ones_lt}
use Rattle.finite.specs.Below.{sum_below}
use Rattle.finite.proofs.Below.{sum_ext}

abbrev pub bits_below : ℕ → (ℕ → Bool) → ℕ
bits_below n p = sum_below n (λ q. cond (p q) (2 ^ q) 0)

pub bits_ext : (n : ℕ) (p r : ℕ → Bool) → ((q : ℕ) → q < n → p q ≡ r q) → bits_below n p ≡ bits_below n r
bits_ext n p r h = sum_ext n (λ q. cond (p q) (2 ^ q) 0) (λ q. cond (r q) (2 ^ q) 0) (λ q l. ap (λ (b : Bool). cond b (2 ^ q) 0) (h q l))

-- bit q depends on no higher power
pub bit_low : (x y n q : ℕ) → q < n → (x * 2 ^ n + y) / 2 ^ q % 2 ≡ y / 2 ^ q % 2
bit_low x y n q l = sym (field (x * 2 ^ n + y) 1 q) ∙ (ap (λ (z : ℕ). z / 2 ^ q) same ∙ field y 1 q)
  where
    power : x * 2 ^ n ≡ x * 2 ^ (n - (1 + q)) * 2 ^ (1 + q)
    power =
        let e : n ≡ n - (1 + q) + (1 + q) = omega arith in
        ap (λ (m : ℕ). x * 2 ^ m) e ∙ (ap (λ (z : ℕ). x * z) (pow-add 2 (n - (1 + q)) (1 + q)) ∙ sym (mul_assoc x (2 ^ (n - (1 + q))) (2 ^ (1 + q))))

    same : (x * 2 ^ n + y) % 2 ^ (1 + q) ≡ y % 2 ^ (1 + q)
    same = ap (λ (z : ℕ). (z + y) % 2 ^ (1 + q)) power ∙ mul-add-mod_self_right (x * 2 ^ (n - (1 + q))) (2 ^ (1 + q)) y

pub bits_below_lem : (n : ℕ) (p : ℕ → Bool) → bits_below n p < 2 ^ n
unfolding sum_below
bits_below_lem zero p = omega arith
bits_below_lem (suc n) p = omega (arith, bits_below_lem n p, one (p n), pow-suc 2 n)
  where
    one : (b : Bool) → cond b (2 ^ n) 0 < suc (2 ^ n)
    one true = omega arith
    one false = omega arith

-- the bit of one more power, at n and below
bit_top : (n s : ℕ) (b : Bool) → s < 2 ^ n → (s + cond b (2 ^ n) 0) / 2 ^ n % 2 ≡ cond b 1 0
bit_top n s b l = turn b
  where
    turn : (b : Bool) → (s + cond b (2 ^ n) 0) / 2 ^ n % 2 ≡ cond b 1 0
    turn true =
        let e : s + 2 ^ n ≡ 1 * 2 ^ n + s = omega arith in
        ap (λ (z : ℕ). z / 2 ^ n % 2) e ∙ ap (λ (z : ℕ). z % 2) (high 1 n l)
    turn false =
        let e : s + 0 ≡ 0 * 2 ^ n + s = omega arith in
        ap (λ (z : ℕ). z / 2 ^ n % 2) e ∙ ap (λ (z : ℕ). z % 2) (high 0 n l)

bit_under : (n q s : ℕ) (b : Bool) → q < n → (s + cond b (2 ^ n) 0) / 2 ^ q % 2 ≡ s / 2 ^ q % 2
bit_under n q s b l = turn b
  where
    turn : (b : Bool) → (s + cond b (2 ^ n) 0) / 2 ^ q % 2 ≡ s / 2 ^ q % 2
    turn true =
        let e : s + 2 ^ n ≡ 1 * 2 ^ n + s = omega arith in
        ap (λ (z : ℕ). z / 2 ^ q % 2) e ∙ bit_low 1 s n q l
    turn false =
        let e : s + 0 ≡ s = omega arith in
        ap (λ (z : ℕ). z / 2 ^ q % 2) e

pub bits_at : (n : ℕ) (p : ℕ → Bool) (q : ℕ) → q < n → bits_below n p / 2 ^ q % 2 ≡ cond (p q) 1 0
unfolding sum_below
bits_at zero p q l = absurd (omega arith)
bits_at (suc n) p q l =
    elim (ℕ_discrete q n) [
      | yes e ↦ rw e (bit_top n (bits_below n p) (p n) (bits_below_lem n p))
      | no e ↦ bit_under n q (bits_below n p) (p n) (omega arith) ∙ bits_at n p q (omega arith)
    ]

-- a number by its bits
bit_value : (n x : ℕ) → x < 2 → cond (eqb (x % 2) 1) (2 ^ n) 0 ≡ x * 2 ^ n
bit_value n zero l = omega arith
bit_value n (suc zero) l = omega arith
bit_value n (suc (suc x)) l = absurd (omega arith)

pub bits_of : (n x : ℕ) → x < 2 ^ n → bits_below n (λ q. eqb (x / 2 ^ q % 2) 1) ≡ x
unfolding sum_below
bits_of zero x l = omega arith
bits_of (suc n) x l =
    let below : bits_below n (λ q. eqb (x / 2 ^ q % 2) 1) ≡ x % 2 ^ n =
    bits_ext n (λ q. eqb (x / 2 ^ q % 2) 1) (λ q. eqb (x % 2 ^ n / 2 ^ q % 2) 1) (λ q m. ap (λ (b : ℕ). eqb b 1) (under q m)) ∙ bits_of n (x % 2 ^ n) (mod-lt x (pow_pos n)) in
    let top : x / 2 ^ n < 2 = (div-lt_iff_lt-mul (pow_pos n)).1 (omega (arith, pow-suc 2 n)) in
    omega (arith, below, bit_value n (x / 2 ^ n) top, split x n)
  where
    under : (q : ℕ) → q < n → x / 2 ^ q % 2 ≡ x % 2 ^ n / 2 ^ q % 2
    under q m = ap (λ (z : ℕ). z / 2 ^ q % 2) (sym (split x n)) ∙ bit_low (x / 2 ^ n) (x % 2 ^ n) n q m

-- the power of one more number
pub bits_with : (n : ℕ) (p : ℕ → Bool) (q : ℕ) → q < n → p q ≡ false → bits_below n p + 2 ^ q ≡ bits_below n (λ j. p j || eqb j q)
unfolding sum_below
bits_with zero p q l e = absurd (omega arith)
bits_with (suc n) p q l e =
    elim (ℕ_discrete n q) [
      | yes z ↦ omega (
        arith,
        bits_ext n p (λ j. p j || eqb j q) (λ j m. other j (λ y. omega arith)),
        ap (λ (b : Bool). cond b (2 ^ n) 0) (ap p z ∙ e),
        ap (λ (b : Bool). cond (p n || b) (2 ^ n) 0) (eq-eqb n q z),
        ap (λ (b : Bool). cond b (2 ^ n) 0) (or-true (p n)),
        ap (λ (x : ℕ). 2 ^ x) z,
      )
      | no z ↦ omega (arith, bits_with n p q (omega arith) e, ap (λ (b : Bool). cond b (2 ^ n) 0) (other n z))
    ]
  where
    other : (j : ℕ) → (j ≡ q → ⊥) → p j ≡ (p j || eqb j q)
    other j m = rw (ne_eqb j q m) (sym (or-false (p j)))

pub bits_all : (n : ℕ) → bits_below n (λ _. true) + 1 ≡ 2 ^ n
unfolding sum_below
bits_all zero = refl
bits_all (suc n) = omega (arith, bits_all n, pow-suc 2 n)

-- of all numbers but one
pub bits_without : (n q : ℕ) → q < n → bits_below n (λ j. not (eqb j q)) ≡ 2 ^ n - 1 - 2 ^ q
bits_without n q l =
    omega (
      arith,
      bits_with n (λ j. not (eqb j q)) q l (rw (eq-eqb q q refl)),
      bits_ext n (λ j. not (eqb j q) || eqb j q) (λ _. true) (λ j _. either (eqb j q)),
      bits_all n,
    )
  where
    either : (b : Bool) → (not b || b) ≡ true
    either true = refl
    either false = refl

-- a number whose bit q is not set, and 2 ^ q more
module _ (n x q : ℕ) (below : x < 2 ^ n) (l : q < n) (unset : x / 2 ^ q % 2 ≡ 0) where
  more_bits : x + 2 ^ q ≡ bits_below n (λ j. eqb (x / 2 ^ j % 2) 1 || eqb j q)
  more_bits =
      ap (λ (y : ℕ). y + 2 ^ q) (sym (bits_of n x below))
      ∙ bits_with n (λ j. eqb (x / 2 ^ j % 2) 1) q l (ap (λ (b : ℕ). eqb b 1) unset)

  pub bit_more_below : x + 2 ^ q < 2 ^ n
  bit_more_below = rw more_bits (bits_below_lem n (λ j. eqb (x / 2 ^ j % 2) 1 || eqb j q))

  pub bit_more : (j : ℕ) → j < n → (x + 2 ^ q) / 2 ^ j % 2 ≡ cond (eqb j q) 1 (x / 2 ^ j % 2)
  bit_more j m =
      ap (λ (y : ℕ). y / 2 ^ j % 2) more_bits
      ∙ (bits_at n (λ j. eqb (x / 2 ^ j % 2) 1 || eqb j q) j m ∙ turn (eqb j q) (x / 2 ^ j % 2) (omega arith))
    where
      turn : (b : Bool) (y : ℕ) → y < 2 → cond (eqb y 1 || b) 1 0 ≡ cond b 1 y
      turn true zero h = refl
      turn true (suc zero) h = refl
      turn false zero h = refl
      turn false (suc zero) h = refl
      turn b (suc (suc y)) h = absurd (omega arith)

-- The lowest set bit of a number stands where its trailing zeros end. x & (x - 1) clears it, and
-- keeps the others.
shift_more : (x t : ℕ) → x / 2 / 2 ^ t ≡ x / 2 ^ suc t
shift_more x t = let e : 1 + t ≡ suc t = omega arith in shr-shr x 1 t ∙ ap (λ (k : ℕ). x / 2 ^ k) e

pub lowest_set : (n x : ℕ) → 0 < x → x < 2 ^ n → x / 2 ^ count_trailing_zeros n x % 2 ≡ 1
unfolding count_trailing_zeros
lowest_set zero x some l = absurd (omega arith)
lowest_set (suc n) x some l = by (x % 2) refl (λ e. lowest_set n (x / 2) (omega arith) (omega (arith, pow-suc 2 n)))
  where
    by : (b : ℕ) → x % 2 ≡ b → (x % 2 ≡ 0 → x / 2 / 2 ^ count_trailing_zeros n (x / 2) % 2 ≡ 1) → x / 2 ^ under b (count_trailing_zeros n (x / 2)) % 2 ≡ 1
    by zero e f = ap (λ (y : ℕ). y % 2) (sym (shift_more x (count_trailing_zeros n (x / 2)))) ∙ f e
    by (suc b) e f = ap (λ (y : ℕ). y % 2) (div-one x) ∙ omega arith

lowest_whole : (n x : ℕ) → x / 2 ^ count_trailing_zeros n x * 2 ^ count_trailing_zeros n x ≡ x
unfolding count_trailing_zeros
lowest_whole zero x = mul-one (x / 1) ∙ div-one x
lowest_whole (suc n) x = by (x % 2) refl (lowest_whole n (x / 2))
  where
    by : (b : ℕ) → x % 2 ≡ b → x / 2 / 2 ^ count_trailing_zeros n (x / 2) * 2 ^ count_trailing_zeros n (x / 2) ≡ x / 2 →
        x / 2 ^ under b (count_trailing_zeros n (x / 2)) * 2 ^ under b (count_trailing_zeros n (x / 2)) ≡ x
    by zero e f =
        let t = count_trailing_zeros n (x / 2) in
        let half : x / 2 ^ suc t * 2 ^ t ≡ x / 2 = ap (λ (y : ℕ). y * 2 ^ t) (sym (shift_more x t)) ∙ f in
        ap (λ (y : ℕ). x / 2 ^ suc t * y) (pow-suc 2 t) ∙ (sym (mul_assoc (x / 2 ^ suc t) (2 ^ t) 2) ∙ omega (arith, half))
    by (suc b) e f = mul-one (x / 1) ∙ div-one x

pub cleared_less : (x : ℕ) → 0 < x → bit_and x (x - 1) < x
cleared_less x some = omega (arith, and_le_r x (x - 1))

module _ (n x : ℕ) (some : 0 < x) (below : x < 2 ^ n) where
  pub lowest_below : (m : ℕ) → x < 2 ^ m → count_trailing_zeros n x < m
  lowest_below m l =
      elim (dec_lt (count_trailing_zeros n x) m) [
        | yes k ↦ k
        | no k ↦
            (let z : x / 2 ^ count_trailing_zeros n x ≡ 0 = div-eq_of_lt (lt_of_lt_of_le l (pow_mono (omega arith))) in
            absurd (omega (arith, z, lowest_set n x some below)))
      ]

  pub lowest_under : (j : ℕ) → j < count_trailing_zeros n x → x / 2 ^ j % 2 ≡ 0
  lowest_under j l =
      let t = count_trailing_zeros n x in
      let e : x ≡ x / 2 ^ t * 2 ^ t + 0 = omega (arith, lowest_whole n x) in
      ap (λ (y : ℕ). y / 2 ^ j % 2) e ∙ (bit_low (x / 2 ^ t) 0 t j l ∙ ap (λ (y : ℕ). y % 2) (zero-div (2 ^ j)))

  -- the bits above it
  above : ℕ
  above = x / 2 ^ count_trailing_zeros n x - 1

  lowest_above : x ≡ above * 2 ^ count_trailing_zeros n x + 2 ^ count_trailing_zeros n x
  unfolding above
  lowest_above =
      let t = count_trailing_zeros n x in
      let e : x / 2 ^ t ≡ suc (x / 2 ^ t - 1) = omega (arith, lowest_set n x some below) in
      sym (lowest_whole n x) ∙ (ap (λ (y : ℕ). y * 2 ^ t) e ∙ suc-mul (x / 2 ^ t - 1) (2 ^ t))

  above_even : above % 2 ≡ 0
  unfolding above
  above_even = omega (arith, lowest_set n x some below)

  and_above : bit_and (x / 2 ^ count_trailing_zeros n x) above ≡ above
  unfolding above
  and_above =
      let d = x / 2 ^ count_trailing_zeros n x in
      let o : d % 2 ≡ 1 = lowest_set n x some below in
      let h : (d - 1) / 2 ≡ d / 2 = omega arith in
      let z : (d - 1) % 2 ≡ 0 = omega arith in
      let m : min (d % 2) ((d - 1) % 2) ≡ 0 = rw (o, z) in
      and_step d (d - 1) ∙ (ap (λ (y : ℕ). bit_and (d / 2) y * 2 + min (d % 2) ((d - 1) % 2)) h ∙ omega (arith, m, and_self (d / 2)))

  -- x - 1 has the bits above, not that bit, and all below
  pub lowest_cleared : bit_and x (x - 1) + 2 ^ count_trailing_zeros n x ≡ x
  lowest_cleared =
      let t = count_trailing_zeros n x in
      let whole : x ≡ x / 2 ^ t * 2 ^ t + 0 = omega (arith, lowest_whole n x) in
      let less : x - 1 ≡ above * 2 ^ t + (2 ^ t - 1) = omega (arith, lowest_above, pow_pos t) in
      let parts : bit_and x (x - 1) ≡ bit_and (x / 2 ^ t) above * 2 ^ t + bit_and 0 (2 ^ t - 1) =
      ap₂ bit_and whole less ∙ and_block t (x / 2 ^ t) above 0 (2 ^ t - 1) (pow_pos t) (ones_lt t) in
      omega (arith, parts, ap (λ (y : ℕ). y * 2 ^ t) and_above, and_zero_l (2 ^ t - 1), lowest_above)

  cleared_unset : bit_and x (x - 1) / 2 ^ count_trailing_zeros n x % 2 ≡ 0
  cleared_unset =
      let t = count_trailing_zeros n x in
      let e : bit_and x (x - 1) ≡ above * 2 ^ t = omega (arith, lowest_cleared, lowest_above) in
      ap (λ (y : ℕ). y / 2 ^ t % 2) e ∙ (ap (λ (y : ℕ). y % 2) (shl-shr above t) ∙ above_even)

  pub cleared_bit : (j : ℕ) → j < n → bit_and x (x - 1) / 2 ^ j % 2 ≡ cond (eqb j (count_trailing_zeros n x)) 0 (x / 2 ^ j % 2)
  cleared_bit j l =
      let t = count_trailing_zeros n x in
      let y = bit_and x (x - 1) in
      elim (ℕ_discrete j t) [
        | yes e ↦ rw (e, eq-eqb t t refl) cleared_unset
        | no e ↦
            (let more : x / 2 ^ j % 2 ≡ cond (eqb j t) 1 (y / 2 ^ j % 2) =
            ap (λ (z : ℕ). z / 2 ^ j % 2) (sym lowest_cleared) ∙ bit_more n y t (omega (arith, lowest_cleared)) (lowest_below n below) cleared_unset j l in
            rw (ne_eqb j t e) (sym (rw (ne_eqb j t e) at more)))
      ]
