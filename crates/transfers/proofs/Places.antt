-- The words that the numbers of accesses are made of, and masks of ranks.
use Prim.Native.Nat.{ℕ, ◌+◌, ◌-◌, ◌*◌, ◌^◌, ◌≤◌, ◌<◌}
use mathlib.Core.Path.{◌≡◌, sym, ◌∙◌, ap}
use native.Mathlib.Nat.{mod-eq_of_lt}
use native.Mathlib.Omega.{arith}
use lib.Bits.{bit_and, bit_or, bit_xor, xor_add_and, and_comm, and_le_l, and_mask, or_shifted}
use Rattle.finite.proofs.Bitwise.{bits_and_not}
use Rattle.plan.specs.Limits.{max_tasks}
use Rattle.transfers.specs.Search.{late_of}

-- all bits below n but those of b
xor_ones : (n b : ℕ) → b < 2 ^ n → bit_xor (2 ^ n - 1) b ≡ 2 ^ n - 1 - b
xor_ones n b l =
    let e : bit_and (2 ^ n - 1) b ≡ b = and_comm (2 ^ n - 1) b ∙ (and_mask b n ∙ mod-eq_of_lt l) in
    omega (arith, xor_add_and (2 ^ n - 1) b, e)

pub base_word : (t q b : ℕ) → t < max_tasks → b ≡ 2 ^ q → b ≤ 32768
    → (bit_or (524288 * t) (bit_xor 65535 b) ≡ 524288 * t + (65535 - 2 ^ q)) × (bit_or (524288 * t) (bit_xor 65535 b) < 67108864)
base_word t q b l e m = (word ∙ ap (λ (x : ℕ). 524288 * t + (65535 - x)) e, omega (arith, word))
  where
    others : bit_xor 65535 b ≡ 65535 - b
    others = xor_ones 16 b (omega arith)

    word : bit_or (524288 * t) (bit_xor 65535 b) ≡ 524288 * t + (65535 - b)
    word =
        let s : 524288 * t ≡ 8 * t * 2 ^ 16 = omega arith in
        ap (λ (x : ℕ). bit_or (524288 * t) x) others
        ∙ (ap (λ (x : ℕ). bit_or x (65535 - b)) s ∙ (or_shifted (8 * t) 16 (65535 - b) (omega arith) ∙ ap (λ (x : ℕ). x + (65535 - b)) (sym s)))

-- masks of 16 bits

pub late_word : (ahead s forward : ℕ) → ahead < 65536 → forward < 65536
    → (bit_and (bit_and ahead s) (bit_xor 65535 forward) ≡ late_of ahead s forward) × (bit_and (bit_and ahead s) (bit_xor 65535 forward) < 65536)
late_word ahead s forward l m = (bits_and_not 16 ahead s forward l m, omega (arith, and_le_l (bit_and ahead s) (bit_xor 65535 forward), and_le_l ahead s))
