-- Laws of the first byte of a line from an offset on.
use Rattle.std.proofs.Common.{◌≡◌, ℕ, ◌+◌, ◌-◌, ◌%◌, ◌^◌, ◌<◌, ◌≤◌, Bool, true, false, eqb, ltb, List, ◌∷◌, length, get_or, drop, sym, refl, ◌∙◌, add-one, arith, drop_of_length-le, drop-cons, ltb-false, ltb-true, eqb-true}
use Rattle.finite.proofs.Tests.{not_both}
use Rattle.text.specs.Numbers.{is_digit}
use Rattle.text.proofs.NumberLaws.{digit_in}
use Rattle.entries.specs.Scan.{head_is, head_digit}

module _ (s : List ℕ) (i : ℕ) where
  pub is_end_lem : (b : ℕ) → length s ≤ i → head_is b (drop i s) ≡ false
  is_end_lem b h = rw drop_of_length-le

  pub is_here : (b : ℕ) → i < length s → head_is b (drop i s) ≡ eqb (get_or s i 0) b
  is_here b h = rw (drop-cons s i 0)

  pub is_true : (b : ℕ) → head_is b (drop i s) ≡ true → (drop i s ≡ b ∷ drop (i + 1) s) × (i < length s)
  is_true b e = go (ltb i (length s)) refl
    where
      go : (t : Bool) → ltb i (length s) ≡ t → (drop i s ≡ b ∷ drop (i + 1) s) × (i < length s)
      go true p =
          let h : i < length s = ltb-true i (length s) p in
          (drop-cons s i 0 h ∙ rw (add-one, eqb-true (get_or s i 0) b (sym (is_here b h) ∙ e)), h)
      go false p = absurd (not_both e (is_end_lem b (ltb-false i (length s) p)))

  pub digit_end : length s ≤ i → head_digit (drop i s) ≡ false
  digit_end h = rw drop_of_length-le

  pub digit_here : i < length s → head_digit (drop i s) ≡ is_digit (get_or s i 0)
  digit_here h = rw (drop-cons s i 0)

  pub digit_true : head_digit (drop i s) ≡ true → (i < length s) × (is_digit (get_or s i 0) ≡ true)
  digit_true e = go (ltb i (length s)) refl
    where
      go : (t : Bool) → ltb i (length s) ≡ t → (i < length s) × (is_digit (get_or s i 0) ≡ true)
      go true p = let h : i < length s = ltb-true i (length s) p in (h, sym (digit_here h) ∙ e)
      go false p = absurd (not_both e (digit_end (ltb-false i (length s) p)))

-- a byte less 48, modulo 2^64: at most 9 for a digit, and then it is what the digit writes
module _ (c d : ℕ) (byte : c < 256) (word : d < 2 ^ 64) (e : (d + 48) % 2 ^ 64 ≡ c) where
  pub wrapped_digit : d ≤ 9 → (is_digit c ≡ true) × (d ≡ c - 48)
  wrapped_digit h = (digit_in c (omega arith) (omega arith), omega arith)
