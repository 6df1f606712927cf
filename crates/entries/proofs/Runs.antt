-- Laws of runs of digits: a turn of the loop that reads them, and that a text begins with one run.
use Rattle.std.proofs.Common.{◌≡◌, ℕ, ◌+◌, ◌-◌, ◌*◌, ◌^◌, ◌<◌, ◌≤◌, true, false, not, eqb, List, [], ◌∷◌, ◌++◌, length, get_or, drop, sym, refl, ap, ◌∙◌, ap₂, append_assoc, pow-suc, add-one, arith, length-append, get_or-drop, drop-cons}
use native.Mathlib.Nat.{pow-le-pow_right}
use lib.ListN.{get_or-append}
use Rattle.finite.proofs.Tests.{and-true, and_intro, not_both}
use Rattle.text.specs.Numbers.{is_digit, all_digits, no_leading_zero}
use Rattle.text.proofs.NumberLaws.{DigitAt, TenTimes, ten_times, digit_at, zero_more}
use Rattle.text.proofs.DecimalLaws.{decimal_snoc, digits_snoc}
use Rattle.plan.specs.Limits.{max_word}
use Rattle.entries.specs.Scan.{head_digit, Read}

pub digit_of : (c : ℕ) → is_digit c ≡ true → DigitAt c
digit_of c e = digit_at (c ∷ []) 0 (omega arith) (and_intro (is_digit c) true e refl)

module _ (s : List ℕ) (at : ℕ) where
  module _ {v i : ℕ} (r : Read s at v i) where
    -- the next byte is a digit too
    pub read_more : i < length s → is_digit (get_or s i 0) ≡ true → Read s at (v * 10 + (get_or s i 0 - 48)) (i + 1)
    read_more h e =
        let c = get_or s i 0 in
        let n : length (r.front ++ (c ∷ [])) ≡ length r.front + 1 = length-append r.front (c ∷ []) in
        let p : 10 ^ (length r.front + 1) ≡ 10 ^ length r.front * 10 = rw add-one (pow-suc 10 (length r.front)) in
        let d = digit_of c e in
        record {
          front = r.front ++ (c ∷ []);
          parts = r.parts ∙ rw (append_assoc, add-one, ← drop-cons s i 0 h);
          size = omega (arith, r.size);
          within = omega arith;
          all = digits_snoc r.front c r.all e;
          says = decimal_snoc 0 r.front c ∙ rw r.says;
          small = rw (n, p) (omega (arith, r.small));
        }

    -- up to 19 digits a word holds the number with any next digit
    pub read_fits : (d : ℕ) → i < at + 19 → d ≤ 9 → TenTimes (length r.front) v d
    read_fits d h k = ten_times (length r.front) v d (omega (arith, r.size)) r.small k

    -- and they write one
    pub read_word : i ≤ at + 19 → v ≤ max_word
    read_word h =
        let n : length r.front ≤ 19 = omega (arith, r.size) in
        let p : 10 ^ length r.front ≤ 10 ^ 19 = pow-le-pow_right (omega arith) n in
        omega (arith, r.small)

    read_head : 1 ≤ length r.front → get_or r.front 0 0 ≡ get_or s at 0
    read_head h =
        let a : get_or (drop at s) 0 0 ≡ get_or s (at + 0) 0 = get_or-drop at s 0 0 in
        let b : get_or (r.front ++ drop i s) 0 0 ≡ get_or r.front 0 0 = get_or-append r.front (drop i s) 0 0 h in
        let z : at + 0 ≡ at = omega arith in
        sym b ∙ (sym (ap (λ l. get_or l 0 0) r.parts) ∙ (a ∙ ap (λ k. get_or s k 0) z))

    pub read_lead : 2 ≤ length r.front → no_leading_zero r.front ≡ not (eqb (get_or s at 0) 48)
    read_lead h = zero_more r.front h ∙ ap (λ (x : ℕ). not (eqb x 48)) (read_head (omega arith))

  -- a turn of the loop: the byte behind n digits is the digit d
  pub read_next : {v : ℕ} (n d : ℕ) → Read s at v (at + n) → at + n < length s → is_digit (get_or s (at + n) 0) ≡ true → d ≡ get_or s (at + n) 0 - 48 → Read s at (v * 10 + d) (at + (n + 1))
  read_next n d r h e f =
      let i : at + (n + 1) ≡ at + n + 1 = omega arith in
      rw (i, f) (read_more r h e)

-- digits begin whatever run of digits begins the same text
pub run_begins : (f d r t : List ℕ) → f ++ r ≡ d ++ t → all_digits f ≡ true → head_digit t ≡ false → (g : List ℕ) × (d ≡ f ++ g) × (r ≡ g ++ t)
run_begins [] d r t e h k = (d, refl, e)
run_begins (c ∷ f) [] r t e h k = absurd (not_both (ap head_digit (sym e) ∙ (and-true (is_digit c) (all_digits f) h).0) k)
run_begins (c ∷ f) (x ∷ d) r t e h k =
    let p : c ≡ x = cc in
    let q : f ++ r ≡ d ++ t = cc in
    let (g, u, w) = run_begins f d r t q (and-true (is_digit c) (all_digits f) h).1 k in
    (g, ap₂ ◌∷◌ (sym p) u, w)

-- two runs that begin the same text are the same
pub run_same : (f d r t : List ℕ) → f ++ r ≡ d ++ t → all_digits f ≡ true → all_digits d ≡ true → head_digit r ≡ false → head_digit t ≡ false → (f ≡ d) × (r ≡ t)
run_same [] [] r t e h k l m = (refl, e)
run_same [] (x ∷ d) r t e h k l m = absurd (not_both (ap head_digit e ∙ (and-true (is_digit x) (all_digits d) k).0) l)
run_same (c ∷ f) [] r t e h k l m = absurd (not_both (ap head_digit (sym e) ∙ (and-true (is_digit c) (all_digits f) h).0) m)
run_same (c ∷ f) (x ∷ d) r t e h k l m =
    let p : c ≡ x = cc in
    let q : f ++ r ≡ d ++ t = cc in
    let w = run_same f d r t q (and-true (is_digit c) (all_digits f) h).1 (and-true (is_digit x) (all_digits d) k).1 l m in
    (ap₂ ◌∷◌ p w.0, w.1)
