-- Laws of `specs/Numbers.antt`, as the functions over a field ask them: those of a loop at an index
-- i of the list f.
use Rattle.std.proofs.Common.{◌≡◌, ℕ, zero, suc, ◌+◌, ◌-◌, ◌*◌, ◌^◌, ◌<◌, ◌≤◌, true, false, not, ◌&&◌, eqb, leb, List, [], ◌∷◌, length, get_or, take, drop, refl, ◌∙◌, le_of_suc-le-suc, pow-suc, add-one, arith, drop_of_length-le, drop-cons, le-ltb, lt-ltb, le-leb, leb-true}
use mathlib.Core.Bool.{and-eq-true_iff}
use native.Mathlib.Nat.{pow-le-pow_right}
use Rattle.std.proofs.Common.{Bool, ap}
use Rattle.std.specs.List.{list_all}
use Rattle.text.specs.Numbers.{is_digit, all_digits, no_leading_zero, well_formed, decimal_after, number_of}
use Rattle.text.specs.declared.Number.TheVariants.{Value, TooLarge, Malformed}

pub digit_in : (x : ℕ) → 48 ≤ x → x ≤ 57 → is_digit x ≡ true
digit_in x h k = simp (le-leb 48 x h, le-leb x 57 k)

pub well_formed_digits : (f : List ℕ) → well_formed f ≡ true → all_digits f ≡ true
unfolding well_formed
well_formed_digits f e =
    let a = (and-eq-true_iff (leb 1 (length f)) (leb (length f) 20 && (no_leading_zero f && all_digits f))).0 e in
    let b = (and-eq-true_iff (leb (length f) 20) (no_leading_zero f && all_digits f)).0 a.1 in
    ((and-eq-true_iff (no_leading_zero f) (all_digits f)).0 b.1).1

pub well_formed_length : (f : List ℕ) → well_formed f ≡ true → length f ≤ 20
unfolding well_formed
well_formed_length f e =
    let a = (and-eq-true_iff (leb 1 (length f)) (leb (length f) 20 && (no_leading_zero f && all_digits f))).0 e in
    leb-true _ _ ((and-eq-true_iff (leb (length f) 20) (no_leading_zero f && all_digits f)).0 a.1).0

pub record DigitAt (x : ℕ) : Type 0 where
  pub low : 48 ≤ x
  pub high : x ≤ 57

digit_true : (x : ℕ) → is_digit x ≡ true → DigitAt x
digit_true x e =
    let a = (and-eq-true_iff (leb 48 x) (leb x 57)).0 e in
    record { low = leb-true _ _ a.0; high = leb-true _ _ a.1 }

pub digit_at : (f : List ℕ) (i : ℕ) → i < length f → all_digits f ≡ true → DigitAt (get_or f i 0)
digit_at [] i h e = absurd (omega arith)
digit_at (c ∷ f) zero h e = digit_true c ((and-eq-true_iff (is_digit c) (all_digits f)).0 e).0
digit_at (c ∷ f) (suc i) h e = digit_at f i (le_of_suc-le-suc h) ((and-eq-true_iff (is_digit c) (all_digits f)).0 e).1

pub digits_take : (k : ℕ) (f : List ℕ) → all_digits f ≡ true → all_digits (take k f) ≡ true
digits_take zero f e = refl
digits_take (suc k) [] e = refl
digits_take (suc k) (c ∷ f) e =
    let a = (and-eq-true_iff (is_digit c) (all_digits f)).0 e in
    rw a.0 (digits_take k f a.1)

pub all_list : (f : List ℕ) → list_all is_digit f ≡ all_digits f
all_list [] = refl
all_list (c ∷ f) = ap (λ (t : Bool). is_digit c && t) (all_list f)

module _ (f : List ℕ) (i : ℕ) where
  pub decimal_step : (a : ℕ) → i < length f → decimal_after a (drop i f) ≡ decimal_after (a * 10 + (get_or f i 0 - 48)) (drop (i + 1) f)
  decimal_step a h = rw (add-one, drop-cons f i 0)

  pub decimal_end : (a : ℕ) → length f ≤ i → decimal_after a (drop i f) ≡ a
  decimal_end a h = rw drop_of_length-le

-- digits in two parts: the second is read after what the first writes
pub decimal_parts : (k a : ℕ) (f : List ℕ) → decimal_after a f ≡ decimal_after (decimal_after a (take k f)) (drop k f)
decimal_parts zero a f = refl
decimal_parts (suc k) a [] = refl
decimal_parts (suc k) a (c ∷ f) = decimal_parts k (a * 10 + (c - 48)) f

-- what k + 1 digits write
pub decimal_last : (k : ℕ) (f : List ℕ) → length f ≡ k + 1 → decimal_after 0 f ≡ decimal_after 0 (take k f) * 10 + (get_or f k 0 - 48)
decimal_last k f e =
    let h : k < length f = omega arith in
    rw (decimal_parts k 0 f) (decimal_step f k (decimal_after 0 (take k f)) h ∙ decimal_end f (k + 1) _ (omega arith))

-- v of i digits with the digit d behind it: a number of one digit more, and up to 19 digits a word
-- holds it
pub record TenTimes (i v d : ℕ) : Type 0 where
  pub more : v * 10 + d < 10 ^ (i + 1)
  pub fits : v * 10 + d < 2 ^ 64

pub ten_times : (i v d : ℕ) → i < 19 → v < 10 ^ i → d ≤ 9 → TenTimes i v d
ten_times i v d h k l =
    let p : 10 ^ (i + 1) ≡ 10 ^ i * 10 = rw add-one (pow-suc 10 i) in
    let small : i ≤ 18 = omega arith in
    let q : 10 ^ i ≤ 10 ^ 18 = pow-le-pow_right (omega arith) small in
    record { more = omega arith; fits = omega arith }

pub zero_one : (f : List ℕ) → length f ≤ 1 → no_leading_zero f ≡ true
zero_one [] h = refl
zero_one (c ∷ []) h = refl
zero_one (c ∷ d ∷ f) h = absurd (omega arith)

pub zero_more : (f : List ℕ) → 1 < length f → no_leading_zero f ≡ not (eqb (get_or f 0 0) 48)
zero_more [] h = absurd (omega arith)
zero_more (c ∷ []) h = absurd (omega arith)
zero_more (c ∷ d ∷ f) h = refl

-- the three cases of a number
module _ (f : List ℕ) where
  pub number_malformed : well_formed f ≡ false → number_of f ≡ Malformed
  unfolding number_of
  number_malformed e = rw e

  pub number_value : (v : ℕ) → well_formed f ≡ true → v ≡ decimal_after 0 f → v < 2 ^ 64 → number_of f ≡ Value v
  unfolding number_of
  number_value v e d h = rw (e, ← d, lt-ltb v (2 ^ 64) h)

  pub number_large : well_formed f ≡ true → 2 ^ 64 ≤ decimal_after 0 f → number_of f ≡ TooLarge
  unfolding number_of
  number_large e h = rw (e, le-ltb (decimal_after 0 f) (2 ^ 64) h)
