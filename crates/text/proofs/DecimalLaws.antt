-- A number's decimal digits are read back to it, and no other digits in form are.
use Rattle.std.proofs.Common.{◌≡◌, ℕ, zero, suc, ◌+◌, ◌-◌, ◌*◌, ◌/◌, ◌%◌, ◌<◌, ◌≤◌, Bool, true, false, cond, eqb, ltb, leb, List, [], ◌∷◌, ◌++◌, length, get_or, refl, ap, ◌∙◌, arith, length-append, ltb-false, ltb-true, le-ltb, lt-ltb, ne_eqb, le-leb, leb-true}
use borrow.Author.Tests.{eqb-false, not-true}
use Rattle.text.specs.declared.Number.{Number}
use Rattle.text.specs.declared.Number.TheVariants.{Value}
use Rattle.finite.proofs.Tests.{and_intro, and-true}
use Rattle.text.specs.Numbers.{all_digits, decimal_after, is_digit, no_leading_zero, number_of, well_formed}
use Rattle.text.specs.Records.{sound}
use Rattle.text.proofs.NumberLaws.{zero_more, zero_one}
use Rattle.text.specs.Digits.{decimal, digits}

-- the least number of more than k + 1 digits
unfoldable pub limit : ℕ → ℕ
limit zero = 10
limit (suc k) = 10 * limit k

pub decimal_snoc : (a : ℕ) (s : List ℕ) (c : ℕ) → decimal_after a (s ++ (c ∷ [])) ≡ decimal_after a s * 10 + (c - 48)
decimal_snoc a [] c = refl
decimal_snoc a (d ∷ s) c = decimal_snoc (a * 10 + (d - 48)) s c

digit_is : (d : ℕ) → d < 10 → is_digit (48 + d) ≡ true
digit_is d h = and_intro (leb 48 (48 + d)) (leb (48 + d) 57) (le-leb 48 (48 + d) (omega arith)) (le-leb (48 + d) 57 (omega arith))

pub digits_snoc : (s : List ℕ) (c : ℕ) → all_digits s ≡ true → is_digit c ≡ true → all_digits (s ++ (c ∷ [])) ≡ true
digits_snoc [] c h k = rw k
digits_snoc (d ∷ s) c h k = let a = and-true (is_digit d) (all_digits s) h in and_intro (is_digit d) _ a.0 (digits_snoc s c a.1 k)

head_snoc : (s : List ℕ) (c : ℕ) → 1 ≤ length s → get_or (s ++ (c ∷ [])) 0 0 ≡ get_or s 0 0
head_snoc [] c h = absurd (omega arith)
head_snoc (d ∷ s) c h = refl

-- what holds of n's digits s, k + 1 of them at most
pub record Writes (k n : ℕ) (s : List ℕ) : Type 0 where
  pub value : decimal_after 0 s ≡ n
  pub all : all_digits s ≡ true
  pub some : 1 ≤ length s
  pub most : length s ≤ suc k
  pub single : n < 10 → length s ≤ 1
  pub lead : 1 ≤ n → eqb (get_or s 0 0) 48 ≡ false

one_digit : (k n : ℕ) → n < 10 → Writes k n ((48 + n) ∷ [])
one_digit k n h =
    record {
      value = omega arith;
      all = rw (digit_is n h);
      some = omega arith;
      most = omega arith;
      single = λ l. omega arith;
      lead = λ l. ne_eqb (48 + n) 48 (λ e. omega arith);
    }

more_digits : (k n : ℕ) (s : List ℕ) → 10 ≤ n → Writes k (n / 10) s → Writes (suc k) n (s ++ ((48 + n % 10) ∷ []))
more_digits k n s h w =
    record {
      value = decimal_snoc 0 s (48 + n % 10) ∙ rw w.value (omega arith);
      all = digits_snoc s (48 + n % 10) w.all (digit_is (n % 10) (omega arith));
      some = omega (arith, length-append s ((48 + n % 10) ∷ []));
      most = omega (arith, length-append s ((48 + n % 10) ∷ []), w.most);
      single = λ l. absurd (omega arith);
      lead = λ l. rw (head_snoc s (48 + n % 10) w.some) (w.lead (omega arith));
    }

writes : (k n : ℕ) → n < limit k → Writes k n (decimal k n)
unfolding limit
writes zero n h = one_digit zero n h
writes (suc k) n h = go (ltb n 10) refl (writes k (n / 10))
  where
    go : (t : Bool) → ltb n 10 ≡ t → (n / 10 < limit k → Writes k (n / 10) (decimal k (n / 10))) → Writes (suc k) n (decimal (suc k) n)
    go true e ih = rw e (one_digit (suc k) n (ltb-true _ _ e))
    go false e ih = rw e (more_digits k n (decimal k (n / 10)) (ltb-false _ _ e) (ih (omega arith)))

leads : (k n : ℕ) (s : List ℕ) → Writes k n s → no_leading_zero s ≡ true
leads k n s w = go (ltb n 10) refl
  where
    long : (t : Bool) → ltb 1 (length s) ≡ t → 10 ≤ n → no_leading_zero s ≡ true
    long true e h = zero_more s (ltb-true _ _ e) ∙ rw (w.lead (omega arith))
    long false e h = zero_one s (ltb-false _ _ e)

    go : (t : Bool) → ltb n 10 ≡ t → no_leading_zero s ≡ true
    go true e = zero_one s (w.single (ltb-true _ _ e))
    go false e = long (ltb 1 (length s)) refl (ltb-false _ _ e)

reads_back : (n : ℕ) (s : List ℕ) → Writes 19 n s → n ≤ 18446744073709551615 → number_of s ≡ Value n
unfolding number_of well_formed
reads_back n s w h =
    let f : well_formed s ≡ true = rw (le-leb 1 (length s) w.some, le-leb (length s) 20 w.most, leads 19 n s w, w.all) in
    rw (le-leb 1 (length s) w.some, le-leb (length s) 20 w.most, leads 19 n s w, w.all, w.value, lt-ltb n 18446744073709551616 (omega arith))

-- what reading a line asks of the digits of x
pub record Digits (x : Number) : Type 0 where
  pub back : number_of (digits x) ≡ x
  pub sounds : sound x ≡ true
  pub all : all_digits (digits x) ≡ true

pub below : (n : ℕ) → n ≤ 18446744073709551615 → n < limit 19
unfolding limit
below n k = omega arith

pub digits_of : (n : ℕ) → n ≤ 18446744073709551615 → Digits (Value n)
unfolding digits
digits_of n h =
    let w = writes 19 n (below n h) in
    record { back = reads_back n (decimal 19 n) w h; sounds = refl; all = w.all }

decimal_most : (j k n : ℕ) → n < limit j → length (decimal k n) ≤ suc j
unfolding limit
decimal_most j zero n h = omega arith
decimal_most zero (suc k) n h = rw (lt-ltb n 10 h) (omega arith)
decimal_most (suc j) (suc k) n h = go (ltb n 10) (decimal_most j k (n / 10) (omega arith))
  where
    go : (t : Bool) → length (decimal k (n / 10)) ≤ suc j → length (cond t ((48 + n) ∷ []) (decimal k (n / 10) ++ ((48 + n % 10) ∷ []))) ≤ suc (suc j)
    go true ih = omega arith
    go false ih = omega (arith, length-append (decimal k (n / 10)) ((48 + n % 10) ∷ []))

pub digits_most : (j n : ℕ) → n < limit j → length (digits (Value n)) ≤ suc j
unfolding digits
digits_most j n h = decimal_most j 19 n h

-- back from the digits

-- a list by its last element
last_view : (f : List ℕ) → 1 ≤ length f → (s : List ℕ) × (c : ℕ) × (f ≡ s ++ (c ∷ []))
last_view [] h = absurd (omega arith)
last_view (d ∷ []) h = ([], d, refl)
last_view (d ∷ e ∷ f) h = let v = last_view (e ∷ f) (omega arith) in (d ∷ v.0, v.1, ap (λ r. d ∷ r) v.2)

digits_parts : (s : List ℕ) (c : ℕ) → all_digits (s ++ (c ∷ [])) ≡ true → (all_digits s ≡ true) × (is_digit c ≡ true)
digits_parts [] c h = (refl, (and-true (is_digit c) true h).0)
digits_parts (d ∷ s) c h =
    let a = and-true (is_digit d) (all_digits (s ++ (c ∷ []))) h in
    let i = digits_parts s c a.1 in
    (and_intro (is_digit d) (all_digits s) a.0 i.0, i.1)

after_le : (a : ℕ) (s : List ℕ) → a ≤ decimal_after a s
after_le a [] = omega arith
after_le a (c ∷ s) = omega (arith, after_le (a * 10 + (c - 48)) s)

digit_range : (c : ℕ) → is_digit c ≡ true → (48 ≤ c) × (c ≤ 57)
digit_range c h = let a = and-true (leb 48 c) (leb c 57) h in (leb-true 48 c a.0, leb-true c 57 a.1)

-- several digits, of which the first is no 0, say a number from 1 on without the last
leading : (s : List ℕ) (c : ℕ) → 1 ≤ length s → all_digits s ≡ true → no_leading_zero (s ++ (c ∷ [])) ≡ true → 1 ≤ decimal_after 0 s
leading [] c h a z = absurd (omega arith)
leading (d ∷ s) c h a z =
    let r = digit_range d (and-true (is_digit d) (all_digits s) a).0 in
    let n = first d s c z in
    omega (arith, after_le (0 * 10 + (d - 48)) s)
  where
    first : (d : ℕ) (s : List ℕ) (c : ℕ) → no_leading_zero (d ∷ (s ++ (c ∷ []))) ≡ true → d ≡ 48 → ⊥
    first d [] c z = eqb-false d 48 (not-true (eqb d 48) z)
    first d (e ∷ s) c z = eqb-false d 48 (not-true (eqb d 48) z)

lead_init : (s : List ℕ) (c : ℕ) → no_leading_zero (s ++ (c ∷ [])) ≡ true → no_leading_zero s ≡ true
lead_init [] c z = refl
lead_init (d ∷ []) c z = refl
lead_init (d ∷ e ∷ s) c z = z

one_back : (k c : ℕ) → is_digit c ≡ true → decimal k (0 * 10 + (c - 48)) ≡ c ∷ []
one_back zero c d = let r = digit_range c d in let e : 48 + (0 * 10 + (c - 48)) ≡ c = omega arith in ap (λ (x : ℕ). x ∷ []) e
one_back (suc k) c d =
    let r = digit_range c d in
    let e : 48 + (0 * 10 + (c - 48)) ≡ c = omega arith in
    rw (lt-ltb (0 * 10 + (c - 48)) 10 (omega arith)) (ap (λ (x : ℕ). x ∷ []) e)

more_back : (k n c : ℕ) (s : List ℕ) → is_digit c ≡ true → 1 ≤ n → decimal k n ≡ s → decimal (suc k) (n * 10 + (c - 48)) ≡ s ++ (c ∷ [])
more_back k n c s d l i =
    let r = digit_range c d in
    let q : (n * 10 + (c - 48)) / 10 ≡ n = omega arith in
    let u : 48 + (n * 10 + (c - 48)) % 10 ≡ c = omega arith in
    rw (le-ltb (n * 10 + (c - 48)) 10 (omega arith), q, i) (ap (λ (x : ℕ). s ++ (x ∷ [])) u)

pub decimal_back : (k : ℕ) (f : List ℕ) → 1 ≤ length f → length f ≤ suc k → all_digits f ≡ true → no_leading_zero f ≡ true → decimal k (decimal_after 0 f) ≡ f
decimal_back zero [] h m a z = absurd (omega arith)
decimal_back zero (c ∷ []) h m a z = one_back zero c (and-true (is_digit c) true a).0
decimal_back zero (c ∷ d ∷ f) h m a z = absurd (omega arith)
decimal_back (suc k) f h m a z = let v = last_view f h in rw v.2 (go v.0 v.1 (decimal_back k v.0) (rw v.2 at m) (rw v.2 at a) (rw v.2 at z))
  where
    go : (s : List ℕ) (c : ℕ) → (1 ≤ length s → length s ≤ suc k → all_digits s ≡ true → no_leading_zero s ≡ true → decimal k (decimal_after 0 s) ≡ s) →
        length (s ++ (c ∷ [])) ≤ suc (suc k) → all_digits (s ++ (c ∷ [])) ≡ true → no_leading_zero (s ++ (c ∷ [])) ≡ true →
        decimal (suc k) (decimal_after 0 (s ++ (c ∷ []))) ≡ s ++ (c ∷ [])
    go [] c ih m a z = one_back (suc k) c (digits_parts [] c a).1
    go (d ∷ s) c ih m a z =
        let p = digits_parts (d ∷ s) c a in
        let l = leading (d ∷ s) c (omega arith) p.0 z in
        let i = ih (omega arith) (omega (arith, length-append s (c ∷ []))) p.0 (lead_init (d ∷ s) c z) in
        ap (decimal (suc k)) (decimal_snoc 0 (d ∷ s) c) ∙ more_back k (decimal_after 0 (d ∷ s)) c (d ∷ s) p.1 l i
