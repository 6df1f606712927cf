-- Laws of the number at an offset, one for each answer of the functions that read it.
use Rattle.std.proofs.Common.{◌≡◌, ℕ, ◌+◌, ◌-◌, ◌*◌, ◌/◌, ◌^◌, ◌<◌, ◌≤◌, true, false, eqb, List, [], ◌∷◌, ◌++◌, length, get_or, drop, sym, refl, ap, ◌∙◌, append-nil, arith, length-append, length-drop, eq-eqb, le-leb}
use mathlib.Core.Bool.{and-false}
use Rattle.finite.proofs.Tests.{not_both}
use Rattle.text.specs.Numbers.{is_digit, all_digits, no_leading_zero, well_formed, number_of}
use Rattle.text.specs.Digits.{digits}
use Rattle.text.specs.declared.Number.TheVariants.{Value, TooLarge, Malformed}
use Rattle.text.proofs.NumberLaws.{zero_one, number_malformed, number_value, number_large}
use Rattle.text.proofs.DecimalLaws.{digits_of, digits_most, below}
use Rattle.text.proofs.Fields.{number_back}
use Rattle.plan.specs.Limits.{max_word}
use Rattle.entries.specs.Scan.{head_is, head_digit, Read, Run, Long, Numbered, NoNumber, Fielded, NoLast}
use Rattle.entries.proofs.Heads.{is_true, digit_true}
use Rattle.entries.proofs.Runs.{read_more, read_word, read_lead, digit_of, run_begins, run_same}

-- digits in form, and not
formed : (f : List ℕ) → 1 ≤ length f → length f ≤ 20 → no_leading_zero f ≡ true → all_digits f ≡ true → well_formed f ≡ true
unfolding well_formed
formed f h k z a = rw (le-leb 1 (length f) h, le-leb (length f) 20 k, z, a)

zero_led : (f : List ℕ) → no_leading_zero f ≡ false → well_formed f ≡ false
unfolding well_formed
zero_led f z = rw (z, and-false, and-false)

empty : well_formed [] ≡ false
unfolding well_formed
empty = refl

no_value : {n : ℕ} → Malformed ≡ Value n → ⊥
no_value e = let z : ◌≡◌ {A = ℕ} 0 1 = cc in omega arith

not_large : {n : ℕ} → TooLarge ≡ Value n → ⊥
not_large e = let z : ◌≡◌ {A = ℕ} 0 1 = cc in omega arith

module _ (s : List ℕ) (at : ℕ) where
  abbrev Stands : ℕ → List ℕ → Type 0
  Stands n t = (n ≤ max_word) × (drop at s ≡ digits (Value n) ++ t) × (head_digit t ≡ false)

  -- no number stands there
  pub bad : ((n : ℕ) (t : List ℕ) → Stands n t → ⊥) → NoNumber s at
  bad f n t h e k = f n t (h, e, k)

  pub bad_none : head_digit (drop at s) ≡ false → NoNumber s at
  bad_none k =
      bad (λ n t w.
      let d = digits_of n w.0 in
      let q = run_same [] (digits (Value n)) (drop at s) t w.1 refl d.all k w.2 in
      no_value (sym (number_malformed [] empty) ∙ (ap number_of q.0 ∙ d.back)))

  module _ {v i : ℕ} (r : Read s at v i) where
    -- a number that stands there begins with the digits that are read
    begins : (n : ℕ) (t : List ℕ) → Stands n t → (g : List ℕ) × (digits (Value n) ≡ r.front ++ g) × (drop i s ≡ g ++ t)
    begins n t w = run_begins r.front (digits (Value n)) (drop i s) t (sym r.parts ∙ w.1) r.all w.2

    -- and is they, where no digit follows
    whole : head_digit (drop i s) ≡ false → (n : ℕ) (t : List ℕ) → Stands n t → (r.front ≡ digits (Value n)) × (drop i s ≡ t)
    whole k n t w = run_same r.front (digits (Value n)) (drop i s) t (sym r.parts ∙ w.1) r.all (digits_of n w.0).all k w.2

    pub good : 1 ≤ length r.front → length r.front ≤ 20 → no_leading_zero r.front ≡ true → v ≤ max_word → head_digit (drop i s) ≡ false → Numbered s at v i
    good h l z m k =
        let q : number_of r.front ≡ Value v = number_value r.front v (formed r.front h l z r.all) (sym r.says) (omega arith) in
        let b : r.front ≡ digits (Value v) = number_back r.front v q in
        record {
          fits = m;
          parts = r.parts ∙ ap (λ f. f ++ drop i s) b;
          within = r.within;
          only = λ n t x e y. same n t q (x, e, y);
        }
      where
        same : (n : ℕ) (t : List ℕ) → number_of r.front ≡ Value v → Stands n t → (v ≡ n) × (drop i s ≡ t)
        same n t q w =
            let u = whole k n t w in
            let d : number_of (digits (Value n)) ≡ Value n = (digits_of n w.0).back in
            let p : Value v ≡ Value n = sym q ∙ (ap number_of u.0 ∙ d) in
            (cc, u.1)

    pub bad_lead : 2 ≤ length r.front → eqb (get_or s at 0) 48 ≡ true → NoNumber s at
    bad_lead h z =
        bad (λ n t w.
        let (g, p, q) = begins n t w in
        let y : no_leading_zero (r.front ++ g) ≡ false = longer r.front g h (read_lead s at r h ∙ rw z) in
        no_value (sym (number_malformed (r.front ++ g) (zero_led (r.front ++ g) y)) ∙ (ap number_of (sym p) ∙ (digits_of n w.0).back)))
      where
        longer : (f g : List ℕ) → 2 ≤ length f → no_leading_zero f ≡ false → no_leading_zero (f ++ g) ≡ false
        longer [] g h z = absurd (omega arith)
        longer (c ∷ []) g h z = absurd (omega arith)
        longer (c ∷ d ∷ f) g h z = z

    pub bad_long : length r.front ≡ 20 → head_digit (drop i s) ≡ true → NoNumber s at
    bad_long h k =
        bad (λ n t w.
        let (g, p, q) = begins n t w in
        let m : length g ≤ 0 = omega (arith, digits_most 19 n (below n w.0), ap length p, length-append r.front g) in
        not_both k (ap head_digit (q ∙ none g t m) ∙ w.2))
      where
        none : (g t : List ℕ) → length g ≤ 0 → g ++ t ≡ t
        none [] t h = refl
        none (c ∷ g) t h = absurd (omega arith)

    pub bad_large : length r.front ≡ 20 → no_leading_zero r.front ≡ true → 2 ^ 64 ≤ v → head_digit (drop i s) ≡ false → NoNumber s at
    bad_large h z m k =
        bad (λ n t w.
        let l : number_of r.front ≡ TooLarge = number_large r.front (formed r.front (omega arith) (omega arith) z r.all) (omega (arith, r.says)) in
        not_large (sym l ∙ (ap number_of (whole k n t w).0 ∙ (digits_of n w.0).back)))

-- the answers on a run of at most 19 digits
module _ (s : List ℕ) (at v n : ℕ) (r : Run s at v n) where
  count : length r.read.front ≡ n
  count = omega (arith, r.read.size)

  short_word : v ≤ max_word
  short_word = read_word s at r.read (omega (arith, r.most))

  pub run_none : n ≡ 0 → NoNumber s at
  run_none h =
      let e : at + n ≡ at = omega arith in
      bad_none s at (ap (λ k. head_digit (drop k s)) (sym e) ∙ r.ends (omega arith))

  pub run_one : n ≡ 1 → Numbered s at v (at + n)
  run_one h = good s at r.read (omega (arith, count)) (omega (arith, count)) (zero_one r.read.front (omega (arith, count))) short_word (r.ends (omega arith))

  module _ (h : 2 ≤ n) where
    pub run_zero : get_or s at 0 ≡ 48 → NoNumber s at
    run_zero z = bad_lead s at r.read (omega (arith, count)) (eq-eqb (get_or s at 0) 48 z)

    module _ (z : eqb (get_or s at 0) 48 ≡ false) where
      pub run_short : n < 19 → Numbered s at v (at + n)
      run_short l =
          good s at r.read (omega (arith, count)) (omega (arith, count)) (read_lead s at r.read (omega (arith, count)) ∙ rw z) short_word (r.ends l)

-- the answers behind 19 digits
module _ (s : List ℕ) (at v i : ℕ) (r : Long s at v i) where
  pub long_whole : head_digit (drop i s) ≡ false → Numbered s at v i
  long_whole k =
      let n : length r.read.front ≡ 19 = omega (arith, r.size, r.read.size) in
      good s at r.read (omega arith) (omega arith) (read_lead s at r.read (omega arith) ∙ rw r.lead) (read_word s at r.read (omega (arith, r.size))) k

  -- with a digit behind them
  module _ (k : head_digit (drop i s) ≡ true) where
    abbrev more : Read s at (v * 10 + (get_or s i 0 - 48)) (i + 1)
    more = let d = digit_true s i k in read_more s at r.read d.0 d.1

    twenty : length more.front ≡ 20
    twenty = omega (arith, r.size, more.size)

    lead : no_leading_zero more.front ≡ true
    lead = read_lead s at more (omega (arith, twenty)) ∙ rw r.lead

    pub long_more : head_digit (drop (i + 1) s) ≡ true → NoNumber s at
    long_more l = bad_long s at more twenty l

    module _ (last : ℕ) (e : last ≡ get_or s i 0 - 48) (l : head_digit (drop (i + 1) s) ≡ false) where
      pub long_large : (18446744073709551615 - last) / 10 < v → NoNumber s at
      long_large h =
          let d = digit_of (get_or s i 0) (digit_true s i k).1 in
          bad_large s at more twenty lead (omega arith) l

      pub long_value : v ≤ (18446744073709551615 - last) / 10 → Numbered s at (v * 10 + last) (i + 1)
      long_value h =
          let d = digit_of (get_or s i 0) (digit_true s i k).1 in
          let m : v * 10 + (get_or s i 0 - 48) ≤ max_word = omega arith in
          rw e (good s at more (omega (arith, twenty)) (omega (arith, twenty)) lead m l)

-- a number and the byte behind it
module _ (s : List ℕ) (at b : ℕ) (d : is_digit b ≡ false) where
  module _ (v i : ℕ) (r : Numbered s at v i) where
    pub field_good : head_is b (drop i s) ≡ true → Fielded s at b v (i + 1)
    field_good l =
        let p = is_true s i b l in
        record {
          fits = r.fits;
          parts = r.parts ∙ ap (λ f. digits (Value v) ++ f) p.0;
          within = omega (arith, p.1);
          only = λ n t h e. let o = r.only n (b ∷ t) h e d in (o.0, rest n t p o.1);
        }
      where
        rest : (n : ℕ) (t : List ℕ) → (drop i s ≡ b ∷ drop (i + 1) s) × (i < length s) → drop i s ≡ b ∷ t → drop (i + 1) s ≡ t
        rest n t p q = cc

-- a number and nothing behind it
module _ (s : List ℕ) (at : ℕ) where
  pub last_bad : NoNumber s at → NoLast s at
  last_bad f n h e = f n [] h (e ∙ sym (append-nil (digits (Value n)))) refl

  module _ (v i : ℕ) (r : Numbered s at v i) where
    pub last_other : (i ≡ length s → ⊥) → NoLast s at
    last_other l n h e =
        let o = r.only n [] h (e ∙ sym (append-nil (digits (Value n)))) refl in
        l (omega (arith, r.within, ap length o.1, length-drop i s))
