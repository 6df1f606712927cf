-- Fields and lines put together and taken apart: pieces that lack the byte between them are the
-- pieces of the whole, and a field that says a number has the number's digits.
use Rattle.std.proofs.Common.{◌≡◌, ℕ, ◌^◌, ◌<◌, ◌≤◌, Bool, true, false, cond, not, ◌&&◌, eqb, ltb, leb, ◌⊎◌, List, [], ◌∷◌, ◌++◌, length, sym, refl, ap, ◌∙◌, ap₂, inl, inr, ⊎_elim, arith, ltb-true, eq-eqb, ne_eqb, eqb-true, leb-true}
use borrow.Author.Tests.{not-true}
use Rattle.finite.proofs.Tests.{and_intro, and-true}
use Rattle.text.specs.declared.Number.{Number}
use Rattle.text.specs.declared.Number.TheVariants.{Value, TooLarge, Malformed}
use Rattle.std.specs.Prelude.{Some, None}
use Rattle.text.specs.Numbers.{all_digits, decimal_after, is_digit, no_leading_zero, number_of, well_formed}
use Rattle.text.specs.Digits.{decimal, digits}
use Rattle.text.specs.Records.{one_of, onto, pair, sound, split, three_of, two_of}
use Rattle.text.proofs.SplitLaws.{split_cons}
use Rattle.text.proofs.DecimalLaws.{Digits, decimal_back}

-- no byte of it is b
abbrev pub lacks : ℕ → List ℕ → Bool
lacks b [] = true
lacks b (c ∷ s) = not (eqb c b) && lacks b s

pub lacks_append : (b : ℕ) (s t : List ℕ) → lacks b s ≡ true → lacks b t ≡ true → lacks b (s ++ t) ≡ true
lacks_append b [] t h k = k
lacks_append b (c ∷ s) t h k = let a = and-true (not (eqb c b)) (lacks b s) h in and_intro (not (eqb c b)) _ a.0 (lacks_append b s t a.1 k)

digits_lack : (b : ℕ) (s : List ℕ) → b < 48 → all_digits s ≡ true → lacks b s ≡ true
digits_lack b [] l h = refl
digits_lack b (c ∷ s) l h =
    let a = and-true (is_digit c) (all_digits s) h in
    let d : 48 ≤ c = leb-true 48 c (and-true (leb 48 c) (leb c 57) a.0).0 in
    rw (ne_eqb c b (λ e. omega arith)) (digits_lack b s l a.1)

pub split_at : (b : ℕ) (s r : List ℕ) → lacks b s ≡ true → split b (s ++ (b ∷ r)) ≡ s ∷ split b r
split_at b [] r h = rw (eq-eqb b b refl)
split_at b (c ∷ s) r h =
    let a = and-true (not (eqb c b)) (lacks b s) h in
    rw (not-true (eqb c b) a.0, split_at b s r a.1)

pub split_whole : (b : ℕ) (s : List ℕ) → lacks b s ≡ true → split b s ≡ s ∷ []
split_whole b [] h = refl
split_whole b (c ∷ s) h =
    let a = and-true (not (eqb c b)) (lacks b s) h in
    rw (not-true (eqb c b) a.0, split_whole b s a.1)

-- pieces put together again with the byte b between them
abbrev pub join : ℕ → List (List ℕ) → List ℕ
join b [] = []
join b (f ∷ []) = f
join b (f ∷ g ∷ fs) = f ++ (b ∷ join b (g ∷ fs))

join_onto : (b c : ℕ) (fs : List (List ℕ)) → join b (onto c fs) ≡ c ∷ join b fs
join_onto b c [] = refl
join_onto b c (f ∷ []) = refl
join_onto b c (f ∷ g ∷ fs) = refl

pub join_split : (b : ℕ) (s : List ℕ) → join b (split b s) ≡ s
join_split b [] = refl
join_split b (c ∷ s) = go (eqb c b) refl (join_split b s)
  where
    apart : join b ([] ∷ split b s) ≡ b ∷ join b (split b s)
    apart = let p = split_cons b s in rw p.2

    go : (t : Bool) → eqb c b ≡ t → join b (split b s) ≡ s → join b (cond t ([] ∷ split b s) (onto c (split b s))) ≡ c ∷ s
    go true e h = apart ∙ ap₂ ◌∷◌ (sym (eqb-true c b e)) h
    go false e h = join_onto b c (split b s) ∙ ap (λ r. c ∷ r) h

-- numbers with tabs between them
module _ (b : ℕ) (l : b < 48) where
  pub lack1 : (x : Number) → Digits x → lacks b (digits x) ≡ true
  lack1 x d = digits_lack b (digits x) l d.all

pub split1 : (x : Number) → Digits x → split 9 (digits x) ≡ digits x ∷ []
split1 x d = split_whole 9 (digits x) (lack1 9 (omega arith) x d)

pub split2 : (x y : Number) → Digits x → Digits y → split 9 (digits x ++ (9 ∷ digits y)) ≡ digits x ∷ digits y ∷ []
split2 x y d e = split_at 9 (digits x) (digits y) (lack1 9 (omega arith) x d) ∙ rw (split1 y e)

pub split3 : (x y z : Number) → Digits x → Digits y → Digits z → split 9 (digits x ++ (9 ∷ (digits y ++ (9 ∷ digits z)))) ≡ digits x ∷ digits y ∷ digits z ∷ []
split3 x y z d e f = split_at 9 (digits x) (digits y ++ (9 ∷ digits z)) (lack1 9 (omega arith) x d) ∙ rw (split2 y z e f)

-- a field that says a number is in form, and the number is a word
value_parts : (f : List ℕ) (n : ℕ) → number_of f ≡ Value n → (well_formed f ≡ true) × (decimal_after 0 f ≡ n) × (n ≤ 18446744073709551615)
unfolding number_of
value_parts f n = by (well_formed f) (ltb (decimal_after 0 f) (2 ^ 64)) refl refl
  where
    by : (t u : Bool) → well_formed f ≡ t → ltb (decimal_after 0 f) (2 ^ 64) ≡ u → cond t (cond u (Value (decimal_after 0 f)) TooLarge) Malformed ≡ Value n →
        (well_formed f ≡ true) × (decimal_after 0 f ≡ n) × (n ≤ 18446744073709551615)
    by true true w p e = let d : decimal_after 0 f ≡ n = cc in (w, d, omega (arith, ltb-true (decimal_after 0 f) (2 ^ 64) p))
    by true false w p e = let z : ◌≡◌ {A = ℕ} 0 1 = cc in absurd (omega arith)
    by false u w p e = let z : ◌≡◌ {A = ℕ} 0 1 = cc in absurd (omega arith)

pub value_word : (f : List ℕ) (n : ℕ) → number_of f ≡ Value n → n ≤ 18446744073709551615
value_word f n e = (value_parts f n e).2

-- it has the digits of its number
pub number_back : (f : List ℕ) (n : ℕ) → number_of f ≡ Value n → f ≡ digits (Value n)
unfolding well_formed digits
number_back f n h =
    let p = value_parts f n h in
    let a = and-true (leb 1 (length f)) _ p.0 in
    let b = and-true (leb (length f) 20) _ a.1 in
    let c = and-true (no_leading_zero f) (all_digits f) b.1 in
    let d = decimal_back 19 f (leb-true 1 (length f) a.0) (leb-true (length f) 20 b.0) c.1 c.0 in
    sym d ∙ ap (decimal 19) p.1

-- how many fields there are
pub one_fields : (fs : List (List ℕ)) → (one_of fs ≡ Malformed) ⊎ ((a : List ℕ) × (fs ≡ a ∷ []))
one_fields [] = inl refl
one_fields (a ∷ []) = inr (a, refl)
one_fields (a ∷ b ∷ fs) = inl refl

no_pair : (x : Number) → pair x Malformed ≡ None
no_pair (Value n) = refl
no_pair TooLarge = refl
no_pair Malformed = refl

pub two_fields : (fs : List (List ℕ)) → (two_of fs ≡ None) ⊎ ((a b : List ℕ) × (fs ≡ a ∷ b ∷ []) × (two_of fs ≡ Some (number_of a, number_of b)))
two_fields [] = inl refl
two_fields (a ∷ fs) = ⊎_elim (λ e. inl (rw e (no_pair (number_of a)))) (λ b. rw b.1 (go b.0 (sound (number_of a) && sound (number_of b.0)) refl)) (one_fields fs)
  where
    go : (b : List ℕ) (t : Bool) → (sound (number_of a) && sound (number_of b)) ≡ t →
        (two_of (a ∷ b ∷ []) ≡ None) ⊎ ((x y : List ℕ) × (a ∷ b ∷ [] ≡ x ∷ y ∷ []) × (two_of (a ∷ b ∷ []) ≡ Some (number_of x, number_of y)))
    go b true e = inr (a, b, refl, rw e)
    go b false e = inl (rw e)

pub three_fields : (fs : List (List ℕ)) →
    (three_of fs ≡ None) ⊎ ((a b c : List ℕ) × (fs ≡ a ∷ b ∷ c ∷ []) × (three_of fs ≡ Some (number_of a, number_of b, number_of c)))
three_fields [] = inl refl
three_fields (a ∷ fs) = ⊎_elim (λ e. inl (rw e)) (λ t. rw t.2 (go t.0 t.1 (rw t.2 at t.3) (sound (number_of a)) refl)) (two_fields fs)
  where
    go : (b c : List ℕ) → two_of (b ∷ c ∷ []) ≡ Some (number_of b, number_of c) → (t : Bool) → sound (number_of a) ≡ t →
        (three_of (a ∷ b ∷ c ∷ []) ≡ None) ⊎ ((x y z : List ℕ) × (a ∷ b ∷ c ∷ [] ≡ x ∷ y ∷ z ∷ []) × (three_of (a ∷ b ∷ c ∷ []) ≡ Some (number_of x, number_of y, number_of z)))
    go b c e true s = inr (a, b, c, refl, rw (e, s))
    go b c e false s = inl (rw (e, s))
