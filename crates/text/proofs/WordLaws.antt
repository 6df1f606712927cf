-- Laws of `specs/Words.antt`.
use Rattle.std.proofs.Common.{◌≡◌, ℕ, suc, ◌+◌, ◌<◌, ◌≤◌, Bool, true, false, eqb, List, [], ◌∷◌, length, get_or, drop, sym, refl, ap, ◌∙◌, add-one, drop_of_length-le, drop-cons, eq-eqb, ne_eqb, eqb-true}
use mathlib.Core.Bool.{and-false, and-eq-true_iff, false≢true}
use Rattle.std.proofs.Common.{◌&&◌, nat_eq}
use lib.Pointwise.{pointwise}
use Rattle.text.specs.Ascii.{ascii}
use Rattle.text.specs.Words.{alike, keyword_of}
use Rattle.text.specs.declared.Keyword.{Keyword}
use Rattle.text.specs.declared.Keyword.TheVariants.{Loop, Start, Begin, In, Out, Inout, End}

-- the `==` of slices
alike_pointwise : (a b : List ℕ) → pointwise nat_eq a b ≡ alike a b
alike_pointwise [] [] = refl
alike_pointwise [] (y ∷ b) = refl
alike_pointwise (x ∷ a) [] = refl
alike_pointwise (x ∷ a) (y ∷ b) = ap (λ (t : Bool). eqb x y && t) (alike_pointwise a b)

-- what it answers of the bytes w of a word v
pub alike_eq : (a w v : List ℕ) {r t : Bool} → r ≡ pointwise nat_eq a w → w ≡ v → r ≡ t → alike a v ≡ t
alike_eq a w v e p q = ap (alike a) (sym p) ∙ (sym (alike_pointwise a w) ∙ (sym e ∙ q))

module _ (a b : List ℕ) (i : ℕ) where
  pub alike_step : i < length a → i < length b → get_or a i 0 ≡ get_or b i 0 → alike (drop i a) (drop i b) ≡ alike (drop (i + 1) a) (drop (i + 1) b)
  alike_step h k e = rw (add-one, drop-cons a i 0, drop-cons b i 0, eq-eqb _ _ e)

  pub alike_stop : i < length a → i < length b → (get_or a i 0 ≡ get_or b i 0 → ⊥) → alike (drop i a) (drop i b) ≡ false
  alike_stop h k e = rw (drop-cons a i 0, drop-cons b i 0, ne_eqb _ _ e)

  pub alike_end : length a ≤ i → length b ≤ i → alike (drop i a) (drop i b) ≡ true
  alike_end h k = rw (drop_of_length-le a h, drop_of_length-le b k)

pub alike_length : (a b : List ℕ) → (length a ≡ length b → ⊥) → alike a b ≡ false
alike_length [] [] h = absurd (h refl)
alike_length [] (y ∷ b) h = refl
alike_length (x ∷ a) [] h = refl
alike_length (x ∷ a) (y ∷ b) h = rw (alike_length a b (λ e. h (ap suc e)), and-false)

pub alike_same : (a b : List ℕ) → alike a b ≡ true → a ≡ b
alike_same [] [] e = refl
alike_same [] (y ∷ b) e = absurd (false≢true e)
alike_same (x ∷ a) [] e = absurd (false≢true e)
alike_same (x ∷ a) (y ∷ b) e =
    let p = (and-eq-true_iff (eqb x y) (alike a b)).0 e in
    rw (eqb-true x y p.0, alike_same a b p.1)

-- a field that is a word
pub keyword_same : (f w : List ℕ) {k : Keyword} → keyword_of w ≡ k → alike f w ≡ true → k ≡ keyword_of f
keyword_same f w e q = rw (alike_same f w q) (sym e)

pub keyword_loop : keyword_of (ascii "loop") ≡ Loop
unfolding keyword_of
keyword_loop = refl

pub keyword_start : keyword_of (ascii "start") ≡ Start
unfolding keyword_of
keyword_start = refl

pub keyword_begin : keyword_of (ascii "begin") ≡ Begin
unfolding keyword_of
keyword_begin = refl

pub keyword_in : keyword_of (ascii "in") ≡ In
unfolding keyword_of
keyword_in = refl

pub keyword_out : keyword_of (ascii "out") ≡ Out
unfolding keyword_of
keyword_out = refl

pub keyword_inout : keyword_of (ascii "inout") ≡ Inout
unfolding keyword_of
keyword_inout = refl

pub keyword_end : keyword_of (ascii "end") ≡ End
unfolding keyword_of
keyword_end = refl
