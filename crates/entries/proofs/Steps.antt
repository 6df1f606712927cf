-- The step of a line: it is said just where the line is the step's own. With the laws of the
-- functions that read the line's parts.
use Rattle.std.proofs.Common.{◌≡◌, ℕ, ◌<◌, ◌≤◌, false, List, ◌∷◌, ◌++◌, length, get_or, take, drop, sym, refl, ap, ◌∙◌, arith, length-append}
use mathlib.Core.Option.{Option, none, some}
use Rattle.finite.proofs.Tests.{not_both}
use Rattle.text.specs.Words.{alike}
use Rattle.text.specs.Digits.{digits}
use Rattle.text.specs.declared.Number.TheVariants.{Value}
use Rattle.plan.specs.Limits.{max_word}
use Rattle.journal.specs.Lines.{Step, start, finish, step_of}
use Rattle.journal.specs.Written.{line_of}
use Rattle.journal.specs.Laws.{Fits}
use Rattle.journal.proofs.Lines.{step_back, line_back}
use Rattle.entries.specs.Scan.{start_word, finish_word, Begins, Fielded, NoField, Last, NoLast}

module _ (s : List ℕ) where
  said_here : (e : Step) → Fits e → s ≡ line_of e → some e ≡ step_of s
  said_here e h p = sym (ap step_of p ∙ step_back e h)

  none_here : ((e : Step) → Fits e → s ≡ line_of e → ⊥) → none ≡ step_of s
  none_here f = by (step_of s) refl
    where
      by : (o : Option Step) → step_of s ≡ o → none ≡ o
      by none q = refl
      by (some e) q = let b = line_back s e q in absurd (f e b.1 b.0)

  -- behind `start` and a tab
  module _ (b : Begins s 6 start_word) where
    start_back : (e : Step) → Fits e → s ≡ line_of e → (a w : ℕ) × (a ≤ max_word) × (w ≤ max_word) × (drop 6 s ≡ digits (Value a) ++ (9 ∷ digits (Value w)))
    start_back (start a w) (h, k) p = (a, w, h, k, ap (drop 6) p)
    start_back (finish a) h p =
        let z : ◌≡◌ {A = ℕ} 115 102 = ap (λ l. get_or l 0 0) (sym b.parts ∙ p) in
        absurd (omega arith)

    pub start_no_item : NoField s 6 9 → none ≡ step_of s
    start_no_item f = none_here (λ e h p. let (c, w, u, m, q) = start_back e h p in f c (digits (Value w)) u q)

    module _ (a i : ℕ) (x : Fielded s 6 9 a i) where
      pub start_no_word : NoLast s i → none ≡ step_of s
      start_no_word f = none_here (λ e h p. let (c, v, u, m, q) = start_back e h p in f v m (x.only c (digits (Value v)) u q).1)

      pub start_said : (w : ℕ) → Last s i w → some (start a w) ≡ step_of s
      start_said w y =
          said_here (start a w) (x.fits, y.fits) (b.parts ∙ ap (λ t. start_word ++ t) (x.parts ∙ ap (λ t. digits (Value a) ++ (9 ∷ t)) y.parts))

  -- behind `finish` and a tab
  module _ (b : Begins s 7 finish_word) where
    finish_back : (e : Step) → Fits e → s ≡ line_of e → (a : ℕ) × (a ≤ max_word) × (drop 7 s ≡ digits (Value a))
    finish_back (finish a) h p = (a, h, ap (drop 7) p)
    finish_back (start a w) h p =
        let z : ◌≡◌ {A = ℕ} 102 115 = ap (λ l. get_or l 0 0) (sym b.parts ∙ p) in
        absurd (omega arith)

    pub finish_no_item : NoLast s 7 → none ≡ step_of s
    finish_no_item f = none_here (λ e h p. let (c, u, q) = finish_back e h p in f c u q)

    pub finish_said : (a : ℕ) → Last s 7 a → some (finish a) ≡ step_of s
    finish_said a x = said_here (finish a) x.fits (b.parts ∙ ap (λ t. finish_word ++ t) x.parts)

  -- a line is longer than a word
  pub too_short : length s < 7 → none ≡ step_of s
  too_short h = none_here no_line
    where
      no_line : (e : Step) → Fits e → s ≡ line_of e → ⊥
      no_line (start a w) x p = omega (arith, ap length p, length-append (digits (Value a)) (9 ∷ digits (Value w)))
      no_line (finish a) x p = omega (arith, ap length p)

  -- behind no word
  pub wordless : alike (take 6 s) start_word ≡ false → alike (take 7 s) finish_word ≡ false → none ≡ step_of s
  wordless h k = none_here no_line
    where
      no_line : (e : Step) → Fits e → s ≡ line_of e → ⊥
      no_line (start a w) x p = not_both (ap (λ l. alike (take 6 l) start_word) p) h
      no_line (finish a) x p = not_both (ap (λ l. alike (take 7 l) finish_word) p) k
