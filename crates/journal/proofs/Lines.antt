-- The line of a step says it, and is the only line that does.
use Prim.Native.Nat.{ℕ}
use mathlib.Core.Path.{◌≡◌, refl, sym, ◌∙◌, ap, ap₂}
use mathlib.Core.Bool.{Bool, true, false, cond}
use mathlib.Core.Logic.{◌↔◌, ⊎_elim}
use mathlib.Core.List.{List, [], ◌∷◌, ◌++◌}
use mathlib.Core.Option.{none, some, none-ne-some}
use native.Mathlib.Omega.{arith}
use Rattle.text.specs.declared.Number.{Number}
use Rattle.text.specs.declared.Number.TheVariants.{Value, TooLarge, Malformed}
use Rattle.std.specs.Prelude.{Some}
use Rattle.text.specs.Ascii.{ascii}
use Rattle.text.specs.Words.{alike}
use Rattle.text.specs.Numbers.{number_of}
use Rattle.text.specs.Records.{split, one_of, two_of}
use Rattle.text.specs.Digits.{digits}
use Rattle.text.proofs.WordLaws.{alike_same}
use Rattle.text.proofs.DecimalLaws.{digits_of}
use Rattle.text.proofs.Fields.{lacks, lacks_append, lack1, split1, split2, split_at, join, join_split, one_fields, two_fields, value_word, number_back}
use Rattle.journal.specs.Lines.{Step, start, finish, start_from, finish_from, start_line, step_fields, step_of}
use Rattle.journal.specs.Written.{line_of}
use Rattle.journal.specs.Laws.{Fits}

pub step_back : (e : Step) → Fits e → step_of (line_of e) ≡ some e
unfolding step_of
step_back (start a w) (h, k) =
    let d = digits_of a h in
    let e = digits_of w k in
    rw (split2 (Value a) (Value w) d e, d.back, e.back)
step_back (finish a) h =
    let d = digits_of a h in
    rw (split1 (Value a) d, d.back)

pub line_lacks : (e : Step) → Fits e → lacks 10 (line_of e) ≡ true
line_lacks (start a w) (h, k) =
    lacks_append 10 (digits (Value a)) _ (lack1 10 (omega arith) (Value a) (digits_of a h)) (lack1 10 (omega arith) (Value w) (digits_of w k))
line_lacks (finish a) h = lack1 10 (omega arith) (Value a) (digits_of a h)

-- the first piece of a text that a step's line begins
pub line_first : (e : Step) (r : List ℕ) → Fits e → split 10 (line_of e ++ (10 ∷ r)) ≡ line_of e ∷ split 10 r
line_first e r h = split_at 10 (line_of e) r (line_lacks e h)

abbrev fields_of : Step → List (List ℕ)
fields_of (start a w) = ascii "start" ∷ digits (Value a) ∷ digits (Value w) ∷ []
fields_of (finish a) = ascii "finish" ∷ digits (Value a) ∷ []

join_fields : (e : Step) → join 9 (fields_of e) ≡ line_of e
join_fields (start a w) = refl
join_fields (finish a) = refl

start_from_lem : (x y : Number) (e : Step) → start_from x y ≡ some e → (a w : ℕ) × (x ≡ Value a) × (y ≡ Value w) × (e ≡ start a w)
start_from_lem (Value a) (Value w) e h = (a, w, refl, refl, cc)
start_from_lem (Value a) TooLarge e h = absurd (none-ne-some e h)
start_from_lem (Value a) Malformed e h = absurd (none-ne-some e h)
start_from_lem TooLarge y e h = absurd (none-ne-some e h)
start_from_lem Malformed y e h = absurd (none-ne-some e h)

finish_from_lem : (x : Number) (e : Step) → finish_from x ≡ some e → (a : ℕ) × (x ≡ Value a) × (e ≡ finish a)
finish_from_lem (Value a) e h = (a, refl, cc)
finish_from_lem TooLarge e h = absurd (none-ne-some e h)
finish_from_lem Malformed e h = absurd (none-ne-some e h)

abbrev Back : List (List ℕ) → Step → Type 0
Back fs e = (fs ≡ fields_of e) × Fits e

start_back : (fs : List (List ℕ)) (e : Step) → start_line (two_of fs) ≡ some e → Back (ascii "start" ∷ fs) e
start_back fs e h =
    ⊎_elim (λ n. absurd (none-ne-some e (sym (ap start_line n) ∙ h))) (λ s. go s.0 s.1 s.2 s.3) (two_fields fs)
  where
    go : (f g : List ℕ) → fs ≡ f ∷ g ∷ [] → two_of fs ≡ Some (number_of f, number_of g) → Back (ascii "start" ∷ fs) e
    go f g p q =
        let (a, w, x, y, z) = start_from_lem (number_of f) (number_of g) e (sym (ap start_line q) ∙ h) in
        rw z (ap (λ l. ascii "start" ∷ l) (p ∙ ap₂ ◌∷◌ (number_back f a x) (ap₂ ◌∷◌ (number_back g w y) refl)), (value_word f a x, value_word g w y))

finish_back : (fs : List (List ℕ)) (e : Step) → finish_from (one_of fs) ≡ some e → Back (ascii "finish" ∷ fs) e
finish_back fs e h =
    ⊎_elim (λ n. absurd (none-ne-some e (sym (ap finish_from n) ∙ h))) (λ s. go s.0 s.1) (one_fields fs)
  where
    go : (f : List ℕ) → fs ≡ f ∷ [] → Back (ascii "finish" ∷ fs) e
    go f p =
        let (a, x, z) = finish_from_lem (number_of f) e (sym (ap (λ l. finish_from (one_of l)) p) ∙ h) in
        rw z (ap (λ l. ascii "finish" ∷ l) (p ∙ ap₂ ◌∷◌ (number_back f a x) refl), value_word f a x)

fields_back : (fs : List (List ℕ)) (e : Step) → step_fields fs ≡ some e → Back fs e
fields_back [] e h = absurd (none-ne-some e h)
fields_back (w ∷ fs) e h = go (alike w (ascii "start")) (alike w (ascii "finish")) refl refl h
  where
    go : (t u : Bool) → alike w (ascii "start") ≡ t → alike w (ascii "finish") ≡ u → cond t (start_line (two_of fs)) (cond u (finish_from (one_of fs)) none) ≡ some e → Back (w ∷ fs) e
    go true u p q k = rw (alike_same w (ascii "start") p) (start_back fs e k)
    go false true p q k = rw (alike_same w (ascii "finish") q) (finish_back fs e k)
    go false false p q k = absurd (none-ne-some e k)

pub line_back : (l : List ℕ) (e : Step) → step_of l ≡ some e → (l ≡ line_of e) × Fits e
unfolding step_of
line_back l e h = let b = fields_back (split 9 l) e h in (sym (join_split 9 l) ∙ (ap (join 9) b.0 ∙ join_fields e), b.1)

pub line_says : (l : List ℕ) (e : Step) → (step_of l ≡ some e) ↔ ((l ≡ line_of e) × Fits e)
line_says l e = (line_back l e, λ h. ap step_of h.0 ∙ step_back e h.1)
