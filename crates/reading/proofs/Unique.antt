-- A record whose numbers are words has one line.
use Rattle.text.specs.declared.Number.{Number}
use Rattle.text.specs.declared.Mode.{Mode}
use Rattle.text.specs.declared.Keyword.{Keyword}
use Rattle.std.specs.Prelude.{Option, Some, None}
use Rattle.text.specs.declared.Record.{Record}
use Rattle.text.specs.declared.Record.TheVariants.{Loop, Start, Begin, Access, End, Unreadable}
use mathlib.Core.Path.{refl, sym, ap, ap₂, ◌≡◌, ◌∙◌}
use mathlib.Core.Bool.{Bool, true, false, cond, ◌&&◌}
use mathlib.Core.List.{List, [], ◌∷◌}
use Prim.Native.Nat.{ℕ}
use mathlib.Core.Logic.{⊎_elim, ◌⊎◌, inl, inr}
use Rattle.finite.proofs.Tests.{and-true, not_both}
use Rattle.text.specs.Numbers.{number_of}
use Rattle.text.specs.Records.{access_of, begin_of, by_word, loop_of, of_fields, one_of, record_of, sound, split, start_of, three_of, two_of}
use Rattle.text.specs.Ascii.{ascii}
use Rattle.text.specs.Words.{alike, keyword_of}
use Rattle.text.proofs.WordLaws.{alike_same}
use Rattle.text.proofs.Fields.{join, join_split, number_back, one_fields, two_fields, three_fields}
use Rattle.reading.specs.Reading.{is_word}
use Rattle.text.specs.Digits.{digits}
use Rattle.reading.specs.Written.{line}
use Rattle.reading.proofs.Lines.{plain, word_value}

-- a field that says a word has its digits
field_back : (f : List ℕ) → is_word (number_of f) ≡ true → f ≡ digits (number_of f)
field_back f h = let v = word_value (number_of f) h in number_back f v.0 v.1 ∙ ap digits (sym v.1)

-- the fields of a record's line
abbrev word_of : Keyword → List ℕ
word_of Keyword.Loop = ascii "loop"
word_of Keyword.Start = ascii "start"
word_of Keyword.Begin = ascii "begin"
word_of Keyword.In = ascii "in"
word_of Keyword.Out = ascii "out"
word_of Keyword.Inout = ascii "inout"
word_of Keyword.End = ascii "end"
word_of Keyword.Unknown = []

abbrev fields_of : Record → List (List ℕ)
fields_of (Loop p q n) = word_of Keyword.Loop ∷ digits p ∷ digits q ∷ digits n ∷ []
fields_of (Start g v) = word_of Keyword.Start ∷ digits g ∷ digits v ∷ []
fields_of (Begin q k c) = word_of Keyword.Begin ∷ digits q ∷ digits k ∷ digits c ∷ []
fields_of (Access Mode.In g) = word_of Keyword.In ∷ digits g ∷ []
fields_of (Access Mode.Out g) = word_of Keyword.Out ∷ digits g ∷ []
fields_of (Access Mode.Inout g) = word_of Keyword.Inout ∷ digits g ∷ []
fields_of End = word_of Keyword.End ∷ []
fields_of Unreadable = []

join_fields : (r : Record) → plain r ≡ true → join 9 (fields_of r) ≡ line r
join_fields (Loop p q n) h = refl
join_fields (Start g v) h = refl
join_fields (Begin q k c) h = refl
join_fields (Access Mode.In g) h = refl
join_fields (Access Mode.Out g) h = refl
join_fields (Access Mode.Inout g) h = refl
join_fields End h = refl
join_fields Unreadable h = absurd (not_both h refl)

-- which word it is
choose : (w : List ℕ) (k rest : Keyword) → (rest ≡ Keyword.Unknown) ⊎ (w ≡ word_of rest) →
    (cond (alike w (word_of k)) k rest ≡ Keyword.Unknown) ⊎ (w ≡ word_of (cond (alike w (word_of k)) k rest))
choose w k rest h = go (alike w (word_of k)) refl
  where
    go : (t : Bool) → alike w (word_of k) ≡ t → (cond t k rest ≡ Keyword.Unknown) ⊎ (w ≡ word_of (cond t k rest))
    go true e = inr (alike_same w (word_of k) e)
    go false e = h

known : (w : List ℕ) → (keyword_of w ≡ Keyword.Unknown) ⊎ (w ≡ word_of (keyword_of w))
unfolding keyword_of
known w =
    choose w Keyword.Loop _
    (choose w Keyword.Start _
    (choose w Keyword.Begin _
    (choose w Keyword.In _
    (choose w Keyword.Out _
    (choose w Keyword.Inout _
    (choose w Keyword.End _
    (inl refl)))))))

unreadable : {X : Type 0} (r : Record) → r ≡ Unreadable → plain r ≡ true → X
unreadable r e h = absurd (not_both (rw e at h) refl)

three_back : (C : Number → Number → Number → Record) (k : Keyword) (of : Option (Number × Number × Number) → Record) (fs : List (List ℕ)) →
    ((x y z : Number) → of (Some (x, y, z)) ≡ C x y z) → of None ≡ Unreadable → ((x y z : Number) → plain (C x y z) ≡ (is_word x && (is_word y && is_word z))) →
    ((x y z : Number) → fields_of (C x y z) ≡ word_of k ∷ digits x ∷ digits y ∷ digits z ∷ []) →
    plain (of (three_of fs)) ≡ true → word_of k ∷ fs ≡ fields_of (of (three_of fs))
three_back C k of fs t n p f h =
    ⊎_elim (λ e. unreadable (of (three_of fs)) (ap of e ∙ n) h) (λ s. go s.0 s.1 s.2 s.3 s.4) (three_fields fs)
  where
    go : (a b c : List ℕ) → fs ≡ a ∷ b ∷ c ∷ [] → three_of fs ≡ Some (number_of a, number_of b, number_of c) → word_of k ∷ fs ≡ fields_of (of (three_of fs))
    go a b c e u =
        let r : of (three_of fs) ≡ C (number_of a) (number_of b) (number_of c) = ap of u ∙ t (number_of a) (number_of b) (number_of c) in
        let w : (is_word (number_of a) && (is_word (number_of b) && is_word (number_of c))) ≡ true = sym (p (number_of a) (number_of b) (number_of c)) ∙ (rw r at h) in
        let x = and-true (is_word (number_of a)) _ w in
        let y = and-true (is_word (number_of b)) (is_word (number_of c)) x.1 in
        ap (λ l. word_of k ∷ l) (e ∙ ap₂ ◌∷◌ (field_back a x.0) (ap₂ ◌∷◌ (field_back b y.0) (ap₂ ◌∷◌ (field_back c y.1) refl)))
        ∙ sym (ap fields_of r ∙ f (number_of a) (number_of b) (number_of c))

start_back : (fs : List (List ℕ)) → plain (start_of (two_of fs)) ≡ true → word_of Keyword.Start ∷ fs ≡ fields_of (start_of (two_of fs))
start_back fs h = ⊎_elim (λ e. unreadable (start_of (two_of fs)) (ap start_of e) h) (λ s. go s.0 s.1 s.2 s.3) (two_fields fs)
  where
    go : (a b : List ℕ) → fs ≡ a ∷ b ∷ [] → two_of fs ≡ Some (number_of a, number_of b) → word_of Keyword.Start ∷ fs ≡ fields_of (start_of (two_of fs))
    go a b e u =
        let r : start_of (two_of fs) ≡ Start (number_of a) (number_of b) = ap start_of u in
        let w : (is_word (number_of a) && is_word (number_of b)) ≡ true = rw r at h in
        let x = and-true (is_word (number_of a)) (is_word (number_of b)) w in
        ap (λ l. word_of Keyword.Start ∷ l) (e ∙ ap₂ ◌∷◌ (field_back a x.0) (ap₂ ◌∷◌ (field_back b x.1) refl))
        ∙ sym (ap fields_of r)

access_back : (m : Mode) (k : Keyword) (fs : List (List ℕ)) → ((x : Number) → fields_of (Access m x) ≡ word_of k ∷ digits x ∷ []) →
    plain (access_of m (one_of fs)) ≡ true → word_of k ∷ fs ≡ fields_of (access_of m (one_of fs))
access_back m k fs f h = ⊎_elim (λ e. unreadable (access_of m (one_of fs)) (ap (access_of m) e) h) (λ s. go s.0 s.1 (sound (number_of s.0)) refl) (one_fields fs)
  where
    go : (a : List ℕ) → fs ≡ a ∷ [] → (t : Bool) → sound (number_of a) ≡ t → word_of k ∷ fs ≡ fields_of (access_of m (one_of fs))
    go a e false s = unreadable (access_of m (one_of fs)) (rw (e, s)) h
    go a e true s =
        let r : access_of m (one_of fs) ≡ Access m (number_of a) = rw (e, s) in
        ap (λ l. word_of k ∷ l) (e ∙ ap₂ ◌∷◌ (field_back a (rw r at h)) refl) ∙ sym (ap fields_of r ∙ f (number_of a))

word_back : (k : Keyword) (fs : List (List ℕ)) → plain (by_word k fs) ≡ true → word_of k ∷ fs ≡ fields_of (by_word k fs)
word_back Keyword.Loop fs h = three_back Loop Keyword.Loop loop_of fs (λ x y z. refl) refl (λ x y z. refl) (λ x y z. refl) h
word_back Keyword.Start fs h = start_back fs h
word_back Keyword.Begin fs h = three_back Begin Keyword.Begin begin_of fs (λ x y z. refl) refl (λ x y z. refl) (λ x y z. refl) h
word_back Keyword.In fs h = access_back Mode.In Keyword.In fs (λ x. refl) h
word_back Keyword.Out fs h = access_back Mode.Out Keyword.Out fs (λ x. refl) h
word_back Keyword.Inout fs h = access_back Mode.Inout Keyword.Inout fs (λ x. refl) h
word_back Keyword.End [] h = refl
word_back Keyword.End (f ∷ fs) h = unreadable Unreadable refl h
word_back Keyword.Unknown fs h = unreadable Unreadable refl h

fields_back : (fs : List (List ℕ)) → plain (of_fields fs) ≡ true → fs ≡ fields_of (of_fields fs)
fields_back [] h = unreadable Unreadable refl h
fields_back (w ∷ fs) h =
    ⊎_elim
    (λ e. unreadable (by_word (keyword_of w) fs) (ap (λ k. by_word k fs) e) h)
    (λ (e : w ≡ word_of (keyword_of w)). ap (λ (x : List ℕ). x ∷ fs) e ∙ word_back (keyword_of w) fs h)
    (known w)

pub line_back : (l : List ℕ) → plain (record_of l) ≡ true → l ≡ line (record_of l)
line_back l h = sym (join_split 9 l) ∙ ap (join 9) (fields_back (split 9 l) h) ∙ join_fields (record_of l) h
