-- The line of a record is read back to it.
use Prim.Native.Nat.{ℕ, ◌≤◌}
use mathlib.Core.Path.{◌≡◌, refl}
use mathlib.Core.Bool.{Bool, true, false, ◌&&◌}
use native.Mathlib.Omega.{arith}
use borrow.Author.Tests.{leb-true}
use lib.Dec.{leb}
use Rattle.text.specs.declared.Number.{Number}
use Rattle.text.specs.declared.Number.TheVariants.{Value, TooLarge, Malformed}
use Rattle.text.specs.declared.Mode.{Mode}
use Rattle.text.specs.declared.Record.{Record}
use Rattle.text.specs.declared.Record.TheVariants.{Loop, Start, Begin, Access, End, Unreadable}
use Rattle.finite.proofs.Tests.{and-true, not_both}
use Rattle.text.specs.Records.{record_of}
use Rattle.text.specs.Words.{keyword_of}
use Rattle.reading.specs.Reading.{is_word}
use Rattle.text.specs.Digits.{digits}
use Rattle.text.proofs.DecimalLaws.{Digits, digits_of}
use Rattle.text.proofs.Fields.{lacks, lacks_append, lack1, split1, split2, split3}
use Rattle.plan.specs.Limits.{max_word}
use Rattle.reading.specs.Written.{line}

-- a number that is a word
pub word_value : (x : Number) → is_word x ≡ true → (n : ℕ) × (x ≡ Value n) × (n ≤ max_word)
word_value (Value n) h = (n, refl, leb-true n max_word (and-true (leb 0 n) (leb n max_word) h).1)
word_value TooLarge h = absurd (not_both h refl)
word_value Malformed h = absurd (not_both h refl)

word_digits : (x : Number) → is_word x ≡ true → Digits x
word_digits x h = let v = word_value x h in rw v.1 (digits_of v.0 v.2)

-- a record that can be written
abbrev pub plain : Record → Bool
plain (Loop p q n) = is_word p && (is_word q && is_word n)
plain (Start g v) = is_word g && is_word v
plain (Begin q k c) = is_word q && (is_word k && is_word c)
plain (Access m g) = is_word g
plain End = true
plain Unreadable = false

pub record_back : (r : Record) → plain r ≡ true → record_of (line r) ≡ r
unfolding keyword_of
record_back (Loop p q n) h =
    let a = and-true (is_word p) _ h in
    let b = and-true (is_word q) (is_word n) a.1 in
    let d = word_digits p a.0 in
    let e = word_digits q b.0 in
    let f = word_digits n b.1 in
    rw (split3 p q n d e f, d.back, e.back, f.back, e.sounds, f.sounds, d.sounds)
record_back (Start g v) h =
    let a = and-true (is_word g) (is_word v) h in
    let d = word_digits g a.0 in
    let e = word_digits v a.1 in
    rw (split2 g v d e, d.back, e.back, d.sounds, e.sounds)
record_back (Begin q k c) h =
    let a = and-true (is_word q) _ h in
    let b = and-true (is_word k) (is_word c) a.1 in
    let d = word_digits q a.0 in
    let e = word_digits k b.0 in
    let f = word_digits c b.1 in
    rw (split3 q k c d e f, d.back, e.back, f.back, e.sounds, f.sounds, d.sounds)
record_back (Access Mode.In g) h = let d = word_digits g h in rw (split1 g d, d.back, d.sounds)
record_back (Access Mode.Out g) h = let d = word_digits g h in rw (split1 g d, d.back, d.sounds)
record_back (Access Mode.Inout g) h = let d = word_digits g h in rw (split1 g d, d.back, d.sounds)
record_back End h = refl
record_back Unreadable h = absurd (not_both h refl)

pub line_lacks : (r : Record) → plain r ≡ true → lacks 10 (line r) ≡ true
line_lacks (Loop p q n) h =
    let a = and-true (is_word p) _ h in
    let b = and-true (is_word q) (is_word n) a.1 in
    lacks_append 10 (digits p) _ (lack1 10 (omega arith) p (word_digits p a.0))
    (lacks_append 10 (digits q) _ (lack1 10 (omega arith) q (word_digits q b.0))
    (lack1 10 (omega arith) n (word_digits n b.1)))
line_lacks (Start g v) h =
    let a = and-true (is_word g) (is_word v) h in
    lacks_append 10 (digits g) _ (lack1 10 (omega arith) g (word_digits g a.0))
    (lack1 10 (omega arith) v (word_digits v a.1))
line_lacks (Begin q k c) h =
    let a = and-true (is_word q) _ h in
    let b = and-true (is_word k) (is_word c) a.1 in
    lacks_append 10 (digits q) _ (lack1 10 (omega arith) q (word_digits q a.0))
    (lacks_append 10 (digits k) _ (lack1 10 (omega arith) k (word_digits k b.0))
    (lack1 10 (omega arith) c (word_digits c b.1)))
line_lacks (Access Mode.In g) h = lack1 10 (omega arith) g (word_digits g h)
line_lacks (Access Mode.Out g) h = lack1 10 (omega arith) g (word_digits g h)
line_lacks (Access Mode.Inout g) h = lack1 10 (omega arith) g (word_digits g h)
line_lacks End h = refl
line_lacks Unreadable h = refl
