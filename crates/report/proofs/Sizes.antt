-- How many bytes the lines have.
use Prim.Native.Nat.{ℕ, zero, suc, ◌+◌, ◌/◌, ◌%◌, ◌≤◌, ◌<◌}
use mathlib.Core.Path.{◌≡◌, refl}
use mathlib.Core.Bool.{Bool, true, false}
use mathlib.Core.List.{List, [], ◌∷◌, ◌++◌}
use native.Mathlib.Omega.{arith}
use borrow.Author.Tests.{lt-ltb}
use lib.Dec.{eqb, ltb}
use lib.ListN.{length, length-append}
use Rattle.text.specs.Digits.{decimal}
use Rattle.text.specs.Ascii.{ascii}
use Rattle.lines.specs.Lines.{field, kind_field, item_line, edge_line, steps_line, value_line, refused_line}

-- digits

more_digits : (k m n : ℕ) → length (decimal k (n / 10)) ≤ m → length (decimal (suc k) n) ≤ suc m
more_digits k m n h = go (ltb n 10) refl
  where
    go : (t : Bool) → ltb n 10 ≡ t → length (decimal (suc k) n) ≤ suc m
    go true e = rw e (omega arith)
    go false e = rw e (omega (arith, h, length-append (decimal k (n / 10)) ((48 + n % 10) ∷ [])))

digits_most : (k n : ℕ) → length (decimal k n) ≤ suc k
digits_most zero n = omega arith
digits_most (suc k) n = more_digits k (suc k) n (digits_most k (n / 10))

one_digit : (k n : ℕ) → n < 10 → length (decimal (suc k) n) ≤ 1
one_digit k n h = rw (lt-ltb n 10 h) (omega arith)

two_digits : (k n : ℕ) → n < 100 → length (decimal (suc (suc k)) n) ≤ 2
two_digits k n h = more_digits (suc k) 1 n (one_digit k (n / 10) (omega arith))

three_digits : (k n : ℕ) → n < 1000 → length (decimal (suc (suc (suc k))) n) ≤ 3
three_digits k n h = more_digits (suc (suc k)) 2 n (two_digits k (n / 10) (omega arith))

-- fields

field_most : (n : ℕ) → length (field n) ≤ 21
unfolding field
field_most n = omega (arith, digits_most 19 n)

field_one : (n : ℕ) → n < 10 → length (field n) ≤ 2
unfolding field
field_one n h = omega (arith, one_digit 18 n h)

field_two : (n : ℕ) → n < 100 → length (field n) ≤ 3
unfolding field
field_two n h = omega (arith, two_digits 17 n h)

field_three : (n : ℕ) → n < 1000 → length (field n) ≤ 4
unfolding field
field_three n h = omega (arith, three_digits 16 n h)

kind_most : (kind : ℕ) → length (kind_field kind) ≤ 8
unfolding kind_field
kind_most kind = go (eqb kind 0) refl (eqb kind 1) refl
  where
    go : (x : Bool) → eqb kind 0 ≡ x → (y : Bool) → eqb kind 1 ≡ y → length (kind_field kind) ≤ 8
    go true e y f = rw e (omega arith)
    go false e true f = rw (e, f) (omega arith)
    go false e false f = rw (e, f) (omega arith)

-- lines

two_fields : (word x y : List ℕ) → length (word ++ (x ++ (y ++ (10 ∷ [])))) ≡ length word + (length x + (length y + 1))
two_fields word x y = omega (arith, length-append word (x ++ (y ++ (10 ∷ []))), length-append x (y ++ (10 ∷ [])), length-append y (10 ∷ []))

three_fields : (word x y z : List ℕ) → length (word ++ (x ++ (y ++ (z ++ (10 ∷ []))))) ≡ length word + (length x + (length y + (length z + 1)))
three_fields word x y z = omega (arith, length-append word (x ++ (y ++ (z ++ (10 ∷ [])))), two_fields x y z)

pub item_most : (a kind rank : ℕ) → a < 1000 → rank < 100 → length (item_line a kind rank) ≤ 20
unfolding item_line
item_most a kind rank l m = omega (arith, three_fields (ascii "item") (field a) (kind_field kind) (field rank), field_three a l, kind_most kind, field_two rank m)

pub edge_most : (a b d : ℕ) → a < 1000 → b < 1000 → d < 10 → length (edge_line (a, b, d)) ≤ 15
unfolding edge_line
edge_most a b d l m n = omega (arith, three_fields (ascii "edge") (field a) (field b) (field d), field_three a l, field_three b m, field_one d n)

pub steps_most : (n : ℕ) → length (steps_line n) ≤ 27
unfolding steps_line
steps_most n = omega (arith, length-append (ascii "steps") (field n ++ (10 ∷ [])), length-append (field n) (10 ∷ []), field_most n)

pub value_most : (g v : ℕ) → g < 1000 → length (value_line g v) ≤ 31
unfolding value_line
value_most g v l = omega (arith, two_fields (ascii "value") (field g) (field v), field_three g l, field_most v)

pub refused_most : (n line : ℕ) → length (refused_line n line) ≤ 50
unfolding refused_line
refused_most n line = omega (arith, two_fields (ascii "refused") (field n) (field line), field_most n, field_most line)
