-- A line as fields, and the record that the fields say (paper 01, "The plan text"). The byte 9 is a
-- tab, 10 a line feed.
use Rattle.std.specs.Prelude.{ℕ, ◌+◌, Bool, true, false, cond, ◌&&◌, List, [], ◌∷◌, ◌++◌, length, take, drop, ◌==◌, Option, Some, None}
use Rattle.text.specs.Text.{before}
use Rattle.text.specs.Numbers.{number_of}
use Rattle.text.specs.Words.{keyword_of}
use Rattle.text.specs.declared.Number.{Number}
use Rattle.text.specs.declared.Number.TheVariants.{Value, TooLarge, Malformed}
use Rattle.text.specs.declared.Keyword.{Keyword}
use Rattle.text.specs.declared.Mode.{Mode}
use Rattle.text.specs.declared.Record.{Record}
use Rattle.text.specs.declared.Record.TheVariants.{Loop, Start, Begin, Access, End, Unreadable}
use Rattle.text.specs.declared.Line.{Line}

-- c is the byte b
abbrev pub is : ℕ → ℕ → Bool
is b c = c == b

-- the first field: the bytes before the first tab, or all of them
abbrev pub first_field : List ℕ → List ℕ
first_field l = take (before (is 9) l) l

-- c before the first of the pieces
abbrev pub onto : ℕ → List (List ℕ) → List (List ℕ)
onto c [] = (c ∷ []) ∷ []
onto c (f ∷ fs) = (c ∷ f) ∷ fs

-- the pieces that the byte b parts a list into: one more than there are b's
abbrev pub split : ℕ → List ℕ → List (List ℕ)
split b [] = [] ∷ []
split b (c ∷ s) = cond (c == b) ([] ∷ split b s) (onto c (split b s))

-- a number in form
abbrev pub sound : Number → Bool
sound (Value n) = true
sound TooLarge = true
sound Malformed = false

-- two numbers, each in form
abbrev pub pair : Number → Number → Option (Number × Number)
pair x y = cond (sound x && sound y) (Some (x, y)) None

-- a number in form before two such
abbrev pub triple : Number → Option (Number × Number) → Option (Number × Number × Number)
triple x None = None
triple x (Some (y, z)) = cond (sound x) (Some (x, y, z)) None

-- the number of exactly one field
abbrev pub one_of : List (List ℕ) → Number
one_of [] = Malformed
one_of (a ∷ []) = number_of a
one_of (a ∷ b ∷ fs) = Malformed

-- the numbers of exactly two fields
abbrev pub two_of : List (List ℕ) → Option (Number × Number)
two_of [] = None
two_of (a ∷ fs) = pair (number_of a) (one_of fs)

-- the numbers of exactly three fields
abbrev pub three_of : List (List ℕ) → Option (Number × Number × Number)
three_of [] = None
three_of (a ∷ fs) = triple (number_of a) (two_of fs)

-- `loop`: passes, ranks, regions
abbrev pub loop_of : Option (Number × Number × Number) → Record
loop_of (Some (a, b, c)) = Loop a b c
loop_of None = Unreadable

-- `begin`: rank, kernel, constant
abbrev pub begin_of : Option (Number × Number × Number) → Record
begin_of (Some (a, b, c)) = Begin a b c
begin_of None = Unreadable

-- `start`: region, value
abbrev pub start_of : Option (Number × Number) → Record
start_of (Some (a, b)) = Start a b
start_of None = Unreadable

-- `in`, `out`, `inout`: region
abbrev pub access_of : Mode → Number → Record
access_of m n = cond (sound n) (Access m n) Unreadable

-- `end`: no field
abbrev pub end_of : List (List ℕ) → Record
end_of [] = End
end_of (f ∷ fs) = Unreadable

-- the record of a word and the fields behind it
abbrev pub by_word : Keyword → List (List ℕ) → Record
by_word Keyword.Loop fs = loop_of (three_of fs)
by_word Keyword.Start fs = start_of (two_of fs)
by_word Keyword.Begin fs = begin_of (three_of fs)
by_word Keyword.In fs = access_of Mode.In (one_of fs)
by_word Keyword.Out fs = access_of Mode.Out (one_of fs)
by_word Keyword.Inout fs = access_of Mode.Inout (one_of fs)
by_word Keyword.End fs = end_of fs
by_word Keyword.Unknown fs = Unreadable

-- the first field is the word
abbrev pub of_fields : List (List ℕ) → Record
of_fields [] = Unreadable
of_fields (w ∷ fs) = by_word (keyword_of w) fs

-- what a line says: its fields are parted by one tab
abbrev pub record_of : List ℕ → Record
record_of l = of_fields (split 9 l)

-- the first of the lines with its line feed; nothing where none ends it: what follows the last line
-- feed is no line
abbrev pub ended : List (List ℕ) → List ℕ
ended [] = []
ended (l ∷ []) = []
ended (l ∷ m ∷ ls) = l ++ (10 ∷ [])

-- the line that starts at `at`, with its line feed; nothing where no line feed follows, and beyond
-- the end
abbrev pub line_at : List ℕ → ℕ → List ℕ
line_at s at = ended (split 10 (drop at s))

-- a line that says r, where the next one starts at next
abbrev pub saying : Record → ℕ → Line
saying r next = record { says = r; next = next }

-- the first of the lines, which a line feed ends: what follows the last line feed is no line
abbrev pub first_line : ℕ → List (List ℕ) → Option Line
first_line at [] = None
first_line at (l ∷ []) = None
first_line at (l ∷ m ∷ ls) = Some (saying (record_of l) (at + length l + 1))

-- what the line at `at` says, and where the next one starts; beyond the end there is none
abbrev pub record_at : List ℕ → ℕ → Option Line
record_at s at = first_line at (split 10 (drop at s))

-- where the line behind what was found at `at` starts: at itself where no line feed follows
abbrev pub next_of : ℕ → Option Line → ℕ
next_of at (Some l) = l.next
next_of at None = at

-- where the line behind the one at `at` starts
abbrev pub next_at : List ℕ → ℕ → ℕ
next_at s at = next_of at (record_at s at)
