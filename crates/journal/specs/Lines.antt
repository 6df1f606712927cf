-- The lines of a journal (paper 02, card 4): `start`, item, word or `finish`, item, tab-parted and
-- formed as in a plan, with numbers up to 2^64 - 1. A number above is out of form.
use Rattle.std.specs.Prelude.{ℕ, cond, List, [], ◌∷◌, Option as Maybe, Some, None}
use Rattle.std.proofs.Math.Option.{Option, none, some}
use Rattle.text.specs.Ascii.{ascii}
use Rattle.text.specs.Words.{alike}
use Rattle.text.specs.Records.{split, one_of, two_of}
use Rattle.text.specs.declared.Number.{Number}
use Rattle.text.specs.declared.Number.TheVariants.{Value, TooLarge, Malformed}

-- a step of a journal: the start of an item with the word that is stated for it, or the finish of
-- an item
pub data Step : Type 0 where
  start : ℕ → ℕ → Step
  finish : ℕ → Step

-- a start of these numbers, and a finish; none where one of them is no number or too large
abbrev pub start_from : Number → Number → Option Step
start_from (Value a) (Value w) = some (start a w)
start_from (Value a) TooLarge = none
start_from (Value a) Malformed = none
start_from TooLarge y = none
start_from Malformed y = none

abbrev pub finish_from : Number → Option Step
finish_from (Value a) = some (finish a)
finish_from TooLarge = none
finish_from Malformed = none

-- a start of exactly two fields
abbrev pub start_line : Maybe (Number × Number) → Option Step
start_line (Some (x, y)) = start_from x y
start_line None = none

-- the first field is the word
abbrev pub step_fields : List (List ℕ) → Option Step
step_fields [] = none
step_fields (w ∷ fs) =
    cond (alike w (ascii "start")) (start_line (two_of fs))
    (cond (alike w (ascii "finish")) (finish_from (one_of fs))
    none)

-- the step that a line says, handed in without its line feed; none where it is out of form
unfoldable pub step_of : List ℕ → Option Step
step_of l = step_fields (split 9 l)
