-- Lines and journals worked out, by computing. 9 is a tab, 10 a line feed, 13 a carriage return.
use Prim.Native.Nat.{ℕ}
use mathlib.Core.Path.{◌≡◌, refl}
use mathlib.Core.List.{List, [], ◌∷◌, ◌++◌}
use mathlib.Core.Option.{none, some}
use Rattle.text.specs.Ascii.{ascii}
use Rattle.text.specs.Numbers.{number_of, well_formed}
use Rattle.text.specs.Digits.{digits}
use Rattle.steps.specs.Calls.{Lent, call}
use Rattle.journal.specs.Lines.{start, finish, step_of}
use Rattle.journal.specs.Checking.{stopped, check_lines, check_from}
use Rattle.journal.specs.Written.{journal_of}

-- a start with its word, and a finish
start_says : step_of (ascii "start" ++ (9 ∷ (ascii "0" ++ (9 ∷ ascii "6")))) ≡ some (start 0 6)
unfolding step_of number_of well_formed
start_says = refl

finish_says : step_of (ascii "finish" ++ (9 ∷ ascii "12")) ≡ some (finish 12)
unfolding step_of number_of well_formed
finish_says = refl

-- the largest word; one more is out of form
largest_says : step_of (ascii "start" ++ (9 ∷ (ascii "7" ++ (9 ∷ ascii "18446744073709551615")))) ≡ some (start 7 18446744073709551615)
unfolding step_of number_of well_formed
largest_says = refl

larger_unreadable : step_of (ascii "start" ++ (9 ∷ (ascii "7" ++ (9 ∷ ascii "18446744073709551616")))) ≡ none
unfolding step_of number_of well_formed
larger_unreadable = refl

-- numbers are formed as in a plan
leading_zero : step_of (ascii "start" ++ (9 ∷ (ascii "00" ++ (9 ∷ ascii "6")))) ≡ none
unfolding step_of number_of well_formed
leading_zero = refl

-- each line has its fields and no other
word_missing : step_of (ascii "start" ++ (9 ∷ ascii "0")) ≡ none
unfolding step_of number_of well_formed
word_missing = refl

word_too_many : step_of (ascii "finish" ++ (9 ∷ (ascii "0" ++ (9 ∷ ascii "6")))) ≡ none
unfolding step_of number_of well_formed
word_too_many = refl

empty_line : step_of [] ≡ none
unfolding step_of
empty_line = refl

returned_line : step_of (ascii "finish" ++ (9 ∷ (ascii "0" ++ (13 ∷ [])))) ≡ none
unfolding step_of number_of well_formed
returned_line = refl

-- a journal of two steps
two_steps : journal_of (start 0 6 ∷ finish 0 ∷ []) ≡ (ascii "start" ++ (9 ∷ (ascii "0" ++ (9 ∷ ascii "6")))) ++ (10 ∷ (ascii "finish" ++ (9 ∷ (ascii "0" ++ (10 ∷ [])))))
unfolding digits
two_steps = refl

-- a line feed alone is an empty line; a last line without one is none
module _ (plan : List ℕ) (s : Lent) where
  feed_alone : check_from (call plan) plan s (10 ∷ []) ≡ stopped s 20 1
  unfolding check_lines step_of
  feed_alone = refl

  no_feed : check_from (call plan) plan s (ascii "finish" ++ (9 ∷ ascii "0")) ≡ stopped s 20 1
  unfolding check_lines
  no_feed = refl
