-- The journal of a list of steps, and of a list of calls with the words that they answer.
use Rattle.std.specs.Prelude.{ℕ, List, [], ◌∷◌, ◌++◌}
use Rattle.text.specs.Ascii.{ascii}
use Rattle.text.specs.Digits.{digits}
use Rattle.text.specs.declared.Number.TheVariants.{Value}
use Rattle.steps.specs.Calls.{Call, start as start_call, finish as finish_call, result, Lent, lent_by, call}
use Rattle.journal.specs.Lines.{Step, start, finish}

-- the line of a step, without its line feed
abbrev pub line_of : Step → List ℕ
line_of (start a w) = ascii "start" ++ (9 ∷ (digits (Value a) ++ (9 ∷ digits (Value w))))
line_of (finish a) = ascii "finish" ++ (9 ∷ digits (Value a))

-- the lines of steps, each ended by a line feed
abbrev pub journal_of : List Step → List ℕ
journal_of [] = []
journal_of (e ∷ l) = line_of e ++ (10 ∷ journal_of l)

-- calls as steps of a journal: each start with the word that it is answered. A result is no step
unfoldable pub told_of : List ℕ → Lent → List Call → List Step
told_of plan s [] = []
told_of plan s (start_call a ∷ l) =
    let r = call plan s (start_call a) in start a r.word ∷ told_of plan (lent_by r) l
told_of plan s (finish_call a ∷ l) = finish a ∷ told_of plan (lent_by (call plan s (finish_call a))) l
told_of plan s (result g ∷ l) = told_of plan (lent_by (call plan s (result g))) l
