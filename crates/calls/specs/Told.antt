-- What a function of the C boundary answers, with the lent state at exit, as the crate steps has
-- it. The contracts equate these.
use Rattle.std.specs.Prelude.{ℕ, List, Result, Ok, Err}
use Rattle.steps.specs.Answers.{Left}
use Rattle.plan.specs.declared.refusal.Refusal.{Refusal}
use Rattle.plan.specs.Refusals.{number_of}
use Rattle.calls.specs.declared.Answer.{Answer}

-- the answer with a word, or with the number of a refusal
abbrev pub answer_of : Result ℕ Refusal → Answer
answer_of (Ok word) = record { refusal = 0; word = word }
answer_of (Err e) = record { refusal = number_of e; word = 0 }

-- a step's or result's
abbrev pub told : Answer → List ℕ → List ℕ → Left
told r counts values = record { refusal = r.refusal; word = r.word; counts = counts; values = values }

-- an opening's, which has no word
abbrev pub told_opening : ℕ → List ℕ → List ℕ → Left
told_opening r counts values = record { refusal = r; word = 0; counts = counts; values = values }
