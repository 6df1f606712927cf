-- What reading a lent text into a lent plan answers and leaves (paper 01, "Refusals that come from
-- the input", and 11 of "Refusals that come from the state").
use Rattle.std.specs.Prelude.{ℕ, ◌≤◌, ◌<◌, ◌≡◌, List, ◌++◌, length, drop, replicate}
use Rattle.plan.specs.Layout.{plan_words}
use Rattle.reading.specs.Reading.{Reading, accepted, refused, read_of}
use Rattle.reader.specs.declared.Answer.{Answer}

-- refusal 0 is none
abbrev pub answer_of : Reading → Answer
answer_of (accepted w) = record { refusal = 0; line = 0 }
answer_of (refused n line) = record { refusal = n; line = line }

-- the plan slice: the plan's words or zeros, and what lies behind them as it was
abbrev pub left_in : List ℕ → Reading → List ℕ
left_in plan (accepted w) = w ++ drop plan_words plan
left_in plan (refused n line) = replicate plan_words 0 ++ drop plan_words plan

pub record Reads (text plan : List ℕ) (r : Answer) (left : List ℕ) : Type 0 where
  pub short : length plan < plan_words → (r ≡ record { refusal = 11; line = 0 }) × (left ≡ plan)
  pub answer : plan_words ≤ length plan → r ≡ answer_of (read_of text)
  pub leaves : plan_words ≤ length plan → left ≡ left_in plan (read_of text)
