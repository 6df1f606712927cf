-- What the code's private function answers, as a caller gets it. Nothing here need be believed.
use Rattle.std.specs.Prelude.{ℕ, Result, Ok, Err}
use Rattle.plan.specs.Refusals.{number_of}
use Rattle.plan.specs.declared.refusal.Refusal.{Refusal}
use Rattle.graph.specs.declared.Number.{Number}

-- refusal 0 is none
abbrev pub answer_of : Result ℕ Refusal → Number
answer_of (Ok n) = record { refusal = 0; number = n }
answer_of (Err why) = record { refusal = number_of why; number = 0 }
