-- What a function of the C boundary answers, from the number or the refusal that was found.
use Rattle.std.specs.Prelude.{ℕ, Result, Ok, Err}
use Rattle.plan.specs.declared.refusal.Refusal.{Refusal}
use Rattle.plan.specs.Refusals.{number_of}
use Rattle.graph.specs.declared.Number.{Number}

abbrev pub number_told : Result ℕ Refusal → Number
number_told (Ok n) = record { refusal = 0; number = n }
number_told (Err e) = record { refusal = number_of e; number = 0 }
