-- The numbers of the refusals (paper 01, "Refusals").
use Rattle.std.specs.Prelude.{ℕ, Result, Ok, Err}
use Rattle.plan.specs.declared.refusal.Refusal.{Refusal}
use Rattle.plan.specs.declared.refusal.Refusal.TheVariants.{TooShort, OutOfForm, Unknown, NoPassLeft, Running, Waiting, NotRunning, Incomplete, NoRoom, NoStep, NotHeld}

-- the number of a refusal, as a call answers it
abbrev pub number_of : Refusal → ℕ
number_of TooShort = 11
number_of OutOfForm = 12
number_of Unknown = 13
number_of NoPassLeft = 14
number_of Running = 15
number_of Waiting = 16
number_of NotRunning = 17
number_of Incomplete = 18
number_of NoRoom = 19
number_of NoStep = 20
number_of NotHeld = 21

-- the number of what a test answers: 0 where nothing refuses
abbrev pub refusal_number : {A : Type 0} → Result A Refusal → ℕ
refusal_number (Ok x) = 0
refusal_number (Err r) = number_of r
