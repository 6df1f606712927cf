-- The numbers of the refusals: none is 0.
use Rattle.std.proofs.Common.{◌≡◌, arith}
use Rattle.plan.specs.declared.refusal.Refusal.{Refusal}
use Rattle.plan.specs.declared.refusal.Refusal.TheVariants.{TooShort, OutOfForm, Unknown, NoPassLeft, Running, Waiting, NotRunning, Incomplete, NoRoom, NoStep, NotHeld}
use Rattle.plan.specs.Refusals.{number_of}

pub number_above : (r : Refusal) → number_of r ≡ 0 → ⊥
number_above TooShort e = omega arith
number_above OutOfForm e = omega arith
number_above Unknown e = omega arith
number_above NoPassLeft e = omega arith
number_above Running e = omega arith
number_above Waiting e = omega arith
number_above NotRunning e = omega arith
number_above Incomplete e = omega arith
number_above NoRoom e = omega arith
number_above NoStep e = omega arith
number_above NotHeld e = omega arith
