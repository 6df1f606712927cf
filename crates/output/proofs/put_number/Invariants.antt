use Prim.Native.Nat.{◌+◌}
use mathlib.Core.Path.{◌≡◌}
use lib.ListN.{length}
use Rattle.text.specs.declared.Number.TheVariants.{Value}
use Rattle.text.specs.Digits.{digits}
use Rattle.output.proofs.Numbers.{Left}
use Rattle.output.proofs.put_number.Given as goal

abbrev pub invariant-loop-rest : goal.invariant-loop-rest
invariant-loop-rest l = Left l.n l.at l.initial.out l.i l.rest l.out × (l.end ≡ l.at + length (digits (Value l.n)))

abbrev pub decreases-loop-rest : goal.decreases-loop-rest
decreases-loop-rest l = l.rest
