use mathlib.Core.Path.{◌≡◌}
use Rattle.masks.proofs.Bits.{NoneIn}
use Rattle.masks.proofs.take_lowest.Given as goal

abbrev pub invariant-loop-k : goal.invariant-loop-k
invariant-loop-k l = NoneIn l.words l.k × (l.words ≡ l.initial.words)
