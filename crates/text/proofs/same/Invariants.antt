use Rattle.std.proofs.Common.{◌≡◌, drop}
use Rattle.text.specs.Words.{alike}
use Rattle.text.proofs.same.Given as goal

abbrev pub invariant-loop-i : goal.invariant-loop-i
invariant-loop-i l = alike (drop l.i l.a) (drop l.i l.b) ≡ alike l.a l.b
