use Rattle.std.proofs.Common.{◌≡◌, ◌+◌, drop}
use Rattle.text.specs.Text.{before}
use Rattle.text.specs.Records.{is}
use Rattle.text.proofs.find_from.Given as goal

abbrev pub invariant-loop-i : goal.invariant-loop-i
invariant-loop-i l = l.i + before (is l.b) (drop l.i l.s) ≡ l.at + before (is l.b) (drop l.at l.s)
