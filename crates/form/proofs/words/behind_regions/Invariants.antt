use Rattle.std.proofs.Common.{◌≡◌, eqb}
use Rattle.finite.specs.Below.{all_below}
use Rattle.form.specs.Scan.{behind_ok}
use Rattle.form.proofs.words.behind_regions.Given as goal

abbrev pub invariant-loop-g : goal.invariant-loop-g
invariant-loop-g l = (eqb l.bits 0 ≡ all_below l.g (behind_ok l.plan))
