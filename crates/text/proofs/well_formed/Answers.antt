use Rattle.std.proofs.Common.{refl}
use Rattle.text.specs.Numbers.{well_formed}
use Rattle.text.proofs.well_formed.Goals as goal

pub returns : goal.returns
unfolding well_formed
returns c = rw (c.no_leading_zero.ensures, c.all_digits.ensures) refl
