use mathlib.Core.Path.{refl}
use Rattle.finite.proofs.Puts.{added_append, added_one}
use Rattle.output.proofs.put_last.Goals as goal

pub returns : goal.returns
returns c = added_append c.put_field-end.ensures (added_one refl)
