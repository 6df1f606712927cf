use mathlib.Core.Path.{refl}
use native.Mathlib.Numerals.{add-one}
use Rattle.engine.proofs.starts.hold_word.Goals as goal

pub returns : goal.returns
returns c = (rw add-one, refl)
