use mathlib.Core.Path.{refl}
use Rattle.reader.proofs.Ends.{reads_whole}
use Rattle.reader.proofs.read.Goals as goal

pub returns : goal.returns
returns c = reads_whole _ _ _ _ _ c.if-plan-lt-PLAN_WORDS.false c.read_into.ensures refl
