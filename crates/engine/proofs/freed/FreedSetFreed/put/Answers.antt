use mathlib.Core.Path.{refl, sym}
use mathlib.Core.Bool.{or-false}
use lib.Dec.{eqb}
use Rattle.finite.specs.Lists.{mem}
use Rattle.masks.proofs.Sets.{entered_ext}
use Rattle.engine.proofs.freed.FreedSetFreed.put.Goals as goal

pub returns : goal.returns
unfolding mem
returns c = (entered_ext _ _ _ _ c.insert.ensures (λ b l. sym (or-false (eqb b c.args.item))), refl)
