use native.Mathlib.Omega.{arith}
use Rattle.tables.proofs.Padded.{part_added}
use Rattle.tables.proofs.parts.put_part.Goals as goal

pub returns : goal.returns
returns c =
    part_added _ _ _ _ _ (omega arith) c.requires.2 c.pad.ensures
