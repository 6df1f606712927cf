use native.Mathlib.Omega.{arith}
use Rattle.finite.proofs.Puts.{added_append, added_put, room_rest, room_start}
use Rattle.lines.specs.Lines.{steps_line}
use Rattle.lines.proofs.put_steps.Goals as goal

pub put_bytes-head-requires : goal.put_bytes-head-requires
unfolding steps_line
put_bytes-head-requires c = record { fits = omega (arith, c.requires) }

pub put_last-requires : goal.put_last-requires
unfolding steps_line
put_last-requires c =
    room_rest c.put_bytes-head.ensures (room_start c.requires)

pub returns : goal.returns
unfolding steps_line
returns c =
    added_put c.requires (added_append c.put_bytes-head.ensures c.put_last.ensures)
