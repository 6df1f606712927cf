use native.Mathlib.Omega.{arith}
use Rattle.finite.proofs.Puts.{added_append, added_put, room_first, room_rest, room_start}
use Rattle.lines.specs.Lines.{refused_line}
use Rattle.lines.proofs.put_refused.Goals as goal

pub put_bytes-head-requires : goal.put_bytes-head-requires
unfolding refused_line
put_bytes-head-requires c = record { fits = omega (arith, c.requires) }

pub put_field-number-requires : goal.put_field-number-requires
unfolding refused_line
put_field-number-requires c =
    room_first _ _ (room_rest c.put_bytes-head.ensures (room_start c.requires))

pub put_last-requires : goal.put_last-requires
unfolding refused_line
put_last-requires c =
    room_rest c.put_field-number.ensures (room_rest c.put_bytes-head.ensures (room_start c.requires))

pub returns : goal.returns
unfolding refused_line
returns c =
    added_put c.requires
    (added_append c.put_bytes-head.ensures (added_append c.put_field-number.ensures c.put_last.ensures))
