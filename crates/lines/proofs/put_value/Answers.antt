use native.Mathlib.Omega.{arith}
use Rattle.finite.proofs.Puts.{added_append, room_first, room_rest}
use Rattle.lines.specs.Lines.{value_line}
use Rattle.lines.specs.Tables.{value_line_at}
use Rattle.lines.proofs.put_value.Goals as goal

pub put_bytes-head-requires : goal.put_bytes-head-requires
unfolding value_line_at value_line
put_bytes-head-requires c = record { fits = omega (arith, c.requires.1.fits) }

pub put_field-region-requires : goal.put_field-region-requires
unfolding value_line_at value_line
put_field-region-requires c =
    room_first _ _ (room_rest c.put_bytes-head.ensures c.requires.1)

pub put_last-requires : goal.put_last-requires
unfolding value_line_at value_line
put_last-requires c =
    room_rest c.put_field-region.ensures (room_rest c.put_bytes-head.ensures c.requires.1)

pub returns : goal.returns
unfolding value_line_at value_line
returns c =
    added_append c.put_bytes-head.ensures (added_append c.put_field-region.ensures c.put_last.ensures)
