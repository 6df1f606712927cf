use Prim.Native.Nat.{ℕ}
use mathlib.Core.List.{[], ◌∷◌, ◌++◌}
use mathlib.Core.Path.{sym, ap}
use native.Mathlib.Omega.{arith}
use Rattle.finite.proofs.Puts.{added_append, added_same, room_first, room_rest, room_same}
use Rattle.lines.specs.Lines.{field, edge_line}
use Rattle.lines.specs.Tables.{edge_line_at}
use Rattle.lines.proofs.put_edge.Goals as goal

pub put_bytes-head-requires : goal.put_bytes-head-requires
unfolding edge_line_at edge_line
put_bytes-head-requires c = record { fits = omega (arith, c.requires.1.fits) }

pub put_field-from-requires : goal.put_field-from-requires
unfolding edge_line_at edge_line
put_field-from-requires c =
    room_same (ap field (sym c.from.ensures))
    (room_first _ _ (room_rest c.put_bytes-head.ensures c.requires.1))

pub put_field-to-requires : goal.put_field-to-requires
unfolding edge_line_at edge_line
put_field-to-requires c =
    room_same (ap field (sym c.from-2.ensures))
    (room_first _ _ (room_rest (added_same (ap field c.from.ensures) c.put_field-from.ensures)
    (room_rest c.put_bytes-head.ensures c.requires.1)))

pub put_last-requires : goal.put_last-requires
unfolding edge_line_at edge_line
put_last-requires c =
    room_same (ap (λ (d : ℕ). field d ++ (10 ∷ [])) (sym c.from-3.ensures))
    (room_rest (added_same (ap field c.from-2.ensures) c.put_field-to.ensures)
    (room_rest (added_same (ap field c.from.ensures) c.put_field-from.ensures)
    (room_rest c.put_bytes-head.ensures c.requires.1)))

pub returns : goal.returns
unfolding edge_line_at edge_line
returns c =
    added_append c.put_bytes-head.ensures
    (added_append (added_same (ap field c.from.ensures) c.put_field-from.ensures)
    (added_append (added_same (ap field c.from-2.ensures) c.put_field-to.ensures)
    (added_same (ap (λ (d : ℕ). field d ++ (10 ∷ [])) c.from-3.ensures) c.put_last.ensures)))
