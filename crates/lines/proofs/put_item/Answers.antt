use Prim.Native.Nat.{ℕ}
use mathlib.Core.List.{[], ◌∷◌, ◌++◌}
use mathlib.Core.Path.{sym, ◌∙◌, ap}
use native.Mathlib.Omega.{arith}
use Rattle.finite.proofs.Puts.{added_append, added_same, room_first, room_rest, room_same}
use Rattle.plan.specs.Code.{code_kind, code_rank}
use Rattle.lines.specs.Lines.{field, kind_field, item_line}
use Rattle.lines.specs.Tables.{item_line_at}
use Rattle.lines.proofs.put_item.Goals as goal

pub put_bytes-head-requires : goal.put_bytes-head-requires
unfolding item_line_at item_line
put_bytes-head-requires c = record { fits = omega (arith, c.requires.1.fits) }

pub put_field-number-requires : goal.put_field-number-requires
unfolding item_line_at item_line
put_field-number-requires c =
    room_first _ _ (room_rest c.put_bytes-head.ensures c.requires.1)

pub put_kind-kind-requires : goal.put_kind-kind-requires
unfolding item_line_at item_line
put_kind-kind-requires c =
    room_same (ap kind_field (sym (c.item_kind.ensures ∙ ap code_kind c.from-code.ensures)))
    (room_first _ _ (room_rest c.put_field-number.ensures (room_rest c.put_bytes-head.ensures c.requires.1)))

pub put_last-requires : goal.put_last-requires
unfolding item_line_at item_line
put_last-requires c =
    let e = c.from-code.ensures in
    room_same (ap (λ (q : ℕ). field q ++ (10 ∷ [])) (sym (c.item_rank.ensures ∙ ap code_rank e)))
    (room_rest (added_same (ap kind_field (c.item_kind.ensures ∙ ap code_kind e)) c.put_kind-kind.ensures)
    (room_rest c.put_field-number.ensures (room_rest c.put_bytes-head.ensures c.requires.1)))

pub returns : goal.returns
unfolding item_line_at item_line
returns c =
    let e = c.from-code.ensures in
    added_append c.put_bytes-head.ensures
    (added_append c.put_field-number.ensures
    (added_append (added_same (ap kind_field (c.item_kind.ensures ∙ ap code_kind e)) c.put_kind-kind.ensures)
    (added_same (ap (λ (q : ℕ). field q ++ (10 ∷ [])) (c.item_rank.ensures ∙ ap code_rank e)) c.put_last.ensures)))
