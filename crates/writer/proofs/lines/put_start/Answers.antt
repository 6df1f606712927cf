use mathlib.Core.Path.{◌≡◌, sym, ◌∙◌, ap}
use mathlib.Core.List.{◌++◌}
use Rattle.finite.specs.Put.{RoomAt}
use Rattle.finite.proofs.Puts.{added_none, added_append, added_same, room_first, room_rest, room_same}
use Rattle.text.specs.Ascii.{ascii}
use Rattle.plan.specs.Layout.{starting_of}
use Rattle.writer.specs.Parts.{field, last, start_line}
use Rattle.writer.proofs.Parts.{start_none, start_some}
use Rattle.writer.proofs.lines.put_start.Goals as goal
use Rattle.writer.proofs.lines.put_start.Goals.{Else-value-eq0}

pub returns-then-value-eq0 : goal.returns-then-value-eq0
returns-then-value-eq0 c = added_same (sym (start_none _ _ (sym c.start-value.ensures ∙ c.if-value-eq0.true))) added_none

-- the region does not start at 0: its line, and room for it
some : (c : Else-value-eq0) → let a = c.args in
    start_line a.plan.now a.g ≡ ascii "start" ++ (field a.g ++ last (starting_of a.plan.now a.g))
some c = start_some _ _ (λ z. c.if-value-eq0.false (c.start-value.ensures ∙ z))

room : (c : Else-value-eq0) → let a = c.args in
    RoomAt (ascii "start" ++ (field a.g ++ last (starting_of a.plan.now a.g))) a.at a.out.now
room c = room_same (some c) c.requires.1

pub put_bytes-head-requires : goal.put_bytes-head-requires
put_bytes-head-requires c = room_first _ _ (room (goal.at.put_bytes-head-requires c).Else-value-eq0)

pub put_field-region-requires : goal.put_field-region-requires
put_field-region-requires c =
    room_first _ _ (room_rest c.put_bytes-head.ensures (room (goal.at.put_field-region-requires c).Else-value-eq0))

pub put_last-requires : goal.put_last-requires
put_last-requires c =
    room_same (ap last (sym c.start-value.ensures))
    (room_rest c.put_field-region.ensures (room_rest c.put_bytes-head.ensures (room (goal.at.put_last-requires c).Else-value-eq0)))

pub returns : goal.returns
returns c =
    added_same (sym (some (goal.at.returns c).Else-value-eq0))
    (added_append c.put_bytes-head.ensures
    (added_append c.put_field-region.ensures
    (added_same (ap last c.start-value.ensures) c.put_last.ensures)))
