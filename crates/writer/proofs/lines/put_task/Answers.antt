use borrow.Author.Rules.{rules}
use Rattle.finite.proofs.Puts.{added_append, room_first, room_rest}
use Rattle.writer.specs.Parts.{task_lines}
use Rattle.writer.proofs.lines.put_task.Goals as goal

pub put_begin-head-requires : goal.put_begin-head-requires
unfolding task_lines
put_begin-head-requires c = (search rules, room_first _ _ c.requires.2)

pub put_accesses-accesses-requires : goal.put_accesses-accesses-requires
unfolding task_lines
put_accesses-accesses-requires c =
    (search rules, search rules, room_first _ _ (room_rest c.put_begin-head.ensures c.requires.2))

pub put_bytes-requires : goal.put_bytes-requires
unfolding task_lines
put_bytes-requires c =
    room_rest c.put_accesses-accesses.ensures (room_rest c.put_begin-head.ensures c.requires.2)

pub returns : goal.returns
unfolding task_lines
returns c =
    added_append c.put_begin-head.ensures (added_append c.put_accesses-accesses.ensures c.put_bytes.ensures)
