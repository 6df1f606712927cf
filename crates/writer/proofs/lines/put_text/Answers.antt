use mathlib.Core.Path.{sym}
use Rattle.finite.proofs.Puts.{added_append, added_put, added_same, room_first, room_rest, room_same, room_start}
use Rattle.plan.proofs.Facts.{formed}
use Rattle.graph.proofs.Small.{form_words}
use Rattle.writer.proofs.Parts.{text_parts}
use Rattle.writer.proofs.lines.put_text.Goals as goal

pub put_loop-head-requires : goal.put_loop-head-requires
put_loop-head-requires c = room_first _ _ (room_same (text_parts _) (room_start c.requires.2))

pub put_starts-starts-requires : goal.put_starts-starts-requires
put_starts-starts-requires c =
    let w = c.args.plan.now in (
      (formed w (form_words w c.requires.1)).regions_most,
      room_first _ _ (room_rest c.put_loop-head.ensures (room_same (text_parts _) (room_start c.requires.2))),
    )

pub put_tasks-requires : goal.put_tasks-requires
put_tasks-requires c = (
  c.requires.0,
  c.requires.1,
  room_rest c.put_starts-starts.ensures (room_rest c.put_loop-head.ensures (room_same (text_parts _) (room_start c.requires.2))),
)

pub returns : goal.returns
returns c =
    added_put c.requires.2
    (added_same (sym (text_parts _)) (added_append c.put_loop-head.ensures (added_append c.put_starts-starts.ensures c.put_tasks.ensures)))
