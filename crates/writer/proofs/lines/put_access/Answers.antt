use Rattle.finite.proofs.Puts.{added_append, room_first, room_rest}
use Rattle.writer.specs.Parts.{access_line}
use Rattle.writer.proofs.lines.put_access.Goals as goal

pub put_mode-mode-requires : goal.put_mode-mode-requires
unfolding access_line
put_mode-mode-requires c = room_first _ _ c.requires

pub put_last-requires : goal.put_last-requires
unfolding access_line
put_last-requires c = room_rest c.put_mode-mode.ensures c.requires

pub returns : goal.returns
unfolding access_line
returns c = added_append c.put_mode-mode.ensures c.put_last.ensures
