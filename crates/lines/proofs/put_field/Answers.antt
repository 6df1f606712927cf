use mathlib.Core.Path.{sym}
use Rattle.finite.proofs.Puts.{added_same, room_same}
use Rattle.lines.proofs.Fields.{field_digits}
use Rattle.lines.proofs.put_field.Goals as goal

pub put_field-requires : goal.put_field-requires
put_field-requires c = room_same (field_digits _) c.requires

pub returns : goal.returns
returns c = added_same (sym (field_digits _)) c.put_field.ensures
