use mathlib.Core.Path.{sym, ap}
use Rattle.finite.proofs.Puts.{added_same, room_same}
use Rattle.lines.specs.Lines.{kind_field}
use Rattle.lines.proofs.Fields.{kind_other}
use Rattle.lines.proofs.put_kind.Goals as goal

pub put_bytes-requires : goal.put_bytes-requires
unfolding kind_field
put_bytes-requires c = room_same (ap kind_field c.if-kind-eq-TASK.true) c.requires

pub returns-then-kind-eq-TASK : goal.returns-then-kind-eq-TASK
unfolding kind_field
returns-then-kind-eq-TASK c = added_same (sym (ap kind_field c.if-kind-eq-TASK.true)) c.put_bytes.ensures

pub put_bytes-requires-then-kind-eq-SEND : goal.put_bytes-requires-then-kind-eq-SEND
unfolding kind_field
put_bytes-requires-then-kind-eq-SEND c = room_same (ap kind_field c.if-kind-eq-SEND.true) c.requires

pub returns-then-kind-eq-SEND : goal.returns-then-kind-eq-SEND
unfolding kind_field
returns-then-kind-eq-SEND c = added_same (sym (ap kind_field c.if-kind-eq-SEND.true)) c.put_bytes-then-kind-eq-SEND.ensures

pub put_bytes-requires-2 : goal.put_bytes-requires-2
unfolding kind_field
put_bytes-requires-2 c = room_same (kind_other _ c.if-kind-eq-TASK.false c.if-kind-eq-SEND.false) c.requires

pub returns : goal.returns
unfolding kind_field
returns c =
    added_same (sym (kind_other _ c.if-kind-eq-TASK.false c.if-kind-eq-SEND.false)) c.put_bytes-2.ensures
