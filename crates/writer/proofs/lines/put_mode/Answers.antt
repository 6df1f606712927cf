use mathlib.Core.Path.{sym, ap}
use Rattle.finite.proofs.Puts.{added_same, room_same}
use Rattle.writer.specs.Parts.{mode_text}
use Rattle.writer.proofs.Parts.{mode_other}
use Rattle.writer.proofs.lines.put_mode.Goals as goal

pub put_bytes-requires : goal.put_bytes-requires
unfolding mode_text
put_bytes-requires c = room_same (ap mode_text c.if-mode-eq0.true) c.requires

pub returns-then-mode-eq0 : goal.returns-then-mode-eq0
unfolding mode_text
returns-then-mode-eq0 c = added_same (sym (ap mode_text c.if-mode-eq0.true)) c.put_bytes.ensures

pub put_bytes-requires-then-mode-eq1 : goal.put_bytes-requires-then-mode-eq1
unfolding mode_text
put_bytes-requires-then-mode-eq1 c = room_same (ap mode_text c.if-mode-eq1.true) c.requires

pub returns-then-mode-eq1 : goal.returns-then-mode-eq1
unfolding mode_text
returns-then-mode-eq1 c = added_same (sym (ap mode_text c.if-mode-eq1.true)) c.put_bytes-then-mode-eq1.ensures

pub put_bytes-requires-2 : goal.put_bytes-requires-2
unfolding mode_text
put_bytes-requires-2 c = room_same (mode_other _ c.if-mode-eq0.false c.if-mode-eq1.false) c.requires

pub returns : goal.returns
unfolding mode_text
returns c =
    added_same (sym (mode_other _ c.if-mode-eq0.false c.if-mode-eq1.false)) c.put_bytes-2.ensures
