use Rattle.std.proofs.Common.{sym}
use Rattle.text.proofs.LineLaws.{ended_last, ended_take}
use Rattle.text.proofs.line_from.Goals as goal

pub returns-then-t-n : goal.returns-then-t-n
returns-then-t-n c =
    let t = c.behind-t.result.now in
    rw (← c.behind-t.ensures) (sym (ended_last t c.find-n.result c.find-n.ensures c.if-t-n.true))

pub returns : goal.returns
returns c =
    let t = c.behind-t.result.now in
    rw (← c.behind-t.ensures) (ended_take t c.find-n.result c.find-n.ensures c.if-t-n.false)
