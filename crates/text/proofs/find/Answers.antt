use Rattle.std.proofs.Common.{drop, ap, arith, drop-drop}
use Rattle.text.specs.Text.{before}
use Rattle.text.specs.Records.{is}
use Rattle.text.proofs.MarkLaws.{mark_none}
use Rattle.text.proofs.find.Goals as goal

pub loop-i-preserved : goal.loop-i-preserved
loop-i-preserved c =
    let a = c.args in
    let l = drop c.loop-i.i a.s.now in
    let behind = mark_none a.b c.word_at.result c.marks-m.result l c.marks-m.ensures c.word_at.ensures c.if-m-ne0.false in
    omega (arith, behind, ap (before (is a.b)) (drop-drop 8 c.loop-i.i a.s.now))
