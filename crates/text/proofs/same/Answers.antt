use Rattle.std.proofs.Common.{arith, rules}
use Rattle.text.proofs.WordLaws.{alike_step, alike_stop, alike_end, alike_length}
use Rattle.text.proofs.same.Goals as goal

pub returns-then-a-b : goal.returns-then-a-b
returns-then-a-b c = cc (alike_length c.args.a.now c.args.b.now (omega arith))

pub returns-then-a-i : goal.returns-then-a-i
returns-then-a-i c =
    let ar = c.args in
    cc (alike_stop ar.a.now ar.b.now c.loop-i.i (search rules) (search rules) c.if-a-i.true)

pub loop-i-preserved : goal.loop-i-preserved
loop-i-preserved c =
    let ar = c.args in
    cc (alike_step ar.a.now ar.b.now c.loop-i.i (search rules) (search rules) c.if-a-i.false)

pub returns : goal.returns
returns c =
    let ar = c.args in
    cc (alike_end ar.a.now ar.b.now c.loop-i.i (search rules) (search rules))
