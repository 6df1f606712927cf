use Rattle.std.proofs.Common.{arith, rules, eq-eqb, ne_eqb}
use Rattle.text.specs.Records.{is}
use Rattle.text.proofs.Laws.{before_step, before_here, before_end}
use Rattle.text.proofs.find_from.Goals as goal

pub returns-then-s-i : goal.returns-then-s-i
returns-then-s-i c =
    let a = c.args in
    omega (arith, before_here (is a.b) a.s.now c.loop-i.i (search rules) (eq-eqb _ _ c.if-s-i.true))

pub loop-i-preserved : goal.loop-i-preserved
loop-i-preserved c =
    let a = c.args in
    omega (arith, before_step (is a.b) a.s.now c.loop-i.i (search rules) (ne_eqb _ _ c.if-s-i.false))

pub returns : goal.returns
returns c =
    let a = c.args in
    omega (arith, before_end (is a.b) a.s.now c.loop-i.i (search rules))
