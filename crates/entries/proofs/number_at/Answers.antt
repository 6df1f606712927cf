use Rattle.std.proofs.Common.{arith, ne_eqb}
use Rattle.entries.proofs.Numbers.{run_none, run_one, run_zero, run_short}
use Rattle.entries.proofs.number_at.Goals as goal

pub returns-then-size-eq0 : goal.returns-then-size-eq0
returns-then-size-eq0 c =
    let a = c.args in
    run_none a.s.now a.at _ _ c.digits_at-value.ensures c.if-size-eq0.true

pub returns-then-size-eq1 : goal.returns-then-size-eq1
returns-then-size-eq1 c =
    let a = c.args in
    run_one a.s.now a.at _ _ c.digits_at-value.ensures c.if-size-eq1.true

pub returns-then-s-at-eq48 : goal.returns-then-s-at-eq48
returns-then-s-at-eq48 c =
    let a = c.args in
    run_zero a.s.now a.at _ _ c.digits_at-value.ensures (omega arith) c.if-s-at-eq48.true

pub returns-then-size-lt19 : goal.returns-then-size-lt19
returns-then-size-lt19 c =
    let a = c.args in
    run_short a.s.now a.at _ _ c.digits_at-value.ensures (omega arith) (ne_eqb _ _ c.if-s-at-eq48.false) c.if-size-lt19.true
