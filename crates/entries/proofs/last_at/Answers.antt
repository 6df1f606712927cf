use Rattle.entries.proofs.Numbers.{last_bad, last_other}
use Rattle.entries.proofs.last_at.Goals as goal

pub returns-in_err-value : goal.returns-in_err-value
returns-in_err-value c =
    let a = c.args in
    rw c.from_residual.ensures (last_bad a.s.now a.at c.in_err-value.ensures)

pub returns-then-end-s : goal.returns-then-end-s
returns-then-end-s c =
    let a = c.args in
    last_other a.s.now a.at _ _ c.in_ok-value.ensures c.if-end-s.true
