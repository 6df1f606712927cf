use borrow.Author.Tests.{eq-eqb, ne_eqb}
use Rattle.unmet.proofs.lower_number.Goals as goal

pub returns-then-mark-ne1 : goal.returns-then-mark-ne1
returns-then-mark-ne1 c = simp (ne_eqb _ _ c.if-mark-ne1.true)

pub returns-then-done-served : goal.returns-then-done-served
returns-then-done-served c =
    let mark = c.args.mark in
    simp (eq-eqb mark 1 c.if-mark-ne1.false, c.if-done-served.true, c.one_less.ensures)

pub returns-else-done-served : goal.returns-else-done-served
returns-else-done-served c =
    let mark = c.args.mark in
    simp (eq-eqb mark 1 c.if-mark-ne1.false, c.if-done-served.false)
