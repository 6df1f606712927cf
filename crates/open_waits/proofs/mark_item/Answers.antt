use native.Mathlib.Omega.{arith}
use borrow.Author.Rules.{rules}
use Rattle.open_waits.proofs.Marks.{mark_most, mark_again, mark_new}
use Rattle.open_waits.proofs.mark_item.Goals as goal

pub returns-then-seen-b : goal.returns-then-seen-b
returns-then-seen-b c = search (rules, mark_again)

pub overflow_add-result : goal.overflow_add-result
overflow_add-result c = omega (arith, mark_most _ _ _ c.requires.0)

pub returns : goal.returns
returns c = let pre = c.requires in mark_new _ _ _ pre.0 _ pre.1 c.if-seen-b.false
