use borrow.Author.Rules.{rules}
use Rattle.finite.proofs.Below.{any_more, any_none}
use Rattle.reader.proofs.is_named.Goals as goal

pub loop-a-init : goal.loop-a-init
loop-a-init c = search (rules, any_none)

pub loop-a-preserved : goal.loop-a-preserved
loop-a-preserved c = any_more _ _ _ _ c.loop-a.invariant (rw c.access.ensures)
