use borrow.Author.Rules.{rules}
use Rattle.finite.proofs.Below.{any_none, any_more, any_done}
use Rattle.walk.specs.Rows.{any_open}
use Rattle.walk.proofs.rows.any_open.Goals as goal

pub loop-touch-init : goal.loop-touch-init
loop-touch-init c = search (rules, any_none)

pub loop-touch-preserved : goal.loop-touch-preserved
loop-touch-preserved c = search (rules, any_more)

pub returns : goal.returns
unfolding any_open
returns c = search (rules, any_done)
