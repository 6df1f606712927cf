use borrow.Author.Rules.{rules}
use Rattle.finite.proofs.Below.{any_none, any_more}
use Rattle.tables.specs.Targets.{is_marked}
use Rattle.tables.proofs.targets.any_marked.Goals as goal

pub loop-k-init : goal.loop-k-init
loop-k-init c = search (rules, any_none)

pub loop-k-preserved : goal.loop-k-preserved
unfolding is_marked
loop-k-preserved c = search (rules, any_more)
