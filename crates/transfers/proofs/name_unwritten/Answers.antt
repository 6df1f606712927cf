use borrow.Author.Rules.{rules}
use Rattle.transfers.proofs.Last.{no_writers_none, no_writers_more}
use Rattle.transfers.proofs.name_unwritten.Goals as goal

pub loop-g-init : goal.loop-g-init
loop-g-init c = search (rules, no_writers_none)

pub loop-g-preserved : goal.loop-g-preserved
loop-g-preserved c = search (rules, no_writers_more)
