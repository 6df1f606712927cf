use borrow.Author.Rules.{rules}
use Rattle.finite.proofs.Lists.{tabulate_none}
use Rattle.transfers.proofs.Rows.{row_more}
use Rattle.transfers.proofs.row_of.Goals as goal

pub loop-a-init : goal.loop-a-init
loop-a-init c = search (rules, tabulate_none)

pub loop-a-preserved : goal.loop-a-preserved
loop-a-preserved c = search (rules, row_more)
