use borrow.Author.Rules.{rules}
use Rattle.transfers.proofs.Last.{noted_none, noted_more}
use Rattle.transfers.proofs.Marks.{marked_none, marked_more}
use Rattle.transfers.proofs.Search.visit_row.Goals as goal

pub loop-a-init : goal.loop-a-init
loop-a-init c = search (rules, noted_none, marked_none)

pub loop-a-preserved : goal.loop-a-preserved
loop-a-preserved c = (search rules, search (rules, noted_more), search (rules, marked_more))
