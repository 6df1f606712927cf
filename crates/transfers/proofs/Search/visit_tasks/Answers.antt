use borrow.Author.Rules.{rules}
use Rattle.transfers.proofs.Rows.{ready}
use Rattle.transfers.proofs.Last.{noted_tasks_none, noted_tasks_more}
use Rattle.transfers.proofs.Marks.{marked_tasks_none, marked_tasks_more}
use Rattle.transfers.proofs.Search.visit_tasks.Goals as goal

pub loop-t-init : goal.loop-t-init
loop-t-init c = search (rules, noted_tasks_none, marked_tasks_none)

pub visit_task-requires : goal.visit_task-requires
visit_task-requires c = search (rules, ready)

pub loop-t-preserved : goal.loop-t-preserved
loop-t-preserved c = search (rules, noted_tasks_more, marked_tasks_more)
