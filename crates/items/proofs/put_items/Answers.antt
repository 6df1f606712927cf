use borrow.Author.Rules.{rules}
use Rattle.finite.proofs.Puts.{collect_none, collect_more}
use Rattle.items.proofs.Tasks.{task_rank, tasks_fit, tasks_done}
use Rattle.items.proofs.put_items.Goals as goal

pub loop-i-init : goal.loop-i-init
loop-i-init c = search (rules, collect_none)

pub put_task-at-requires : goal.put_task-at-requires
put_task-at-requires c = search (rules, task_rank, tasks_fit)

pub loop-i-preserved : goal.loop-i-preserved
loop-i-preserved c = search (rules, collect_more)

pub returns : goal.returns
returns c = search (rules, tasks_done)
