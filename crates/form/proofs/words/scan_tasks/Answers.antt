use Rattle.std.proofs.Common.{rules}
use Rattle.form.proofs.Scanning.{task_few, scanning_none, scanning_more, scanning_not, scanning_done}
use Rattle.form.proofs.words.scan_tasks.Goals as goal

pub loop-i-init : goal.loop-i-init
loop-i-init c = search (rules, scanning_none)

pub returns-in_err-changes : goal.returns-in_err-changes
returns-in_err-changes c = search (rules, scanning_not)

pub overflow_add-changes : goal.overflow_add-changes
overflow_add-changes c = search (rules, task_few)

pub loop-i-preserved : goal.loop-i-preserved
loop-i-preserved c = scanning_more _ _ _ _ _ _ c.loop-i.invariant c.in_ok-changes.ensures

pub returns : goal.returns
returns c = scanning_done _ _ _ _ c.loop-i.invariant (search rules) (search rules)
