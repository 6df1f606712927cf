use Rattle.std.proofs.Common.{rules}
use Rattle.form.proofs.Scanning.{task_head, task_fresh, task_rest, task_reads, task_fine}
use Rattle.form.proofs.words.scan_task.Goals as goal

pub returns-then-not-head_ok : goal.returns-then-not-head_ok
returns-then-not-head_ok c = search (rules, task_head)

pub returns-in_err-changes : goal.returns-in_err-changes
returns-in_err-changes c = search (rules, task_fresh)

pub returns-then-not-rest_ok : goal.returns-then-not-rest_ok
returns-then-not-rest_ok c = search (rules, task_rest)

pub returns-then-not-reads_ok : goal.returns-then-not-reads_ok
returns-then-not-reads_ok c = search (rules, task_reads)

pub returns : goal.returns
returns c = search (rules, task_fine)
