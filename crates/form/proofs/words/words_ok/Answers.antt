use Rattle.std.proofs.Common.{rules}
use Rattle.form.proofs.Agrees.{open_of, answer_counts, answer_tasks, answer_behind, answer_fine}
use Rattle.form.proofs.words.words_ok.Goals as goal

pub returns-then-not-counts_ok : goal.returns-then-not-counts_ok
returns-then-not-counts_ok c = search (rules, answer_counts)

pub scan_tasks-requires : goal.scan_tasks-requires
scan_tasks-requires c = search (rules, open_of)

pub returns-in_err-changes : goal.returns-in_err-changes
returns-in_err-changes c = search (rules, answer_tasks)

pub returns-then-not-behind_regions-behind_tasks : goal.returns-then-not-behind_regions-behind_tasks
returns-then-not-behind_regions-behind_tasks c = search (rules, answer_behind)

pub returns : goal.returns
returns c = search (rules, answer_fine)
