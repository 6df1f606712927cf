use Rattle.std.proofs.Common.{◌≡◌, ◌-◌, ◌*◌, eqb}
use Rattle.finite.specs.Below.{all_below}
use Rattle.plan.specs.Limits.{max_tasks}
use Rattle.plan.specs.Layout.{tasks_of, rank_index}
use Rattle.form.specs.Scan.{pair_ok}
use Rattle.form.proofs.words.behind_tasks.Given as goal

abbrev pub invariant-loop-k : goal.invariant-loop-k
invariant-loop-k l =
    (l.tasks ≡ tasks_of l.plan) × (l.first ≡ rank_index l.tasks) × (l.half ≡ 6 * (max_tasks - l.tasks)) × (eqb l.bits 0 ≡ all_below l.k (pair_ok l.plan))
