use Rattle.std.proofs.Common.{rules}
use Rattle.finite.proofs.Below.{all_none}
use Rattle.form.proofs.Rest.{pair_more}
use Rattle.form.proofs.words.behind_tasks.Goals as goal

pub loop-k-init : goal.loop-k-init
loop-k-init c = search (rules, all_none)

pub loop-k-preserved : goal.loop-k-preserved
loop-k-preserved c = (
  search rules,
  search rules,
  search rules,
  rw c.words-words.ensures.0
      (pair_more c.args.plan.now _ c.loop-k.bits _ c.loop-k.invariant.0 c.loop-k.invariant.3),
)
