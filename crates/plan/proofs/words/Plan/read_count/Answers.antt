use Rattle.std.proofs.Common.{ap, ◌∙◌, rules}
use Rattle.finite.proofs.Below.{count_none, count_more}
use Rattle.plan.specs.Layout.{reads}
use Rattle.plan.proofs.Tests.{bool_number}
use Rattle.plan.proofs.words.Plan.read_count.Goals as goal

pub loop-a-init : goal.loop-a-init
loop-a-init c = search (rules, count_none)

pub loop-a-preserved : goal.loop-a-preserved
loop-a-preserved c = (
  search rules,
  count_more _ _ _ _ _ c.loop-a.invariant.1 (c.from-count.ensures ∙ bool_number _) (c.reads_region.ensures ∙ ap reads c.access.ensures),
)
