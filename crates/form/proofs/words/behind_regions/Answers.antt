use Rattle.std.proofs.Common.{rules}
use Rattle.form.proofs.Rest.{behind_none, behind_more}
use Rattle.form.proofs.words.behind_regions.Goals as goal

pub loop-g-init : goal.loop-g-init
loop-g-init c = search (rules, behind_none)

pub loop-g-preserved : goal.loop-g-preserved
loop-g-preserved c = search (rules, behind_more)
