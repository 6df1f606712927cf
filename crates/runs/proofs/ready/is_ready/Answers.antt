use Rattle.plan.specs.Layout.{body_of}
use Rattle.runs.proofs.Readying.{ready_is}
use Rattle.runs.proofs.ready.is_ready.Goals as goal

pub returns : goal.returns
returns c = ready_is (body_of c.args.items.now.plan.now) c.args.counts.now c.args.b _ c.passes.ensures
