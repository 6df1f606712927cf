use mathlib.Core.Path.{sym, ◌∙◌}
use Rattle.steps.proofs.Answering.{open_short}
use Rattle.taskiter.proofs.taskiter_open.Goals as goal

pub returns-then-is_short : goal.returns-then-is_short
returns-then-is_short c =
    rw c.from.ensures
    (open_short c.args.plan.now c.args.counts.now c.args.values.now (sym c.is_short.ensures ∙ c.if-is_short.true))
