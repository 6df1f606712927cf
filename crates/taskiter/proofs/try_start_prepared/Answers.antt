use mathlib.Core.Path.{refl, sym, ◌∙◌}
use lib.ListN.{length}
use Rattle.std.proofs.lemmas.Result.{err_from_is_err_and}
use Rattle.plan.proofs.Refusals.{number_above}
use Rattle.ranges.proofs.Clear.{start_clear}
use Rattle.checker.proofs.Stepping.{startable, start_refused, start_made}
use Rattle.taskiter.proofs.try_start_prepared.Goals as goal

pub returns-in_err-start_refusal : goal.returns-in_err-start_refusal
returns-in_err-start_refusal c =
    let p = err_from_is_err_and c.from_residual.result c.from_residual.ensures.1 in
    rw (p.1, p.2)
    (start_refused c.args.plan.now c.args.tables.now c.args.counts.now c.args.values.now c.args.item _ c.in_err-start_refusal.ensures (number_above _))

pub new-requires : goal.new-requires
new-requires c =
    (start_clear c.args.plan.now c.args.tables.now c.args.counts.now (length c.args.values.now) c.args.item (sym c.in_ok-start_refusal.ensures)).long_plan_lem

pub start_item-requires : goal.start_item-requires
start_item-requires c = (
  (startable c.args.plan.now c.args.tables.now c.args.counts.now c.args.values.now c.args.item _ c.in_ok-start_refusal.ensures refl),
  refl,
)

pub returns : goal.returns
returns c =
    (rw c.new.ensures at c.start_item.ensures.0)
    ∙ (start_made c.args.plan.now c.args.tables.now c.args.counts.now c.args.values.now c.args.item _ c.in_ok-start_refusal.ensures refl)
