use mathlib.Core.Path.{refl, sym}
use lib.ListN.{length}
use native.Mathlib.Omega.{arith}
use Rattle.std.proofs.lemmas.Result.{err_from_is_err_and}
use Rattle.plan.proofs.Refusals.{number_above}
use Rattle.ranges.proofs.Clear.{finish_clear}
use Rattle.checker.proofs.Stepping.{finishable}
use Rattle.taskiter.proofs.Stepped.{freeing_short, freeing_refused, freeing_made}
use Rattle.taskiter.proofs.try_finish_freeing.Goals as goal

pub returns-then-freed-lt-FREED : goal.returns-then-freed-lt-FREED
returns-then-freed-lt-FREED c =
    freeing_short c.args.plan.now c.args.tables.now c.args.counts.now c.args.values.now c.args.item c.args.freed.now c.if-freed-lt-FREED.true

pub returns-in_err-finish_refusal : goal.returns-in_err-finish_refusal
returns-in_err-finish_refusal c =
    let p = err_from_is_err_and c.from_residual.result c.from_residual.ensures.1 in
    rw (p.1, p.2)
    (freeing_refused c.args.plan.now c.args.tables.now c.args.counts.now c.args.values.now c.args.item c.args.freed.now
    (omega (arith, c.if-freed-lt-FREED.false)) _ c.in_err-finish_refusal.ensures (number_above _))

pub new-requires : goal.new-requires
new-requires c =
    (finish_clear c.args.plan.now c.args.tables.now c.args.counts.now (length c.args.values.now) c.args.item (sym c.in_ok-finish_refusal.ensures)).long_plan_lem

pub finish_item-requires : goal.finish_item-requires
finish_item-requires c = (
  (finishable c.args.plan.now c.args.tables.now c.args.counts.now c.args.values.now c.args.item _ c.in_ok-finish_refusal.ensures refl),
  omega (arith, c.if-freed-lt-FREED.false),
)

pub returns : goal.returns
returns c =
    let e = rw c.new.ensures at c.finish_item.ensures in
    freeing_made c.args.plan.now c.args.tables.now c.args.counts.now c.args.values.now c.args.item c.args.freed.now
    (omega (arith, c.if-freed-lt-FREED.false)) _ c.in_ok-finish_refusal.ensures refl _ _ _ _ e.0 e.1
