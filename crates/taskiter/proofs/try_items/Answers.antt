use mathlib.Core.Path.{refl, sym}
use native.Mathlib.Omega.{arith}
use lib.Seq.{length-take-le}
use Rattle.std.proofs.lemmas.Result.{err_from_is_err_and}
use Rattle.taskiter.proofs.Exported.{items_short, items_refused, items_found}
use Rattle.taskiter.proofs.try_items.Goals as goal

pub returns-then-table-lt-MAX_ITEMS : goal.returns-then-table-lt-MAX_ITEMS
returns-then-table-lt-MAX_ITEMS c = items_short c.args.plan.now _ c.if-table-lt-MAX_ITEMS.true

pub slice_bounds-enter_plan-end-2 : goal.slice_bounds-enter_plan-end-2
slice_bounds-enter_plan-end-2 c = sym (length-take-le _ c.args.table.now (omega (arith, c.if-table-lt-MAX_ITEMS.false)))

pub enter_plan-requires : goal.enter_plan-requires
enter_plan-requires c = length-take-le _ c.args.table.now (omega (arith, c.if-table-lt-MAX_ITEMS.false))

pub returns-in_err-n : goal.returns-in_err-n
returns-in_err-n c =
    let p = err_from_is_err_and c.from_residual.result c.from_residual.ensures.1 in
    rw (p.1, p.2) (items_refused c.args.plan.now c.args.table.now (omega (arith, c.if-table-lt-MAX_ITEMS.false)) _ _ _ c.in_err-n.ensures refl)

pub returns : goal.returns
returns c = items_found c.args.plan.now c.args.table.now (omega (arith, c.if-table-lt-MAX_ITEMS.false)) _ _ _ c.in_ok-n.ensures refl
