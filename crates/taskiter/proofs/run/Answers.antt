use mathlib.Core.Path.{sym, ◌∙◌}
use native.Mathlib.Omega.{arith}
use lib.Seq.{length-take-le}
use Rattle.taskiter.proofs.Showing.{run_short, run_refused, plan_room, items_ask, run_asks, results_ask, run_shown}
use Rattle.taskiter.proofs.run.Goals as goal

pub returns-then-table-lt-MAX_ITEMS : goal.returns-then-table-lt-MAX_ITEMS
returns-then-table-lt-MAX_ITEMS c =
    run_short c.args.plan.now c.args.table.now c.args.list.now c.args.counts.now c.args.values.now c.args.results.now _ c.if-table-lt-MAX_ITEMS.true c.no_run.ensures

pub slice_bounds-enter_plan-end-2 : goal.slice_bounds-enter_plan-end-2
slice_bounds-enter_plan-end-2 c =
    sym (length-take-le _ c.args.table.now (omega (arith, c.if-table-lt-MAX_ITEMS.false)))

pub enter_plan-requires : goal.enter_plan-requires
enter_plan-requires c =
    length-take-le _ c.args.table.now (omega (arith, c.if-table-lt-MAX_ITEMS.false))

pub returns-in-Err : goal.returns-in-Err
returns-in-Err c =
    run_refused c.args.plan.now c.args.table.now c.args.list.now c.args.counts.now c.args.values.now c.args.results.now
    (omega (arith, c.if-table-lt-MAX_ITEMS.false)) _ _ c.in-Err.ensures _ c.no_run-in-Err.ensures

pub slice_bounds-new-end : goal.slice_bounds-new-end
slice_bounds-new-end c =
    sym (length-take-le _ c.args.plan.now
    (plan_room c.args.plan.now c.args.table.now c.args.list.now c.args.counts.now c.args.values.now c.args.results.now
    (omega (arith, c.if-table-lt-MAX_ITEMS.false)) _ _ c.in-Ok.ensures))

pub new-plan-requires : goal.new-plan-requires
new-plan-requires c =
    omega (
      arith,
      length-take-le _ c.args.plan.now
          (plan_room c.args.plan.now c.args.table.now c.args.list.now c.args.counts.now c.args.values.now c.args.results.now
          (omega (arith, c.if-table-lt-MAX_ITEMS.false)) _ _ c.in-Ok.ensures),
    )

pub new-items-requires : goal.new-items-requires
new-items-requires c =
    rw c.new-plan.ensures
    (items_ask c.args.plan.now c.args.table.now c.args.list.now c.args.counts.now c.args.values.now c.args.results.now
    (omega (arith, c.if-table-lt-MAX_ITEMS.false)) _ _ c.in-Ok.ensures)

pub run_clear-ended-requires : goal.run_clear-ended-requires
run_clear-ended-requires c =
    run_asks c.args.plan.now c.args.table.now c.args.list.now c.args.counts.now c.args.values.now c.args.results.now
    (omega (arith, c.if-table-lt-MAX_ITEMS.false)) _ _ c.in-Ok.ensures

pub put_results-requires : goal.put_results-requires
put_results-requires c =
    let e = rw (c.new-items.ensures.0 ∙ c.new-plan.ensures) at c.run_clear-ended.ensures in
    rw c.new-plan.ensures
    (results_ask c.args.plan.now c.args.table.now c.args.list.now c.args.counts.now c.args.values.now c.args.results.now
    (omega (arith, c.if-table-lt-MAX_ITEMS.false)) _ _ c.in-Ok.ensures _ _ _ _ _ e.0 (e.1, e.2))

pub returns : goal.returns
returns c =
    let e = rw (c.new-items.ensures.0 ∙ c.new-plan.ensures) at c.run_clear-ended.ensures in
    run_shown c.args.plan.now c.args.table.now c.args.list.now c.args.counts.now c.args.values.now c.args.results.now
    (omega (arith, c.if-table-lt-MAX_ITEMS.false)) _ _ c.in-Ok.ensures _ _ _ _ _ e.0 (e.1, e.2) _ (rw c.new-plan.ensures at c.put_results.ensures)
