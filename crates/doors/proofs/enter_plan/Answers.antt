use mathlib.Core.Path.{sym}
use native.Mathlib.Omega.{arith}
use borrow.Author.Rules.{rules}
use Rattle.doors.proofs.Entering.{plan_short, cut_long, plan_made}
use Rattle.doors.proofs.enter_plan.Goals as goal

pub returns-then-plan-long : goal.returns-then-plan-long
returns-then-plan-long c = plan_short c.args.plan.now c.args.table.now c.args.long c.if-plan-long.true

pub slice_bounds-new-end : goal.slice_bounds-new-end
slice_bounds-new-end c = sym (cut_long c.args.plan.now c.args.table.now c.args.long c.if-plan-long.false)

pub new-plan-requires : goal.new-plan-requires
new-plan-requires c = omega (arith, cut_long c.args.plan.now c.args.table.now c.args.long c.if-plan-long.false)

pub make_table-requires : goal.make_table-requires
make_table-requires c = (rw c.new-plan.ensures (cut_long c.args.plan.now c.args.table.now c.args.long c.if-plan-long.false), search rules)

pub returns : goal.returns
returns c =
    let a = c.args in
    rw c.ok_or.ensures.value
    (plan_made a.plan.now a.table.now a.long c.if-plan-long.false _ c.new-plan.ensures _ _ c.make_table.ensures.0 c.make_table.ensures.1)
