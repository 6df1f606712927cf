use mathlib.Core.Path.{sym, ◌∙◌}
use native.Mathlib.Omega.{arith}
use lib.Seq.{length-take-le}
use Rattle.std.proofs.lemmas.Result.{err_from_is_err_and}
use Rattle.steps.proofs.Answering.{start_short}
use Rattle.taskiter.proofs.Exported.{clear_taken, state_room, values_long, start_refused, start_passed}
use Rattle.taskiter.proofs.try_start.Goals as goal

pub returns-then-is_short : goal.returns-then-is_short
returns-then-is_short c =
    start_short c.args.plan.now c.args.counts.now c.args.values.now c.args.item (sym c.is_short.ensures ∙ c.if-is_short.true)

pub returns-in_err-n : goal.returns-in_err-n
returns-in_err-n c =
    let p = err_from_is_err_and c.from_residual.result c.from_residual.ensures.1 in
    rw (p.1, p.2) (start_refused c.args.plan.now c.args.counts.now c.args.values.now _ _ c.in_err-n.ensures c.args.item)

pub slice_bounds-new-end : goal.slice_bounds-new-end
slice_bounds-new-end c =
    sym (length-take-le _ c.args.plan.now (state_room c.args.plan.now c.args.counts.now c.args.values.now _ _ c.in_ok-n.ensures))

pub new-plan-requires : goal.new-plan-requires
new-plan-requires c =
    omega (arith, length-take-le _ c.args.plan.now (state_room c.args.plan.now c.args.counts.now c.args.values.now _ _ c.in_ok-n.ensures))

pub new-items-requires : goal.new-items-requires
new-items-requires c = let G = c.in_ok-n.ensures.clear.0 in (rw c.new-plan.ensures G, omega (arith, G.most))

pub start_clear-requires : goal.start_clear-requires
start_clear-requires c =
    let B = c.in_ok-n.ensures in
    let e = c.new-items.ensures in
    (clear_taken _ _ (e.0 ∙ c.new-plan.ensures) e.1 (omega (arith, B.clear.0.most)) B.clear.1, values_long c.args.plan.now c.args.counts.now c.args.values.now _ _ B)

pub returns : goal.returns
returns c =
    start_passed c.args.plan.now c.args.counts.now c.args.values.now _ _ c.in_ok-n.ensures c.args.item _
    (rw (c.new-items.ensures.0 ∙ c.new-plan.ensures) at c.start_clear.ensures)
