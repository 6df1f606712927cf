use mathlib.Core.Path.{sym, ◌∙◌}
use native.Mathlib.Omega.{arith}
use lib.Seq.{length-take-le}
use Rattle.std.proofs.lemmas.Result.{err_from_is_err_and}
use Rattle.taskiter.proofs.Exported.{graph_room, total_refused, total_made}
use Rattle.taskiter.proofs.try_total.Goals as goal

pub returns-in_err-n : goal.returns-in_err-n
returns-in_err-n c =
    let p = err_from_is_err_and c.from_residual.result c.from_residual.ensures.1 in
    rw (p.1, p.2) (total_refused c.args.plan.now _ _ _ c.in_err-n.ensures)

pub slice_bounds-new-end : goal.slice_bounds-new-end
slice_bounds-new-end c =
    let P = c.args.plan.now in
    sym (length-take-le _ P (graph_room P _ _ c.in_ok-n.ensures.clear))

pub new-plan-requires : goal.new-plan-requires
new-plan-requires c =
    let P = c.args.plan.now in
    omega (arith, length-take-le _ P (graph_room P _ _ c.in_ok-n.ensures.clear))

pub new-requires : goal.new-requires
new-requires c = let G = c.in_ok-n.ensures.clear in (rw c.new-plan.ensures G, omega (arith, G.most))

pub returns : goal.returns
returns c = total_made c.args.plan.now _ _ _ c.in_ok-n.ensures _ (rw (c.new.ensures.0 ∙ c.new-plan.ensures) at c.total_steps.ensures)
