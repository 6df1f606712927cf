use mathlib.Core.Path.{sym, ◌∙◌}
use native.Mathlib.Omega.{arith}
use lib.Seq.{length-take-le}
use Rattle.std.proofs.lemmas.Result.{err_from_is_err_and}
use Rattle.doors.proofs.Entering.{state_refused, lent_plan, lent_counts, lent_graph, state_unformed, state_clear}
use Rattle.doors.proofs.enter_state.Goals as goal

pub returns-in_err-n : goal.returns-in_err-n
returns-in_err-n c =
    let a = c.args in
    let p = err_from_is_err_and c.from_residual.result c.from_residual.ensures.1 in
    rw (p.1, p.2) (state_refused a.plan.now a.counts.now a.table.now a.long _ _ c.in_err-n.ensures)

pub slice_bounds-new-end : goal.slice_bounds-new-end
slice_bounds-new-end c =
    let a = c.args in
    sym (length-take-le _ a.plan.now (lent_plan a.plan.now a.counts.now a.table.now a.long _ _ c.in_ok-n.ensures))

pub new-plan-requires : goal.new-plan-requires
new-plan-requires c =
    let a = c.args in
    omega (arith, length-take-le _ a.plan.now (lent_plan a.plan.now a.counts.now a.table.now a.long _ _ c.in_ok-n.ensures))

pub new-items-requires : goal.new-items-requires
new-items-requires c =
    let a = c.args in
    let G = lent_graph a.plan.now a.counts.now a.table.now a.long _ _ c.in_ok-n.ensures in
    (rw c.new-plan.ensures G, omega (arith, G.most))

pub is_formed-requires : goal.is_formed-requires
is_formed-requires c =
    let a = c.args in
    lent_counts a.plan.now a.counts.now a.table.now a.long _ _ c.in_ok-n.ensures

pub returns-then-not-is_formed : goal.returns-then-not-is_formed
returns-then-not-is_formed c =
    let a = c.args in
    let B = c.in_ok-n.ensures in
    state_unformed a.plan.now a.counts.now a.table.now a.long _ _ B _ _ (c.new-items.ensures.0 ∙ c.new-plan.ensures) c.new-items.ensures.1 (omega (arith, B.clear.most)) _ c.is_formed.ensures c.if-not-is_formed.true-raw

pub returns : goal.returns
returns c =
    let a = c.args in
    let B = c.in_ok-n.ensures in
    state_clear a.plan.now a.counts.now a.table.now a.long _ _ B _ _ (c.new-items.ensures.0 ∙ c.new-plan.ensures) c.new-items.ensures.1 (omega (arith, B.clear.most)) _ c.is_formed.ensures c.if-not-is_formed.false-raw
