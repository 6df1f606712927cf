use mathlib.Core.Path.{◌≡◌, sym, ◌∙◌, ap}
use mathlib.Core.Bool.{Bool, false, ◌||◌}
use borrow.Author.Tests.{ltb-false}
use lib.Dec.{ltb}
use lib.ListN.{length}
use native.Mathlib.Omega.{arith}
use lib.Seq.{length-take-le}
use Rattle.std.proofs.lemmas.Result.{err_from_is_err_and}
use Rattle.finite.proofs.Tests.{or_parts}
use Rattle.plan.specs.Sizes.{max_items}
use Rattle.taskiter.proofs.Exported.{clear_taken, state_room, ready_short, ready_refused, ready_listed}
use Rattle.taskiter.proofs.try_ready.Goals.{Else-is_short-list}
use Rattle.taskiter.proofs.try_ready.Goals as goal

-- the slice for the items is long enough
room : (c : Else-is_short-list) → ltb (length c.args.list.now) max_items ≡ false
room c = (or_parts c.is_short.result _ c.if-is_short-list.false).1

pub returns-then-is_short-list : goal.returns-then-is_short-list
returns-then-is_short-list c =
    ready_short c.args.plan.now c.args.counts.now c.args.values.now c.args.list.now
    (ap (λ (t : Bool). t || ltb (length c.args.list.now) max_items) (sym c.is_short.ensures) ∙ c.if-is_short-list.true)

pub returns-in_err-n : goal.returns-in_err-n
returns-in_err-n c =
    let p = err_from_is_err_and c.from_residual.result c.from_residual.ensures.1 in
    rw (p.1, p.2) (ready_refused c.args.plan.now c.args.counts.now c.args.values.now c.args.list.now _ (room (goal.at.returns-in_err-n c).Else-is_short-list) _ c.in_err-n.ensures)

pub slice_bounds-new-end : goal.slice_bounds-new-end
slice_bounds-new-end c =
    sym (length-take-le _ c.args.plan.now (state_room c.args.plan.now c.args.counts.now c.args.values.now _ _ c.in_ok-n.ensures))

pub new-plan-requires : goal.new-plan-requires
new-plan-requires c =
    omega (arith, length-take-le _ c.args.plan.now (state_room c.args.plan.now c.args.counts.now c.args.values.now _ _ c.in_ok-n.ensures))

pub new-items-requires : goal.new-items-requires
new-items-requires c = let G = c.in_ok-n.ensures.clear.0 in (rw c.new-plan.ensures G, omega (arith, G.most))

pub ready_clear-requires : goal.ready_clear-requires
ready_clear-requires c =
    let B = c.in_ok-n.ensures in
    let e = c.new-items.ensures in
    (clear_taken _ _ (e.0 ∙ c.new-plan.ensures) e.1 (omega (arith, B.clear.0.most)) B.clear.1, ltb-false _ _ (room (goal.at.ready_clear-requires c).Else-is_short-list))

pub returns : goal.returns
returns c =
    ready_listed c.args.plan.now c.args.counts.now c.args.values.now c.args.list.now _ (room (goal.at.returns c).Else-is_short-list)
    _ c.in_ok-n.ensures _ _ (rw (c.new-items.ensures.0 ∙ c.new-plan.ensures) at c.ready_clear.ensures)
