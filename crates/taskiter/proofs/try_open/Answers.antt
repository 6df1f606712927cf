use mathlib.Core.Path.{sym, ◌∙◌}
use borrow.Author.Tests.{leb-true}
use lib.Dec.{leb}
use lib.ListN.{length}
use native.Mathlib.Omega.{arith}
use lib.Seq.{length-take-le}
use Rattle.std.proofs.lemmas.Result.{err_from_is_err_and}
use Rattle.finite.proofs.Tests.{and-true}
use Rattle.plan.specs.Sizes.{count_words, value_words}
use Rattle.taskiter.proofs.Exported.{graph_room, door_long, open_refused, open_passed}
use Rattle.taskiter.proofs.try_open.Goals as goal

pub returns-in_err-n : goal.returns-in_err-n
returns-in_err-n c =
    let p = err_from_is_err_and c.from_residual.result c.from_residual.ensures.1 in
    rw (p.1, p.2) ((open_refused c.args.plan.now c.args.counts.now c.args.values.now _ _ _ c.in_err-n.ensures, c.in_err-n.ensures))

pub slice_bounds-new-end : goal.slice_bounds-new-end
slice_bounds-new-end c =
    let P = c.args.plan.now in
    sym (length-take-le _ P (graph_room P _ _ c.in_ok-n.ensures.clear))

pub new-plan-requires : goal.new-plan-requires
new-plan-requires c =
    let P = c.args.plan.now in
    omega (arith, length-take-le _ P (graph_room P _ _ c.in_ok-n.ensures.clear))

pub new-items-requires : goal.new-items-requires
new-items-requires c = let G = c.in_ok-n.ensures.clear in (rw c.new-plan.ensures G, omega (arith, G.most))

pub open_clear-requires : goal.open_clear-requires
open_clear-requires c =
    let C = c.args.counts.now in
    let W = c.args.values.now in
    let l = and-true (leb count_words (length C)) (leb value_words (length W)) (door_long c.args.plan.now _ _ _ _ c.in_ok-n.ensures) in
    (leb-true count_words (length C) l.0, leb-true value_words (length W) l.1)

pub returns : goal.returns
returns c =
    let P = c.args.plan.now in
    let B = c.in_ok-n.ensures in
    (open_passed P c.args.counts.now c.args.values.now (graph_room P _ _ B.clear) _ (rw (c.new-items.ensures.0 ∙ c.new-plan.ensures) at c.open_clear.ensures), B)
