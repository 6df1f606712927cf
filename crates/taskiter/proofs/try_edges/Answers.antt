use mathlib.Core.Path.{refl, sym, ◌∙◌}
use borrow.Author.Tests.{leb-true}
use lib.ListN.{length}
use native.Mathlib.Omega.{arith}
use lib.Seq.{length-take-le}
use Rattle.std.proofs.lemmas.Result.{err_from_is_err_and}
use Rattle.plan.specs.Sizes.{edge_words}
use Rattle.taskiter.proofs.Exported.{graph_room, edges_refused, edges_listed, door_long}
use Rattle.taskiter.proofs.try_edges.Goals as goal

pub returns-in_err-n : goal.returns-in_err-n
returns-in_err-n c =
    let p = err_from_is_err_and c.from_residual.result c.from_residual.ensures.1 in
    rw (p.1, p.2) (edges_refused c.args.plan.now c.args.list.now _ _ _ c.in_err-n.ensures)

pub slice_bounds-new-end : goal.slice_bounds-new-end
slice_bounds-new-end c =
    let P = c.args.plan.now in
    sym (length-take-le _ P (graph_room P _ _ c.in_ok-n.ensures.clear))

pub new-plan-requires : goal.new-plan-requires
new-plan-requires c =
    let P = c.args.plan.now in
    omega (arith, length-take-le _ P (graph_room P _ _ c.in_ok-n.ensures.clear))

pub new-items-requires : goal.new-items-requires
new-items-requires c = let G = c.in_ok-n.ensures.clear in (rw c.new-plan.ensures G, omega (arith, G.most))

pub list_edges-requires : goal.list_edges-requires
list_edges-requires c =
    leb-true edge_words (length c.args.list.now) (door_long c.args.plan.now _ _ _ _ c.in_ok-n.ensures)

pub returns : goal.returns
returns c =
    let P = c.args.plan.now in
    let B = c.in_ok-n.ensures in
    edges_listed P c.args.list.now B.clear.formed (graph_room P _ _ B.clear)
    (leb-true edge_words (length c.args.list.now) (door_long P _ _ _ _ B)) _ _ _ (rw (c.new-items.ensures.0 ∙ c.new-plan.ensures) at c.list_edges.ensures) refl
