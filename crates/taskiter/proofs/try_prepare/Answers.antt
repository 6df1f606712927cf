use mathlib.Core.Path.{sym, ◌∙◌}
use borrow.Author.Tests.{leb-true}
use lib.ListN.{length}
use native.Mathlib.Omega.{arith}
use lib.Seq.{length-take-le}
use Rattle.std.proofs.lemmas.Result.{err_from_is_err_and}
use Rattle.prepared.specs.Tables.{prepared_words}
use Rattle.taskiter.proofs.Exported.{graph_room, door_long}
use Rattle.taskiter.proofs.Stepped.{prepare_refused, prepare_made}
use Rattle.taskiter.proofs.try_prepare.Goals as goal

pub returns-in_err-n : goal.returns-in_err-n
returns-in_err-n c =
    let p = err_from_is_err_and c.from_residual.result c.from_residual.ensures.1 in
    rw (p.1, p.2) (prepare_refused c.args.plan.now c.args.tables.now _ _ _ c.in_err-n.ensures)

pub slice_bounds-new-end : goal.slice_bounds-new-end
slice_bounds-new-end c =
    let P = c.args.plan.now in
    sym (length-take-le _ P (graph_room P _ _ c.in_ok-n.ensures.clear))

pub new-plan-requires : goal.new-plan-requires
new-plan-requires c =
    let P = c.args.plan.now in
    omega (arith, length-take-le _ P (graph_room P _ _ c.in_ok-n.ensures.clear))

pub new-requires : goal.new-requires
new-requires c = let G = c.in_ok-n.ensures.clear in (rw c.new-plan.ensures G, omega (arith, G.most))

pub make_tables-requires : goal.make_tables-requires
make_tables-requires c =
    leb-true prepared_words (length c.args.tables.now) (door_long c.args.plan.now _ _ _ _ c.in_ok-n.ensures)

pub returns : goal.returns
returns c =
    let P = c.args.plan.now in
    let B = c.in_ok-n.ensures in
    prepare_made P c.args.tables.now _ _ B.clear (graph_room P _ _ B.clear)
    (leb-true prepared_words (length c.args.tables.now) (door_long P _ _ _ _ B)) _ (rw (c.new.ensures.0 ∙ c.new-plan.ensures) at c.make_tables.ensures)
