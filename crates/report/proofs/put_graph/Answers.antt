use native.Mathlib.Omega.{arith}
use Rattle.finite.proofs.Puts.{room_behind, put_behind}
use Rattle.lines.specs.Tables.{table_lines, list_lines}
use Rattle.report.proofs.Joined.{part_start, room_first, sum_most}
use Rattle.report.proofs.put_graph.Goals as goal

pub put_items-at-requires : goal.put_items-at-requires
put_items-at-requires c =
    (c.requires.0, room_first (table_lines c.args.table.now c.args.items) (list_lines c.args.list.now c.args.edges) c.args.out.now c.requires.2)

pub slice_bounds-put_edges-count : goal.slice_bounds-put_edges-count
slice_bounds-put_edges-count c = part_start _ _ _ _ c.put_items-at.ensures

pub put_edges-requires : goal.put_edges-requires
put_edges-requires c =
    (c.requires.1, room_behind _ (list_lines c.args.list.now c.args.edges) _ _ _ c.put_items-at.ensures c.requires.2)

pub overflow_add-result : goal.overflow_add-result
overflow_add-result c =
    omega (arith, sum_most _ _ c.args.out.now c.requires.2 _ _ c.put_items-at.ensures _ _ c.put_edges.ensures)

pub returns : goal.returns
returns c =
    put_behind _ _ _ _ _ c.put_items-at.ensures _ _ c.put_edges.ensures
