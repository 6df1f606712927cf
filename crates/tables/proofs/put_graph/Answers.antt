use mathlib.Core.Path.{refl}
use native.Mathlib.Omega.{arith}
use Rattle.tables.proofs.Filled.{graph_added}
use Rattle.tables.proofs.put_graph.Goals as goal

pub returns : goal.returns
returns c =
    let G = c.args.items.now.drawn in
    graph_added _ c.args.items.now.codes.now _ G _ _ _ _ c.list_targets-count.ensures c.args.tables.now _ _ _ _ _
    (omega arith) refl
    c.put_part.ensures c.put_part-2.ensures c.put_part-3.ensures c.put_part-4.ensures
