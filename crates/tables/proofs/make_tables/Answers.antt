use Rattle.tables.proofs.Filled.{tables_filled}
use Rattle.tables.proofs.make_tables.Goals as goal

pub returns : goal.returns
returns c =
    tables_filled _ _ _ _ _ c.requires c.put_graph.ensures c.put_places.ensures c.put_places-2.ensures
