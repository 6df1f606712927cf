use Rattle.runs.proofs.Taking.{prepared_as}
use Rattle.runs.proofs.Opened.{tables_made}
use Rattle.runs.proofs.run_opened.Goals as goal

pub take_turns-requires : goal.take_turns-requires
take_turns-requires c = (
  c.requires.0,
  prepared_as c.requires.0 _ (tables_made _ _ _ c.args.items.now.drawn _ _ c.make_tables.ensures),
  c.requires.1,
)
