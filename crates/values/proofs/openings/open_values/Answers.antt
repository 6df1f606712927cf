use Rattle.values.proofs.Opening.{values_opened}
use Rattle.values.proofs.openings.open_values.Goals as goal

pub returns : goal.returns
returns c = values_opened _ _ _ c.args.items.now.drawn _ _ _ c.set_copies.ensures c.clear_words.ensures
