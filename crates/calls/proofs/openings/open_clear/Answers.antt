use Rattle.calls.proofs.Behind.{open_made}
use Rattle.calls.proofs.openings.open_clear.Goals as goal

pub returns : goal.returns
returns c =
    open_made _ _ _ c.args.items.now.drawn c.args.counts.now c.args.values.now c.requires.0 c.requires.1
    _ _ _ c.clear_counts.ensures c.open_numbers.ensures c.open_values.ensures
