use Rattle.items.proofs.Coding.{coded, table_made}
use Rattle.items.proofs.make_table.Goals as goal

pub invariant_of-wanted : goal.invariant_of-wanted
invariant_of-wanted c =
    record { coded = coded _ _ _ _ _ _ c.requires.0 c.find_masks.ensures c.if-not-find_masks.false-raw }

pub returns : goal.returns
returns c =
    table_made _ _ _ _ _ _ c.requires.0 c.find_masks.ensures c.if-not-find_masks.false-raw _ _ _ c.put_items.ensures
