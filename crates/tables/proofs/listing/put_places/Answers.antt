use mathlib.Core.Path.{refl}
use Rattle.tables.proofs.Listed.{rows_added}
use Rattle.tables.proofs.listing.put_places.Goals as goal

pub returns : goal.returns
returns c =
    rows_added _ _ _ _ _ _ refl c.requires c.list_places.ensures
