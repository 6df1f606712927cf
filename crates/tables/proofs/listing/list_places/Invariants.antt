use mathlib.Core.Path.{◌≡◌}
use lib.ListN.{length}
use Rattle.plan.specs.Layout.{body_of}
use Rattle.prepared.specs.Tables.{list_words, padded}
use Rattle.tables.specs.Rows.{places_of, rows_before}
use Rattle.tables.proofs.listing.list_places.Given as goal

abbrev pub invariant-loop-a : goal.invariant-loop-a
invariant-loop-a l =
    (length l.table ≡ list_words) × (l.table ≡ padded list_words (rows_before (places_of (body_of l.items.plan.now) l.write) l.a))
