use mathlib.Core.Bool.{cond}
use mathlib.Core.Path.{◌≡◌, refl}
use borrow.Author.Rules.{rules}
use Rattle.tables.proofs.Listed.{moved_written, moved_few, moved_read}
use Rattle.tables.proofs.listing.list_moved.Goals as goal
use Rattle.tables.proofs.listing.list_moved.Goals.{then-receives, else-receives}

pub returns-then-write : goal.returns-then-write
returns-then-write c =
    let a = c.args in (
      moved_written a.receives a.write a.slot a.copy _ _ _ _ c.if-write.true refl c.put_place.ensures,
      moved_few a.receives a.write a.slot a.copy c.args.slot a.row.now _ _ c.put_place.ensures,
    )

pub returns : goal.returns
returns c =
    let a = c.args in
    let place : c.if-receives.place ≡ cond a.receives a.slot a.copy =
    elim c.if-receives.branch [
      | then-receives w ↦ rw w.if-receives.true w.place-is
      | else-receives w ↦ rw w.if-receives.false w.place-is
    ] in
    (moved_read a.receives a.write a.slot a.copy _ _ c.if-write.false place, search rules)
