use mathlib.Core.Path.{refl}
use borrow.Author.Rules.{rules}
use Rattle.transfers.proofs.Closing.{masks_served, wrapped_served, total_served, masks_kept, wrapped_kept, total_kept, masks_none, wrapped_none, total_none}
use Rattle.transfers.proofs.Served.{late_apart}
use Rattle.transfers.proofs.Search.close_region.Goals as goal

pub serve-requires : goal.serve-requires
serve-requires c = (c.requires.0, c.if-at-lt-PLAN_MASKS.true, c.late_of-late.ensures.1, late_apart _ _ _ _ _ c.from-then-at-lt-PLAN_MASKS.ensures c.late_of-late.ensures.0)

pub returns-then-not-late-clause-closed : goal.returns-then-not-late-clause-closed
returns-then-not-late-clause-closed c = search (rules, masks_served, wrapped_served, total_served)

pub returns-else-not-late-clause-closed : goal.returns-else-not-late-clause-closed
returns-else-not-late-clause-closed c =
    let a = c.from.ensures in
    let f = c.from-then-at-lt-PLAN_MASKS.ensures in
    let x = c.late_of-late.ensures.0 in (
      masks_kept _ _ _ _ refl c.if-at-lt-PLAN_MASKS.true _ _ _ a f x c.if-not-late.false-raw,
      wrapped_kept _ _ _ _ refl c.if-at-lt-PLAN_MASKS.true _ _ _ a f x _ c.if-not-late.false-raw,
      total_kept _ _ _ _ refl c.if-at-lt-PLAN_MASKS.true _ _ _ a f x _ c.if-not-late.false-raw,
    )

pub returns-else-at-lt-PLAN_MASKS-clause-closed : goal.returns-else-at-lt-PLAN_MASKS-clause-closed
returns-else-at-lt-PLAN_MASKS-clause-closed c = search (rules, masks_none, wrapped_none, total_none)
