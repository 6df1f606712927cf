use Rattle.ranges.proofs.Refusing.{early_short, early_many, early_beyond, early_none}
use Rattle.ranges.proofs.early_refusal.Goals as goal

pub returns-then-not-are_long : goal.returns-then-not-are_long
returns-then-not-are_long c =
    early_short c.args.plan c.args.tables.now c.args.counts c.args.values c.args.item _ c.are_long.ensures c.if-not-are_long.true-raw

pub returns-then-items-gt-MAX_ITEMS : goal.returns-then-items-gt-MAX_ITEMS
returns-then-items-gt-MAX_ITEMS c =
    early_many c.args.plan c.args.tables.now c.args.counts c.args.values c.args.item _ c.are_long.ensures c.if-not-are_long.false-raw _ c.from-items.ensures c.if-items-gt-MAX_ITEMS.true

pub returns-then-item-items : goal.returns-then-item-items
returns-then-item-items c =
    early_beyond c.args.plan c.args.tables.now c.args.counts c.args.values c.args.item _ c.are_long.ensures c.if-not-are_long.false-raw _ c.from-items.ensures c.if-items-gt-MAX_ITEMS.false c.if-item-items.true

pub returns : goal.returns
returns c =
    early_none c.args.plan c.args.tables.now c.args.counts c.args.values c.args.item _ c.are_long.ensures c.if-not-are_long.false-raw _ c.from-items.ensures c.if-items-gt-MAX_ITEMS.false c.if-item-items.false
