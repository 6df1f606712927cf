use mathlib.Core.Path.{refl}
use Rattle.calls.proofs.Behind.{finish_beyond, finish_idle, finish_made, finish_asks, write_asks}
use Rattle.calls.proofs.finishes.finish_clear.Goals as goal

pub returns-then-items-item : goal.returns-then-items-item
returns-then-items-item c =
    finish_beyond _ c.args.counts.now _ _ c.args.items.now.drawn c.requires.0 c.args.values.now c.requires.1 _ c.if-items-item.true

pub returns-then-counts-a : goal.returns-then-counts-a
returns-then-counts-a c =
    finish_idle _ c.args.counts.now _ _ c.args.items.now.drawn c.requires.0 c.args.values.now c.requires.1 _ _ refl c.if-items-item.false c.if-counts-a.true

pub count_finish-requires : goal.count_finish-requires
count_finish-requires c =
    finish_asks _ c.args.counts.now _ _ c.args.items.now.drawn c.requires.0 c.args.values.now c.requires.1 _ _ refl c.if-items-item.false c.if-counts-a.false

pub write_item-requires : goal.write_item-requires
write_item-requires c =
    write_asks _ c.args.counts.now _ _ c.args.items.now.drawn c.requires.0 c.args.values.now c.requires.1 _ _ refl c.if-items-item.false c.if-counts-a.false _ c.from.ensures

pub returns : goal.returns
returns c =
    finish_made _ c.args.counts.now _ _ c.args.items.now.drawn c.requires.0 c.args.values.now c.requires.1 _ _ refl c.if-items-item.false c.if-counts-a.false
    _ _ _ c.count_finish.ensures c.write_item.ensures.0 c.write_item.ensures.1
