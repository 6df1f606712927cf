use mathlib.Core.Path.{refl}
use Rattle.ranges.proofs.Refusing.{known_start_beyond, known_start}
use Rattle.ranges.proofs.start_refusal_known.Goals as goal

pub returns-then-item-from : goal.returns-then-item-from
returns-then-item-from c =
    λ room values.
    known_start_beyond c.args.plan.now c.args.tables.now c.args.counts.now c.requires.0 c.words.ensures.1 c.requires.1 c.args.item room values _ c.from.ensures c.if-item-from.true

pub returns : goal.returns
returns c =
    λ room values.
    known_start c.args.plan.now c.args.tables.now c.args.counts.now c.requires.0 c.words.ensures.1 c.requires.1 c.args.item room values _ c.from.ensures
    c.if-item-from.false _ refl _ c.item_of.ensures _ c.start_by.ensures
