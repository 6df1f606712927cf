use Rattle.ranges.proofs.Refusing.{known_finish_beyond, known_finish}
use Rattle.ranges.proofs.finish_refusal_known.Goals as goal

pub returns-then-item-wide_16 : goal.returns-then-item-wide_16
returns-then-item-wide_16 c =
    λ room values.
    known_finish_beyond c.args.plan.now c.args.tables.now c.args.counts.now c.requires.0 c.requires.1 c.requires.2 c.args.item room values _ c.wide_16.ensures.0 c.if-item-wide_16.true

pub returns : goal.returns
returns c =
    λ room values.
    known_finish c.args.plan.now c.args.tables.now c.args.counts.now c.requires.0 c.requires.1 c.requires.2 c.args.item room values _ c.wide_16.ensures.0
    c.if-item-wide_16.false _ c.as_index.ensures _ c.item_of.ensures _ c.finish_by.ensures
