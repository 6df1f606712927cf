use Rattle.engine.proofs.Rows.{started_by}
use Rattle.engine.proofs.starts.start_item.Goals as goal

pub returns : goal.returns
returns c = (
  started_by c.args.plan.now c.args.tables.now c.args.counts.now c.args.values.now c.args.a _ _ _ (c.item_word-word.ensures.0 c.args.counts.now)
      c.hold_word.ensures.0 c.hold_word.ensures.1,
  c.item_word-word.ensures.1,
)
