use borrow.Author.Rules.{rules}
use Rattle.tables.proofs.Targeted.{passed_block}
use Rattle.tables.proofs.targets.skip_blocks.Goals as goal

pub loop-at-preserved : goal.loop-at-preserved
loop-at-preserved c = search (rules, passed_block)
