use borrow.Author.Rules.{rules}
use Rattle.writer.proofs.Sizes.{sum_none, sum_more}
use Rattle.writer.proofs.lengths.starts_length.Goals as goal

pub loop-g-init : goal.loop-g-init
loop-g-init c = search (rules, sum_none)

pub loop-g-preserved : goal.loop-g-preserved
loop-g-preserved c = search (rules, sum_more)
