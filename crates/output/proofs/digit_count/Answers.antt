use borrow.Author.Rules.{rules}
use Rattle.output.proofs.Numbers.{counted_none, counted_more_lem}
use Rattle.output.proofs.digit_count.Goals as goal

pub loop-rest-init : goal.loop-rest-init
loop-rest-init c = search (rules, counted_none)

pub loop-rest-preserved : goal.loop-rest-preserved
loop-rest-preserved c = search (rules, counted_more_lem)
