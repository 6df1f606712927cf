use borrow.Author.Rules.{rules}
use Rattle.finite.proofs.Puts.{copy_none, copy_more, copy_done}
use Rattle.output.proofs.put_bytes.Goals as goal

pub loop-i-init : goal.loop-i-init
loop-i-init c = search (rules, copy_none)

pub loop-i-preserved : goal.loop-i-preserved
loop-i-preserved c = search (rules, copy_more)

pub returns : goal.returns
returns c = search (rules, copy_done)
