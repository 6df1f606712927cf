use Rattle.std.proofs.Common.{rules}
use Rattle.kernels.proofs.Laws.{sum_none, sum_more, sum_done}
use Rattle.kernels.proofs.sum_word.Goals as goal

pub loop-i-init : goal.loop-i-init
loop-i-init c = search (rules, sum_none)

pub loop-i-preserved : goal.loop-i-preserved
loop-i-preserved c = search (rules, sum_more)

pub returns : goal.returns
returns c = search (rules, sum_done)
