use borrow.Author.Rules.{rules}
use Rattle.finite.proofs.Puts.{collect_none, collect_more}
use Rattle.items.proofs.Tasks.{accesses_fit}
use Rattle.items.proofs.put_accesses.Goals as goal

pub loop-a-init : goal.loop-a-init
loop-a-init c = search (rules, collect_none)

pub put_access-at-requires : goal.put_access-at-requires
put_access-at-requires c = search (rules, accesses_fit)

pub loop-a-preserved : goal.loop-a-preserved
loop-a-preserved c = search (rules, collect_more)
