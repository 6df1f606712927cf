use borrow.Author.Rules.{rules}
use Rattle.finite.proofs.Puts.{added_put, collect_none, collect_more, collect_done}
use Rattle.walk.proofs.Listing.{numbers_room, numbers_fit}
use Rattle.walk.proofs.list.put_edges.Goals as goal

pub loop-a-init : goal.loop-a-init
loop-a-init c = search (rules, collect_none)

pub put_from-at-requires : goal.put_from-at-requires
put_from-at-requires c = search (rules, numbers_fit)

pub loop-a-preserved : goal.loop-a-preserved
loop-a-preserved c = search (rules, collect_more)

pub returns : goal.returns
returns c = added_put (search (rules, numbers_room)) (search (rules, collect_done))
