use borrow.Author.Rules.{rules}
use Rattle.walk.proofs.Listing.{from_fits, from_added}
use Rattle.walk.proofs.list.put_from.Goals as goal

pub put_row-requires : goal.put_row-requires
put_row-requires c = search (rules, from_fits)

pub returns : goal.returns
returns c = search (rules, from_added)
