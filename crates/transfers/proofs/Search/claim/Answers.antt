use borrow.Author.Rules.{rules}
use Rattle.transfers.proofs.Marks.{claimed_yes, claimed_no}
use Rattle.transfers.proofs.Search.claim.Goals as goal

pub returns-then-reads-source : goal.returns-then-reads-source
returns-then-reads-source c = search (rules, claimed_yes)

pub returns-else-reads-source : goal.returns-else-reads-source
returns-else-reads-source c = search (rules, claimed_no)
