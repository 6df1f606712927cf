use borrow.Author.Rules.{rules}
use Rattle.unmet.proofs.Marking.{distance_by}
use Rattle.unmet.proofs.distance_of.Goals as goal

pub returns : goal.returns
returns c = let d = distance_by c.args.b c.args.a in search rules
