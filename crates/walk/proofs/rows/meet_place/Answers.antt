use borrow.Author.Rules.{rules}
use Rattle.walk.proofs.Meeting.{meets_place}
use Rattle.walk.proofs.rows.meet_place.Goals as goal

pub returns : goal.returns
returns c =
    meets_place _ _ _ c.requires.0 (search rules) _ _ (search rules) (search rules)
