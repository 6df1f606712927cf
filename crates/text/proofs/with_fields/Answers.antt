use Rattle.text.proofs.SplitLaws.{end_more}
use Rattle.text.proofs.with_fields.Goals as goal

pub returns-in-End : goal.returns-in-End
returns-in-End c = rw (c.in-End.is, end_more 9 c.args.t.now)
