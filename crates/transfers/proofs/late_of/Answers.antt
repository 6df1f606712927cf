use Rattle.transfers.proofs.Places.{late_word}
use Rattle.transfers.proofs.late_of.Goals as goal

pub returns : goal.returns
returns c = late_word c.args.ahead c.args.source c.args.forward c.requires.0 c.requires.1
