use Rattle.transfers.proofs.Places.{base_word}
use Rattle.transfers.proofs.base_of.Goals as goal

pub returns : goal.returns
returns c = base_word c.args.t c.args.rank c.bit_of.result c.requires.0 c.bit_of.ensures.0 c.bit_of.ensures.1
