use borrow.Author.Rules.{rules}
use Rattle.transfers.proofs.FlagsOf.{raise_fits}
use Rattle.transfers.proofs.set_bit.Goals as goal

pub overflow_cast-masks : goal.overflow_cast-masks
overflow_cast-masks c =
    record { fits = raise_fits _ _ _ c.requires.1 (search rules) c.if-mask-rank-eq0.true (search rules) }
