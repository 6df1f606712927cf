use native.Mathlib.Omega.{arith}
use borrow.Author.Rules.{rules}
use Rattle.writer.proofs.Sizes.{in_length, out_length, inout_length}
use Rattle.writer.proofs.lengths.access_length.Goals as goal

pub returns-then-access-eq0 : goal.returns-then-access-eq0
returns-then-access-eq0 c = (omega (arith, in_length c.args.access c.if-access-eq0.true, c.digit_count-region.ensures.0), search rules)

pub returns-then-access-eq1 : goal.returns-then-access-eq1
returns-then-access-eq1 c = (omega (arith, out_length c.args.access c.if-access-eq1.true, c.digit_count-region.ensures.0), search rules)

pub returns : goal.returns
returns c = (omega (arith, inout_length c.args.access c.if-access-eq0.false c.if-access-eq1.false, c.digit_count-region.ensures.0), search rules)
