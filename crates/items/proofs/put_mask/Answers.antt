use native.Mathlib.Omega.{arith}
use borrow.Author.Rules.{rules}
use Rattle.finite.proofs.Bits.{cleared_less}
use Rattle.finite.proofs.Puts.{left_none}
use Rattle.items.proofs.Masks.{mask_none, lowest_rank, mask_fits, mask_more}
use Rattle.items.proofs.put_mask.Goals as goal

pub put_pair-at-requires : goal.put_pair-at-requires
put_pair-at-requires c = search (rules, lowest_rank, mask_fits)

pub loop-rest-preserved : goal.loop-rest-preserved
loop-rest-preserved c =
    let turn = c.loop-rest in
    (omega (arith, cleared_less turn.rest (search rules), turn.invariant.0), search (rules, mask_more))

pub returns : goal.returns
returns c = search (rules, left_none, mask_none)
