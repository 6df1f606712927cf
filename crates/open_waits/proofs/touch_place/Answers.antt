use mathlib.Core.Path.{refl}
use native.Mathlib.Omega.{arith}
use Rattle.open_waits.proofs.Marks.{placed_write, placed_read}
use Rattle.open_waits.proofs.touch_place.Goals as goal

pub mark_chain-sum-requires : goal.mark_chain-sum-requires
mark_chain-sum-requires c =
    let links = c.requires.0 in
    (links.nexts_size, links.next_most, omega (arith, c.from.ensures, links.head_most c.args.x, c.requires.2), c.requires.3)

pub returns-then-writes : goal.returns-then-writes
returns-then-writes c =
    placed_write _ _ _ _ _ _ _ _ c.args.nexts.now c.args.seen.now _ _ refl
    c.mark_chain-sum.ensures c.if-writes.true c.from.ensures

pub mark_chain-sum-requires-2 : goal.mark_chain-sum-requires-2
mark_chain-sum-requires-2 c =
    let links = c.requires.0 in
    (links.nexts_size, links.next_most, omega (arith, c.from-2.ensures, links.head_most c.args.x, links.writer_most c.args.x, c.requires.2), c.requires.3)

pub returns : goal.returns
returns c =
    placed_read _ _ _ _ _ _ _ _ c.args.nexts.now c.args.seen.now _ _ refl
    c.mark_chain-sum-2.ensures c.if-writes.false c.from-2.ensures
