use Prim.Native.Nat.{◌-◌}
use mathlib.Core.Path.{refl}
use native.Mathlib.Omega.{arith}
use borrow.Author.Rules.{rules}
use Rattle.open_waits.proofs.Marks.{left_more, left_none}
use Rattle.open_waits.proofs.mark_chain.Goals as goal

pub loop-left-init : goal.loop-left-init
loop-left-init c = (search rules, search rules, λ b l. refl)

pub mark_item-sum-requires : goal.mark_item-sum-requires
mark_item-sum-requires c = search rules

pub loop-left-smaller : goal.loop-left-smaller
loop-left-smaller c =
    omega (arith, c.from-left.ensures, c.requires.1 (c.loop-left.left - 1), c.loop-left-test.true)

pub loop-left-preserved : goal.loop-left-preserved
loop-left-preserved c =
    let next = c.requires.1 (c.loop-left.left - 1) in
    let is = c.mark_item-sum.ensures in (
      omega (arith, c.from-left.ensures, next, c.loop-left.invariant.0),
      is.0,
      left_more c.args.nexts.now c.args.mark c.args.seen.now c.args.link c.loop-left.seen c.mark_item-sum.new.seen _ _ _ _ c.loop-left.invariant.2 c.loop-left-test.true refl next refl is.1 c.from-left.ensures,
    )

pub returns : goal.returns
returns c = search (rules, left_none)
