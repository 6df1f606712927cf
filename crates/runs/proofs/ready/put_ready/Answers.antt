use Prim.Native.Nat.{◌+◌, ◌<◌}
use native.Mathlib.Omega.{arith}
use borrow.Author.Rules.{rules}
use Rattle.plan.specs.Sizes.{max_items}
use Rattle.masks.specs.Masks.{Entered}
use Rattle.runs.proofs.Readying.{ready_below, below_none, below_out, below_more, below_less, below_done}
use Rattle.runs.proofs.ready.put_ready.Goals as goal
use Rattle.runs.proofs.ready.put_ready.Goals.{then-is_ready, else-is_ready}

pub loop-b-init : goal.loop-b-init
loop-b-init c =
    let E = below_none _ _ _ c.args.items.now.drawn c.args.counts.now c.args.words.now c.requires.1 in
    (E.size, E)

pub insert-requires : goal.insert-requires
insert-requires c =
    let l = c.loop-b in
    let b : l.b < max_items = omega (arith, c.loop-b-test.true, c.args.items.now.drawn.most) in
    (l.invariant.0, b, below_out _ _ _ c.args.items.now.drawn c.args.counts.now c.args.words.now l.words c.requires.1 l.b l.invariant.1 b)

pub returns : goal.returns
returns c =
    let l = c.loop-b in
    below_done _ _ _ c.args.items.now.drawn c.args.counts.now c.args.words.now l.words c.requires.1 l.b l.invariant.1 (search rules) (search rules)

pub loop-b-preserved : goal.loop-b-preserved
loop-b-preserved c =
    let l = c.loop-b in
    let r = c.is_ready in
    let E : Entered c.args.words.now (ready_below c.args.items.now.plan.now c.args.counts.now (l.b + 1)) c.if-is_ready.words =
    elim c.if-is_ready.branch [
      | then-is_ready w ↦
          rw w.words-is (below_more _ _ _ c.args.items.now.drawn c.args.counts.now c.args.words.now l.words c.requires.1 l.b l.invariant.1 _ _ r.ensures w.if-is_ready.true w.insert.ensures)
      | else-is_ready w ↦
          rw w.words-is (below_less _ _ _ c.args.items.now.drawn c.args.counts.now c.args.words.now l.words c.requires.1 l.b l.invariant.1 _ r.ensures w.if-is_ready.false)
    ] in
    (E.size, E)
