use Prim.Native.Nat.{◌+◌}
use mathlib.Core.Path.{ap}
use borrow.Author.Rules.{rules}
use Rattle.waits.proofs.Stored.{lower_none, lower_done}
use Rattle.plan.specs.Layout.{body_of}
use Rattle.steps.specs.State.{done_by}
use Rattle.unmet.proofs.Marking.{lower_turn}
use Rattle.unmet.proofs.lower_waits.Goals as goal

pub loop-a-init : goal.loop-a-init
loop-a-init c = search (rules, lower_none)

pub loop-a-preserved : goal.loop-a-preserved
loop-a-preserved c =
    let G = c.args.items.now.drawn in
    let w = c.args.items.now.plan.now in
    let l = c.args.counts.now in
    let turn = lower_turn (body_of w) _ c.args.marks.now c.args.b c.loop-a.a l _ _ _ _ c.requires.0 c.loop-a-test.true G.most c.requires.2
    c.loop-a.invariant.1 c.passes.ensures (ap (λ k. done_by l c.args.b + k) c.distance_of.ensures.0) c.lower_number.ensures in
    (turn.1, turn.2)

pub returns : goal.returns
returns c = search (rules, lower_done)
