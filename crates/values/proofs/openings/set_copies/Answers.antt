use native.Mathlib.Omega.{arith}
use borrow.Author.Rules.{rules}
use Rattle.body.specs.Places.{initial}
use Rattle.plan.specs.Layout.{body_of}
use Rattle.values.proofs.Plans.{start_room}
use Rattle.values.proofs.Opening.{filled_none, filled_more, copy_starts}
use Rattle.values.proofs.openings.set_copies.Goals as goal

pub loop-x-init : goal.loop-x-init
loop-x-init c = search (rules, filled_none)

pub start-requires : goal.start-requires
start-requires c = start_room c.args.plan.now c.requires.0 _ _ c.regions-regions.ensures

pub loop-x-preserved : goal.loop-x-preserved
loop-x-preserved c =
    let l = c.loop-x in
    filled_more (initial (body_of c.args.plan.now)) c.args.values.now _ l.x _ l.invariant (omega arith)
    (copy_starts (body_of c.args.plan.now) l.x _ _ (omega (arith, c.copy_count-count.ensures.0)) c.regions-regions.ensures c.start.ensures)
