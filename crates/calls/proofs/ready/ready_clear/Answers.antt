use mathlib.Core.Path.{sym}
use borrow.Author.Rules.{rules}
use lib.ListN.{length}
use Rattle.finite.proofs.Puts.{added_same, room_same, room_start, collect_none, collect_fits, collect_more, collect_done}
use Rattle.plan.specs.Layout.{body_of}
use Rattle.calls.proofs.Readying.{ready_at, ready_at_lem, ready_room, ready_put}
use Rattle.calls.proofs.ready.ready_clear.Goals as goal

pub loop-a-init : goal.loop-a-init
loop-a-init c = search (rules, collect_none)

pub put_item-at-requires : goal.put_item-at-requires
put_item-at-requires c =
    let B = body_of c.args.items.now.plan.now in
    let C = c.args.counts.now in
    let n = length c.args.items.now.codes.now in
    let room = ready_room B C n c.args.list.now c.args.items.now.drawn.most c.requires.1 in (
      room_same (sym (ready_at_lem B C c.loop-a.a _ _ c.passes.ensures c.may_start-ready.ensures))
          (collect_fits (ready_at B C) 0 n c.loop-a.a _ _ _ (room_start room) c.loop-a.invariant c.loop-a-test.true),
      search rules,
    )

pub loop-a-preserved : goal.loop-a-preserved
loop-a-preserved c =
    let B = body_of c.args.items.now.plan.now in
    let C = c.args.counts.now in
    collect_more (ready_at B C) 0 c.loop-a.a _ _ _ _ _ c.loop-a.invariant
    (added_same (ready_at_lem B C c.loop-a.a _ _ c.passes.ensures c.may_start-ready.ensures) c.put_item-at.ensures)

pub returns : goal.returns
returns c =
    ready_put _ c.args.counts.now _ _ c.args.items.now.drawn c.requires.0 _ _ _ c.requires.1
    (collect_done (ready_at _ c.args.counts.now) 0 _ _ _ _ _ c.loop-a.invariant (search rules) (search rules))
