use mathlib.Core.Path.{sym}
use native.Mathlib.Omega.{arith}
use borrow.Author.Rules.{rules}
use Rattle.finite.proofs.Puts.{added_same, room_same, collect_none, collect_more}
use Rattle.tables.proofs.Listed.{used_at, used_at_lem, used_few, used_fits, used_done}
use Rattle.tables.proofs.listing.list_task.Goals as goal

pub loop-k-init : goal.loop-k-init
loop-k-init c = search (rules, collect_none)

pub put_place-at-requires : goal.put_place-at-requires
put_place-at-requires c =
    let P = c.args.plan.now in (
      room_same
          (sym (used_at_lem P c.args.write c.args.i c.args.first c.loop-k.k _ _ _ c.access-access.ensures c.access_region.ensures.0
          c.uses_region.ensures))
          (used_fits P c.args.write c.args.i c.args.first c.loop-k.k _ _ _ c.loop-k.invariant.1 (search rules) (search rules)),
      search rules,
    )

pub loop-k-preserved : goal.loop-k-preserved
loop-k-preserved c =
    let P = c.args.plan.now in (
      search rules,
      collect_more (used_at P c.args.write c.args.i c.args.first) 0 c.loop-k.k _ _ _ _ _ c.loop-k.invariant.1
          (added_same
          (used_at_lem P c.args.write c.args.i c.args.first c.loop-k.k _ _ _ c.access-access.ensures c.access_region.ensures.0
          c.uses_region.ensures)
          c.put_place-at.ensures),
    )

pub returns : goal.returns
returns c =
    let l = c.loop-k in
    let few = used_few c.args.plan.now c.args.write c.args.i c.args.first _ _ _ _ l.invariant.1 in
    (used_done _ _ _ _ _ _ _ _ l.invariant.1 (search rules), omega (arith, few, c.requires.0.few, l.invariant.0.most, l.invariant.0.all))
