use Prim.Native.Nat.{◌<◌}
use mathlib.Core.Path.{◌∙◌, ap}
use native.Mathlib.Omega.{arith}
use borrow.Author.Rules.{rules}
use lib.ListN.{length}
use Rattle.plan.specs.Layout.{access_region, writes, region_at, is_written}
use Rattle.graph.proofs.Accesses.{region_within}
use Rattle.values.proofs.Writing.{written_none, written_more}
use Rattle.values.proofs.places.write_task.Goals as goal
use Rattle.values.proofs.places.write_task.Goals.{After-access_region}

pub loop-k-init : goal.loop-k-init
loop-k-init c = search (rules, written_none)

-- the region of the access at hand lies in the part
near : (c : After-access_region) → c.access_region.result < length c.args.copies.now
near c =
    let at = region_within _ _ c.loop-k.k _ c.requires.0 (search rules) c.access-access.ensures in
    omega (arith, c.access_region.ensures.0, at, c.requires.1)

pub loop-k-preserved : goal.loop-k-preserved
loop-k-preserved c =
    let P = c.args.plan.now in
    let l = c.loop-k in
    let at = c.access-access.ensures in (
      search rules,
      written_more (is_written P c.args.i) (region_at P c.args.i) c.args.word c.args.copies.now l.k _ _ _ _ l.invariant.1 (near (goal.at.loop-k-preserved c).After-access_region)
          (c.access_region.ensures.0 ∙ ap access_region at) (c.writes_region.ensures ∙ ap writes at) c.put_if.ensures,
    )
