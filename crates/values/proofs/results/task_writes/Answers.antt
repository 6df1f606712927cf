use mathlib.Core.Bool.{Bool, false, ◌&&◌, and-false}
use mathlib.Core.Path.{◌≡◌, ◌∙◌, ap, ap₂, sym}
use native.Mathlib.Omega.{arith}
use borrow.Author.Tests.{eq-eqb, ne_eqb}
use lib.Dec.{eqb}
use Rattle.finite.proofs.Below.{any_none, any_next}
use Rattle.plan.specs.Layout.{access_region, writes, region_at, is_written}
use Rattle.values.proofs.Plans.{task_room}
use Rattle.values.proofs.Resulting.{writes_here, written_here, written_nowhere}
use Rattle.values.proofs.results.task_writes.Goals as goal
use Rattle.values.proofs.results.task_writes.Goals.{Joined-else-writes_region, else-writes_region-via-then-writes_region+else-access_region-g, else-writes_region-via-else-writes_region}

pub access_count-k-end-requires : goal.access_count-k-end-requires
access_count-k-end-requires c = (task_room c.args.plan.now c.requires.0 c.args.i c.requires.1).0

pub loop-k-init : goal.loop-k-init
loop-k-init c = sym (any_none _)

pub access-access-requires : goal.access-access-requires
access-access-requires c =
    let room = task_room c.args.plan.now c.requires.0 c.args.i c.requires.1 in
    (room.0, omega (arith, room.1, c.loop-k-test.true, c.access_count-k-end.ensures))

pub returns-then-access_region-g : goal.returns-then-access_region-g
returns-then-access_region-g c =
    let P = c.args.plan.now in
    let at = c.access-access.ensures in
    let writes-one = ap writes (sym at) ∙ (sym c.writes_region.ensures ∙ c.if-writes_region.true) in
    let same = eq-eqb c.args.g (region_at P c.args.i c.loop-k.k) (sym c.if-access_region-g.true ∙ (c.access_region.ensures.0 ∙ ap access_region at)) in
    written_here P c.args.i c.args.g c.loop-k.k (omega (arith, c.loop-k-test.true, c.access_count-k-end.ensures)) (ap₂ ◌&&◌ writes-one same)

-- the access at hand is not one that writes the region
other : (c : Joined-else-writes_region) → writes_here c.args.plan.now c.args.i c.args.g c.loop-k.k ≡ false
other c =
    elim c.else-writes_region.branch [
      | else-writes_region-via-then-writes_region+else-access_region-g w ↦
          rw (ne_eqb c.args.g (region_at c.args.plan.now c.args.i c.loop-k.k) (λ e. w.if-access_region-g.false (w.access_region.ensures.0 ∙ (ap access_region c.access-access.ensures ∙ sym e)))) (and-false (is_written c.args.plan.now c.args.i c.loop-k.k))
      | else-writes_region-via-else-writes_region w ↦
          ap (λ (b : Bool). b && eqb c.args.g (region_at c.args.plan.now c.args.i c.loop-k.k)) (ap writes (sym c.access-access.ensures) ∙ (sym c.writes_region.ensures ∙ w.if-writes_region.false))
    ]

pub loop-k-preserved : goal.loop-k-preserved
loop-k-preserved c =
    any_next (writes_here c.args.plan.now c.args.i c.args.g) c.loop-k.k ∙ (rw (c.loop-k.invariant, other (goal.at.loop-k-preserved c).Joined-else-writes_region))

pub returns : goal.returns
returns c =
    written_nowhere c.args.plan.now c.args.i c.args.g c.loop-k.k (omega (arith, c.loop-k-test.false, c.loop-k.auto.k-end, c.access_count-k-end.ensures)) c.loop-k.invariant
