use Prim.Native.Nat.{◌<◌}
use mathlib.Core.Path.{◌≡◌, sym, subst}
use native.Mathlib.Omega.{arith}
use Rattle.plan.specs.Sizes.{max_items}
use Rattle.prepared.specs.Tables.{target_count, target_in}
use Rattle.engine.proofs.Lowered.{lowered_none, lowered_one, lowered_put, lowered_not, lowered_all, target_read}
use Rattle.engine.proofs.lowering.lower_targets.Goals as goal
use Rattle.engine.proofs.lowering.lower_targets.Goals.{then-lower_number, else-lower_number}
use Rattle.engine.proofs.lowering.lower_targets.Goals.{After-from-target}

pub loop-k-init : goal.loop-k-init
loop-k-init g c = (c.from-from.ensures, c.target_count-count.ensures, lowered_none _ _ _ c.requires.4.none)

-- the item that a turn lowers
target : (g : _) (c : After-from-target g) →
    (c.from-target.result ≡ target_in c.args.tables.now c.args.a c.loop-k.k) × (c.from-target.result < max_items)
target g c =
    let l = c.loop-k in
    target_read c.args.tables.now c.args.a c.requires.2 l.k _ _ (omega (arith, l.invariant.1, c.loop-k-test.true)) l.invariant.0 c.from-target.ensures

pub put-requires : goal.put-requires
put-requires g c =
    let l = c.loop-k in
    let t = target g (goal.at.put-requires g c).After-from-target in
    subst (λ b. g.F.Freed.can_put l.freed b) (sym t.0)
    (c.requires.4.each l.k l.freed (omega (arith, l.invariant.1, c.loop-k-test.true))
    (lowered_one (target_in c.args.tables.now c.args.a) c.args.counts.now c.args.freed.now l.k l.counts l.freed l.invariant.2 c.from-target.result t.0 c.lower_number.result c.lower_number.ensures.1 c.if-lower_number.true) l.invariant.2.freed)

pub loop-k-preserved : goal.loop-k-preserved
loop-k-preserved g c =
    let l = c.loop-k in
    let n = c.lower_number in
    let t = target g (goal.at.loop-k-preserved g c).After-from-target in (
      l.invariant.0,
      l.invariant.1,
      elim c.if-lower_number.branch [
        | then-lower_number w ↦
            rw w.freed-is
            (lowered_put _ _ _ l.k l.counts l.freed l.invariant.2 _ t.0 _ n.ensures.0 _ n.ensures.1 g.met.F.Freed.more w.if-lower_number.true _ w.put.ensures)
        | else-lower_number w ↦
            rw w.freed-is (lowered_not _ _ _ l.k l.counts l.freed l.invariant.2 _ t.0 _ n.ensures.0 _ n.ensures.1 w.if-lower_number.false)
      ],
    )

pub returns : goal.returns
returns g c =
    let l = c.loop-k in
    let L = lowered_all (target_in c.args.tables.now c.args.a) c.args.counts.now c.args.freed.now (target_count c.args.tables.now c.args.a) l.k l.counts l.freed
    l.invariant.2 (omega (arith, l.invariant.1, c.loop-k-test.false)) (omega (arith, l.invariant.1)) in
    (L.numbers, L.freed)
