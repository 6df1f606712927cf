use Prim.Native.Nat.{◌+◌, ◌-◌}
use mathlib.Core.Path.{sym, ap}
use native.Mathlib.Omega.{arith}
use borrow.Author.Rules.{rules}
use Rattle.finite.proofs.Below.{count_none}
use Rattle.waits.proofs.Unmet.{count_done}
use Rattle.plan.specs.Layout.{body_of}
use Rattle.graph.proofs.Lookup.{body_fits}
use Rattle.steps.specs.State.{done_by}
use Rattle.unmet.proofs.Marking.{count_turn, count_end}
use Rattle.unmet.proofs.count_unmet.Goals as goal

pub returns-then-passes-pass : goal.returns-then-passes-pass
returns-then-passes-pass c = sym (count_done _ _ _ _ (omega (arith, c.passes.ensures, c.if-passes-pass.true)))

pub loop-b-init : goal.loop-b-init
loop-b-init c = search (rules, count_none)

pub loop-b-preserved : goal.loop-b-preserved
loop-b-preserved c =
    let G = c.args.items.now.drawn in
    let l = c.args.counts.now in
    let has = c.passes.ensures in (
      search rules,
      count_turn (body_of c.args.items.now.plan.now) _ c.args.marks.now (body_fits _ _ _ G) G.count c.args.a c.requires.0 c.requires.1 l
          (omega (arith, has, c.if-passes-pass.false)) c.loop-b.b c.loop-b.count _ _ c.loop-b-test.true c.loop-b.invariant.1
          (ap (λ k. done_by l c.args.a + 1 - k) c.distance_of.ensures.0) c.unmet_of-count.ensures.0,
    )

pub returns : goal.returns
returns c =
    let G = c.args.items.now.drawn in
    let has = c.passes.ensures in
    count_end (body_of c.args.items.now.plan.now) _ c.args.marks.now (body_fits _ _ _ G) G.count c.args.a c.requires.0 c.requires.1 c.args.counts.now
    (omega (arith, has, c.if-passes-pass.false)) c.loop-b.b c.loop-b.count (search rules) (search rules) c.loop-b.invariant.1
