use mathlib.Core.Path.{refl}
use mathlib.Core.List.{[]}
use native.Mathlib.Omega.{arith}
use borrow.Author.Rules.{rules}
use lib.ListN.{length-set}
use Rattle.body.specs.Places.{result_of}
use Rattle.plan.specs.Layout.{body_of, regions_of}
use Rattle.steps.specs.State.{state_of}
use Rattle.values.proofs.Plans.{facts}
use Rattle.values.proofs.Opening.{filled_none, filled_more, filled_done}
use Rattle.runs.proofs.shown.put_results.Goals as goal

pub loop-g-init : goal.loop-g-init
loop-g-init c =
    let e = c.regions-regions.ensures in
    (search rules, e, omega (arith, e, (facts c.args.plan.now c.requires.0).regions_most), refl, filled_none _ _)

pub loop-g-preserved : goal.loop-g-preserved
loop-g-preserved c =
    let l = c.loop-g in (
      search rules,
      l.invariant.1,
      l.invariant.2,
      simp length-set (search rules),
      filled_more (result_of (body_of c.args.plan.now) (state_of [] c.args.values.now)) c.args.results.now l.results l.g _ l.invariant.4
          (search rules) c.result_word.ensures,
    )

pub returns : goal.returns
returns c =
    let l = c.loop-g in
    filled_done (result_of (body_of c.args.plan.now) (state_of [] c.args.values.now)) c.args.results.now l.results
    (regions_of c.args.plan.now) l.g l.invariant.4
    (omega (arith, l.invariant.1, c.loop-g-test.false)) (omega (arith, l.invariant.0, l.invariant.1))
