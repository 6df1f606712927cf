use mathlib.Core.Path.{◌≡◌, refl}
use mathlib.Core.Bool.{cond}
use lib.Dec.{ltb}
use borrow.Author.Rules.{rules}
use lib.ListN.{length-set}
use Rattle.finite.proofs.Within.{within_filled_none, within_filled_done}
use Rattle.plan.specs.Sizes.{first_unmet}
use Rattle.plan.specs.Layout.{body_of}
use Rattle.steps.specs.Answers.{open_count}
use Rattle.open_waits.proofs.Opening.{passed_none, numbers_more}
use Rattle.open_waits.proofs.open_numbers.Goals as goal
use Rattle.open_waits.proofs.open_numbers.Goals.{then-passes-gt0, else-passes-gt0}

pub loop-a-init : goal.loop-a-init
loop-a-init c =
    (refl, within_filled_none first_unmet (open_count (body_of c.args.items.now.plan.now)) c.args.counts.now, passed_none (body_of c.args.items.now.plan.now) _ _ _ _ refl refl refl refl)

pub loop-a-preserved : goal.loop-a-preserved
loop-a-preserved c =
    let l = c.loop-a in
    let number : c.if-passes-gt0.counts ≡ cond (ltb 0 c.passes.result) c.count_sources-sources.result 0 =
    elim c.if-passes-gt0.branch [
      | then-passes-gt0 w ↦ rw w.counts-is (search rules)
      | else-passes-gt0 w ↦ rw w.counts-is (search rules)
    ] in (
      simp length-set (search rules),
      numbers_more _ _ _ c.args.items.now.drawn l.a c.loop-a-test.true _ _ _ c.passes.ensures c.count_sources-sources.ensures.0
          number c.args.counts.now l.counts l.invariant.1 c.requires,
      c.count_sources-sources.ensures.1,
    )

pub returns : goal.returns
returns c =
    let l = c.loop-a in
    within_filled_done first_unmet (open_count (body_of c.args.items.now.plan.now)) c.args.counts.now _ _ l.a l.invariant.1 (search rules) (search rules)
