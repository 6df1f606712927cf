use mathlib.Core.Path.{sym}
use native.Mathlib.Omega.{arith}
use borrow.Author.Tests.{le-leb, lt-leb}
use lib.ListN.{length}
use lib.Seq.{length-take-le}
use Rattle.plan.specs.Layout.{plan_words}
use Rattle.bench.proofs.bench_in_form.Goals as goal

pub returns-then-plan-lt-PLAN_WORDS : goal.returns-then-plan-lt-PLAN_WORDS
returns-then-plan-lt-PLAN_WORDS c = rw (lt-leb plan_words (length c.args.plan.now) c.if-plan-lt-PLAN_WORDS.true)

pub slice_bounds-in_form-end : goal.slice_bounds-in_form-end
slice_bounds-in_form-end c = sym (length-take-le _ c.args.plan.now (omega (arith, c.if-plan-lt-PLAN_WORDS.false)))

pub in_form-requires : goal.in_form-requires
in_form-requires c = length-take-le _ c.args.plan.now (omega (arith, c.if-plan-lt-PLAN_WORDS.false))

pub returns : goal.returns
returns c =
    rw (le-leb plan_words (length c.args.plan.now) (omega (arith, c.if-plan-lt-PLAN_WORDS.false))) c.in_form.ensures
