use Prim.Native.Nat.{ℕ}
use native.Mathlib.Omega.{arith}
use lib.ListN.{length-replicate}
use Rattle.plan.specs.Layout.{plan_words}
use Rattle.report.proofs.Sizes.{refused_most}
use Rattle.report.proofs.Joined.{put_as}
use Rattle.report.proofs.Reported.{refused_lines, plan_lines_lem}
use Rattle.report.proofs.put_lines.Goals as goal

pub put_refused-requires : goal.put_refused-requires
put_refused-requires c =
    omega (arith, refused_most c.taskiter_read-answer.result.refusal c.taskiter_read-answer.result.line, c.requires)

pub returns-then-answer-ne0 : goal.returns-then-answer-ne0
returns-then-answer-ne0 c =
    put_as
    (refused_lines c.args.text.now _ (length-replicate {A = ℕ} plan_words 0) _ _ c.taskiter_read-answer.ensures c.if-answer-ne0.true)
    c.put_refused.ensures

pub put_plan-requires : goal.put_plan-requires
put_plan-requires c =
    let p = plan_lines_lem c.args.text.now _ (length-replicate {A = ℕ} plan_words 0) _ _ c.taskiter_read-answer.ensures c.if-answer-ne0.false in
    (p.0, p.1, c.requires)

pub returns : goal.returns
returns c =
    put_as
    (plan_lines_lem c.args.text.now _ (length-replicate {A = ℕ} plan_words 0) _ _ c.taskiter_read-answer.ensures c.if-answer-ne0.false).2
    c.put_plan.ensures
