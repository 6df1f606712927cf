use mathlib.Core.Path.{refl}
use native.Mathlib.Omega.{arith}
use borrow.Author.Rules.{rules}
use lib.ListN.{length-set}
use Rattle.taskiter.proofs.Playing.{play_room, play_long, played_short, rest_none, rest_more, played_done}
use Rattle.taskiter.proofs.taskiter_play.Goals as goal

pub is_short-requires : goal.is_short-requires
is_short-requires c = search rules

pub returns-then-is_short-answers : goal.returns-then-is_short-answers
returns-then-is_short-answers c =
    played_short c.args.plan.now c.args.counts.now c.args.values.now c.args.calls.now c.args.answers.now _
    c.is_short.ensures c.if-is_short-answers.true

pub loop-k-init : goal.loop-k-init
loop-k-init c = (
  rest_none _ _ _ _,
  play_room c.args.plan.now c.args.counts.now c.args.values.now c.args.calls.now c.args.answers.now _
      c.is_short.ensures c.if-is_short-answers.false,
  refl,
  refl,
  refl,
)

pub bounds-answers-k-in-loop-k : goal.bounds-answers-k-in-loop-k
bounds-answers-k-in-loop-k c = simp length-set (search rules)

pub loop-k-preserved : goal.loop-k-preserved
loop-k-preserved c =
    let l = c.loop-k in (
      rest_more _ _ _ _ _ l.answers l.k l.invariant.0 c.loop-k-test.true l.invariant.1 _ c.play_one-answer.ensures _ _ (omega arith) (omega arith),
      simp length-set (search rules),
      search rules,
      search rules,
      simp length-set (search rules),
    )

pub returns : goal.returns
returns c =
    let l = c.loop-k in
    played_done c.args.plan.now c.args.counts.now c.args.values.now c.args.calls.now c.args.answers.now
    (play_long c.args.plan.now c.args.counts.now c.args.values.now c.args.calls.now c.args.answers.now _
    c.is_short.ensures c.if-is_short-answers.false) _ _ _ l.k l.invariant.0 (omega arith)
