use mathlib.Core.Path.{refl, ◌∙◌}
use native.Mathlib.Omega.{arith}
use borrow.Author.Rules.{rules}
use Rattle.steps.specs.Calls.{lent}
use Rattle.runs.proofs.Taking.{formed_as, ready_as, taken_first, taken_but, taken_none, going_starts, going_small, turn_item, turn_going, turn_below, turns_over}
use Rattle.runs.proofs.take_turns.Goals as goal

pub put_ready-requires : goal.put_ready-requires
put_ready-requires c =
    ((going_starts _ (formed_as c.requires.0 _ _ c.args.items.now.drawn) (lent c.args.counts.now c.args.values.now) c.requires.2).idle.long_counts, refl)

pub loop-lowest-init : goal.loop-lowest-init
loop-lowest-init c = (
  going_starts _ (formed_as c.requires.0 _ _ c.args.items.now.drawn) _ c.requires.2,
  record { before = c.put_ready.new.words; set = ready_as c.requires.0 _ _ c.put_ready.ensures; took = c.take_lowest-lowest.ensures },
  refl,
  refl,
  refl,
)

pub take_turn-requires : goal.take_turn-requires
take_turn-requires c =
    let l = c.loop-lowest in
    let T = l.invariant.1 in (
      turn_item _ (formed_as c.requires.0 _ _ c.args.items.now.drawn) (lent c.args.counts.now c.args.values.now) l.counts l.values l.steps l.invariant.0 _
          (taken_first T _ c.in-Some.is) c.requires.2 _ (taken_but T _ c.in-Some.is),
      c.requires.1,
      l.invariant.2,
    )

pub overflow_add-steps : goal.overflow_add-steps
overflow_add-steps c =
    let k = going_small _ (formed_as c.requires.0 _ _ c.args.items.now.drawn) _ _ _ c.loop-lowest.invariant.0 c.requires.1.most in
    search rules

pub loop-lowest-smaller : goal.loop-lowest-smaller
loop-lowest-smaller c =
    let l = c.loop-lowest in
    omega (
      arith,
      turn_below _ (formed_as c.requires.0 _ _ c.args.items.now.drawn) (lent c.args.counts.now c.args.values.now) l.counts l.values l.steps l.invariant.0 _
          (taken_first l.invariant.1 _ c.in-Some.is) _ _ c.take_turn.ensures.0,
    )

pub loop-lowest-preserved : goal.loop-lowest-preserved
loop-lowest-preserved c =
    let l = c.loop-lowest in (
      turn_going _ (formed_as c.requires.0 _ _ c.args.items.now.drawn) (lent c.args.counts.now c.args.values.now) l.counts l.values l.steps l.invariant.0 _
          (taken_first l.invariant.1 _ c.in-Some.is) _ _ c.take_turn.ensures.0,
      record { before = c.take_turn.new.words; set = c.take_turn.ensures.1; took = c.take_lowest-lowest-in-Some.ensures },
      c.take_turn.ensures.2,
      c.counts-1.given ∙ l.invariant.3,
      c.values-1.given ∙ l.invariant.4,
    )

pub returns : goal.returns
returns c =
    let l = c.loop-lowest in
    (l.invariant.0, turns_over _ (formed_as c.requires.0 _ _ c.args.items.now.drawn) _ _ _ _ l.invariant.0 (taken_none l.invariant.1 c.in_default.is c.requires.1.most))
