use Prim.Native.Nat.{◌<◌}
use mathlib.Core.Path.{sym, ◌∙◌}
use native.Mathlib.Omega.{arith}
use borrow.Author.Rules.{rules}
use lib.ListN.{length}
use Rattle.edges.proofs.Touches.{touch_most}
use Rattle.plan.specs.Layout.{body_of}
use Rattle.walk.proofs.Meeting.{meets_places}
use Rattle.walk.proofs.Runs.{passed_below, run_none, run_more, run_done, run_shut, shut_all, shut_after}
use Rattle.walk.proofs.rows.mark_run.Goals as goal
use Rattle.walk.proofs.rows.mark_run.Goals.{After-item_passed-b, In-loop-k}

item : (c : After-item_passed-b) → c.item_passed-b.result < length c.args.items.now.codes.now
item c = passed_below _ _ _ _ _ c.args.back c.loop-k-test.true c.requires.0 c.item_passed-b.ensures

pub loop-k-init : goal.loop-k-init
loop-k-init c =
    (search rules, λ e. shut_all c.args.places.now (sym c.any_open-left.ensures ∙ e), run_none _ _ _ _ _ _ _ c.requires.1)

pub meet_item-hit-requires : goal.meet_item-hit-requires
meet_item-hit-requires c = (item (goal.at.meet_item-hit-requires c).After-item_passed-b, search rules)

pub put_if-requires : goal.put_if-requires
put_if-requires c = omega (arith, item (goal.at.put_if-requires c).After-item_passed-b, c.args.items.now.drawn.most)

pub loop-k-preserved : goal.loop-k-preserved
loop-k-preserved c =
    let turn = c.loop-k in
    let pre = c.requires in (
      meets_places _ _ _ _ turn.invariant.0 c.meet_item-hit.ensures,
      shut_after _ c.meet_item-hit.result _ c.may_be_open-left.ensures,
      run_more _ _ _ _ _ _ _ _ _ _ _ _ _ _ c.loop-k-test.true (omega arith)
          turn.invariant.2 c.item_passed-b.ensures c.meet_item-hit.ensures c.put_if.ensures,
    )

pub returns-then-not-left : goal.returns-then-not-left
returns-then-not-left c =
    let a = c.args in
    let turn = c.loop-k in
    run_shut _ _ _ _ (touch_most (body_of a.items.now.plan.now) a.q) a.back turn.k _ _ _ _ (search rules) (turn.invariant.1 (search rules)) turn.invariant.2

pub returns : goal.returns
returns c =
    let end = c.loop-k in
    run_done _ _ _ _ c.args.back end.k _ _ _ _ (search rules) (search rules) end.invariant.2
