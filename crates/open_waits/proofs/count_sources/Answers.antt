use Prim.Native.Nat.{◌+◌}
use mathlib.Core.Path.{refl}
use lib.ListN.{length}
use native.Mathlib.Omega.{arith}
use Rattle.open_waits.proofs.Counting.{Coded, item_within, rank_within, place_within, send_before, task_coded, counted_none, task_counted, region_counted}
use Rattle.open_waits.proofs.count_sources.Goals as goal
use Rattle.open_waits.proofs.count_sources.Goals.{After-item_rank-q}

coded : (c : After-item_rank-q) → Coded c.args.items.now.plan.now c.args.items.now.codes.now (length c.args.items.now.codes.now) c.args.a
    c.item_kind-kind.result c.item_subject-subject.result
    c.item_rank-q.result (c.args.a + 1)
coded c =
    record {
      graph = c.args.items.now.drawn;
      below = c.requires.0;
      code = c.from-code.result;
      number = c.from-code.ensures;
      kind_by = c.item_kind-kind.ensures;
      subject_by = c.item_subject-subject.ensures.0;
      rank_by = c.item_rank-q.ensures;
      next = refl;
    }

pub mark_send-sent-requires : goal.mark_send-sent-requires
mark_send-sent-requires c =
    let I = coded (goal.at.mark_send-sent-requires c).After-item_rank-q in
    (counted_none I _ _ _ _ c.requires.1, item_within I, send_before I)

pub touch_task-requires : goal.touch_task-requires
touch_task-requires c =
    let I = coded (goal.at.touch_task-requires c).After-item_rank-q in
    (task_coded I c.if-kind-eq-TASK.true, item_within I, rank_within I, c.requires.1.kept, c.mark_send-sent.ensures.0)

pub returns-then-kind-eq-TASK : goal.returns-then-kind-eq-TASK
returns-then-kind-eq-TASK c =
    let I = coded (goal.at.returns-then-kind-eq-TASK c).After-item_rank-q in
    task_counted I _ _ _ _ c.requires.1 _ c.mark_send-sent.ensures.1 _ _ _ _ _ c.if-kind-eq-TASK.true c.touch_task.ensures

pub touch_place-requires : goal.touch_place-requires
touch_place-requires c =
    let I = coded (goal.at.touch_place-requires c).After-item_rank-q in
    (c.requires.1.kept.links, place_within I, omega (arith, item_within I), c.mark_send-sent.ensures.0)

pub returns : goal.returns
returns c =
    let I = coded (goal.at.returns c).After-item_rank-q in
    region_counted I _ _ _ _ c.requires.1 _ c.mark_send-sent.ensures.1 _ _ _ _ _ c.if-kind-eq-TASK.false _ c.mark_send-sent.ensures.0
    c.touch_place.ensures
