use native.Mathlib.Omega.{arith}
use borrow.Author.Rules.{rules}
use Rattle.graph.proofs.Lookup.{task_ready, kind_few}
use Rattle.walk.proofs.Touching.{meets_elsewhere, meets_task, meets_region}
use Rattle.walk.proofs.rows.meet_item.Goals as goal

pub returns-then-item_rank-q : goal.returns-then-item_rank-q
returns-then-item_rank-q c =
    let G = c.args.items.now.drawn in
    let pre = c.requires in
    meets_elsewhere _ _ _ G _ pre.0 _ c.from-code.ensures _ _ _ c.item_rank.ensures c.if-item_rank-q.true pre.1

pub meet_task-requires : goal.meet_task-requires
meet_task-requires c =
    let G = c.args.items.now.drawn in
    let pre = c.requires in
    (task_ready _ _ _ G _ pre.0 _ c.from-code.ensures _ (search rules) (search rules), search rules)

pub meet_place-requires : goal.meet_place-requires
meet_place-requires c =
    let G = c.args.items.now.drawn in
    let pre = c.requires in
    (search rules, search rules, omega (arith, kind_few _ _ _ G _ pre.0 _ c.from-code.ensures))

pub returns-then-kind-eq-TASK : goal.returns-then-kind-eq-TASK
returns-then-kind-eq-TASK c =
    let G = c.args.items.now.drawn in
    let pre = c.requires in
    meets_task _ _ _ G _ pre.0 _ c.from-code.ensures _ _ c.item_kind-kind.ensures c.item_subject-subject.ensures.0
    _ _ _ _ _ c.item_rank.ensures c.if-item_rank-q.false c.if-kind-eq-TASK.true c.meet_task.ensures

pub returns-else-kind-eq-TASK : goal.returns-else-kind-eq-TASK
returns-else-kind-eq-TASK c =
    let G = c.args.items.now.drawn in
    let pre = c.requires in
    meets_region _ _ _ G _ pre.0 _ c.from-code.ensures _ _ c.item_kind-kind.ensures c.item_subject-subject.ensures.0
    _ _ _ _ _ c.item_rank.ensures c.if-item_rank-q.false c.if-kind-eq-TASK.false c.meet_place.ensures
