use borrow.Author.Rules.{rules}
use Rattle.graph.proofs.Lookup.{task_ready}
use Rattle.walk.proofs.Touching.{notes_task, notes_region, zeros_room}
use Rattle.walk.proofs.rows.note_item.Goals as goal

pub note_task-requires : goal.note_task-requires
note_task-requires c =
    let G = c.args.items.now.drawn in
    let pre = c.requires in
    (task_ready _ _ _ G _ pre.0 _ c.from-code.ensures _ (search rules) (search rules), search rules)

pub bounds-places-subject : goal.bounds-places-subject
bounds-places-subject c = zeros_room _ _ c.requires.1 (search rules)

pub returns-then-kind-eq-TASK : goal.returns-then-kind-eq-TASK
returns-then-kind-eq-TASK c =
    let G = c.args.items.now.drawn in
    let pre = c.requires in
    notes_task _ _ _ G _ pre.0 _ c.from-code.ensures _ _ c.item_kind-kind.ensures c.item_subject-subject.ensures.0
    _ c.if-kind-eq-TASK.true c.note_task.ensures

pub returns-else-kind-eq-TASK : goal.returns-else-kind-eq-TASK
returns-else-kind-eq-TASK c =
    let G = c.args.items.now.drawn in
    let pre = c.requires in
    notes_region _ _ _ G _ pre.0 _ c.from-code.ensures _ _ c.item_kind-kind.ensures c.item_subject-subject.ensures.0
    _ _ c.if-kind-eq-TASK.false (search rules) pre.1
