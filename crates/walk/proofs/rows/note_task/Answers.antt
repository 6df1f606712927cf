use borrow.Author.Rules.{rules}
use Rattle.walk.proofs.TaskTouch.{noted_none, noted_more, noted_done}
use Rattle.walk.proofs.rows.note_task.Goals as goal

pub loop-a-init : goal.loop-a-init
loop-a-init c = search (rules, noted_none)

pub loop-a-preserved : goal.loop-a-preserved
loop-a-preserved c =
    let task = c.requires.0 in
    (search rules, noted_more _ _ _ _ _ _ task (search rules) c.access-access.ensures (search rules) (search rules) _ c.loop-a.invariant.1 (search rules))

pub returns : goal.returns
returns c = search (rules, noted_done)
