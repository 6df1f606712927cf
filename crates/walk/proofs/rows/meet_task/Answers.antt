use borrow.Author.Rules.{rules}
use Rattle.walk.proofs.Meeting.{meets_places}
use Rattle.walk.proofs.TaskTouch.{task_none, task_more, task_done}
use Rattle.walk.proofs.rows.meet_task.Goals as goal

pub loop-a-init : goal.loop-a-init
loop-a-init c = search (rules, task_none)

pub loop-a-preserved : goal.loop-a-preserved
loop-a-preserved c =
    let pre = c.requires in (
      search rules,
      search (rules, meets_places),
      task_more _ _ _ _ _ _ pre.0 (search rules) c.access-access.ensures (search rules) (search rules) _ _ _ _ _ pre.1 c.loop-a.invariant.2 c.meet_place-met.ensures,
    )

pub returns : goal.returns
returns c = search (rules, task_done)
