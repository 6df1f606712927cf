use mathlib.Core.Path.{refl}
use borrow.Author.Rules.{rules}
use Rattle.open_waits.proofs.TaskTouch.{task_none, task_more, task_done}
use Rattle.open_waits.proofs.touch_task.Goals as goal

pub loop-k-init : goal.loop-k-init
loop-k-init c = search (rules, task_none)

pub loop-k-preserved : goal.loop-k-preserved
loop-k-preserved c =
    let P = c.requires in (
      search rules,
      task_more c.args.plan.now _ _ _ _ c.args.seen.now _ _ _ _ _ _ _ _ _ _ _ _ _ _ _ _ P.0 (search rules) c.access-access.ensures
          c.access_region.ensures c.writes_region.ensures P.1 P.2 refl refl c.loop-k.invariant.1 c.touch_place-sum.ensures,
    )

pub returns : goal.returns
returns c = search (rules, task_done)
