use native.Mathlib.Omega.{arith}
use borrow.Author.Rules.{rules}
use Rattle.items.proofs.Tasks.{task_fits_lem, task_rest, task_all}
use Rattle.items.proofs.put_task.Goals as goal

pub put_item-at-requires : goal.put_item-at-requires
put_item-at-requires c = search (rules, task_fits_lem)

pub put_accesses-requires : goal.put_accesses-requires
put_accesses-requires c = search (rules, task_rest)

pub returns : goal.returns
returns c =
    task_all _ _ _ _ _ _ _ _ _ c.put_item-at.ensures _ _ (omega (arith, c.item_code.ensures.0)) c.put_accesses.ensures
