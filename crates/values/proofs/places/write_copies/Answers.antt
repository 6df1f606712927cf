use Prim.Native.Nat.{◌<◌}
use mathlib.Core.Path.{sym, ◌∙◌}
use native.Mathlib.Omega.{arith}
use borrow.Author.Rules.{rules}
use lib.ListN.{length}
use Rattle.values.proofs.Finding.{found_ready, region_below}
use Rattle.values.proofs.Writing.{copies_task, copies_moved}
use Rattle.values.proofs.places.write_copies.Goals as goal
use Rattle.values.proofs.places.write_copies.Goals.{Else-kind-eq-TASK}

pub write_task-requires : goal.write_task-requires
write_task-requires c =
    let k = sym c.item_kind-kind.ensures ∙ c.if-kind-eq-TASK.true in
    (found_ready _ _ _ c.requires.0 _ k c.item_subject-subject.ensures.0, search rules)

pub returns-then-kind-eq-TASK : goal.returns-then-kind-eq-TASK
returns-then-kind-eq-TASK c =
    copies_task _ _ _ c.requires.0 _ c.args.copies.now _ _ (sym c.item_kind-kind.ensures ∙ c.if-kind-eq-TASK.true)
    c.item_subject-subject.ensures.0 c.write_task.ensures

-- what is no task moves a region of the part
near : (c : Else-kind-eq-TASK) → c.item_subject-subject.result < length c.args.copies.now
near c =
    let F = c.requires in
    let g = region_below _ _ _ F.0 (λ e. c.if-kind-eq-TASK.false (c.item_kind-kind.ensures ∙ e)) in
    omega (arith, c.item_subject-subject.ensures.0, g, F.1)

pub put_if-requires : goal.put_if-requires
put_if-requires c = let n = near (goal.at.put_if-requires c).Else-kind-eq-TASK in search rules

pub returns : goal.returns
returns c =
    let k = c.item_kind-kind.ensures in
    copies_moved _ _ _ c.requires.0 _ c.args.copies.now _ _ (λ e. c.if-kind-eq-TASK.false (k ∙ e))
    c.item_subject-subject.ensures.0 (near (goal.at.returns c).Else-kind-eq-TASK) (rw k at c.put_if.ensures)
