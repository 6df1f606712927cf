use mathlib.Core.Path.{sym, ◌∙◌}
use native.Mathlib.Omega.{arith}
use borrow.Author.Rules.{rules}
use Rattle.finite.proofs.Puts.{added_same}
use Rattle.values.specs.Items.{Found}
use Rattle.values.proofs.Finding.{found_at, found_ready, number_most, kind_most}
use Rattle.tables.proofs.Listed.{task_listed, moved_listed}
use Rattle.tables.proofs.listing.list_item.Goals as goal
use Rattle.tables.proofs.listing.list_item.Goals.{After-from-code}

-- the item's number, found in the item table
found : (c : After-from-code) → Found c.args.items.now.plan.now c.args.a c.from-code.result
found c = found_at _ _ _ c.args.items.now.drawn _ _ c.requires.0 c.from-code.ensures

pub first_copy-first-requires : goal.first_copy-first-requires
first_copy-first-requires c = found (goal.at.first_copy-first-requires c).After-from-code

pub list_task-requires : goal.list_task-requires
list_task-requires c =
    let F = found (goal.at.list_task-requires c).After-from-code in
    (found_ready _ _ _ F _ (sym c.item_kind-kind.ensures ∙ c.if-kind-eq-TASK.true) c.item_subject-subject.ensures.0, c.first_copy-first.ensures.1, search rules)

pub slot_of-requires : goal.slot_of-requires
slot_of-requires c =
    let F = found (goal.at.slot_of-requires c).After-from-code in
    (omega (arith, c.item_kind-kind.ensures, kind_most _ _ _ F), number_most _ _ _ F)

pub returns-then-kind-eq-TASK : goal.returns-then-kind-eq-TASK
returns-then-kind-eq-TASK c = (
  added_same
      (task_listed _ _ _ (found (goal.at.returns-then-kind-eq-TASK c).After-from-code) c.args.write _ _
      (sym c.item_kind-kind.ensures ∙ c.if-kind-eq-TASK.true) c.item_subject-subject.ensures.0 c.first_copy-first.ensures.0)
      c.list_task.ensures.0,
  c.list_task.ensures.1,
)

pub returns : goal.returns
returns c = (
  added_same
      (moved_listed _ _ _ (found (goal.at.returns c).After-from-code) c.args.write _ _ _ _ c.item_kind-kind.ensures c.if-kind-eq-TASK.false
      c.slot_of.ensures.0 c.first_copy-first.ensures.0 c.item_subject-subject.ensures.0)
      c.list_moved.ensures.0,
  c.list_moved.ensures.1,
)
