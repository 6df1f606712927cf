use mathlib.Core.Path.{refl, sym, ◌∙◌}
use borrow.Author.Rules.{rules}
use Rattle.engine.proofs.Rows.{word_task, word_other, word_empty}
use Rattle.engine.proofs.starts.word_from.Goals as goal

pub returns-then-item_kind-eq-TASK : goal.returns-then-item_kind-eq-TASK
returns-then-item_kind-eq-TASK c =
    word_task c.args.plan.now c.args.code _ c.args.words.now c.item_subject-i.result (sym c.item_kind.ensures ∙ c.if-item_kind-eq-TASK.true)
    c.item_subject-i.ensures.0 c.item_subject-i.ensures.1
    (c.kernel_word.ensures ∙ rw (c.kernel.ensures, c.constant.ensures))

pub returns-then-is_empty : goal.returns-then-is_empty
returns-then-is_empty c =
    word_empty c.args.plan.now c.args.code _ c.args.words.now (λ z. c.if-item_kind-eq-TASK.false (c.item_kind.ensures ∙ z)) refl (search rules)

pub returns-else-is_empty : goal.returns-else-is_empty
returns-else-is_empty c =
    word_other c.args.plan.now c.args.code _ c.args.words.now (λ z. c.if-item_kind-eq-TASK.false (c.item_kind.ensures ∙ z)) refl
