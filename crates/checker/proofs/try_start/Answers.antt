use borrow.Author.Rules.{rules}
use mathlib.Core.Path.{refl}
use Rattle.engine.specs.Usable.{Startable}
use Rattle.checker.proofs.Stepping.{startable}
use Rattle.checker.proofs.Trying.{number_refused, number_passed, start_barred, start_differs, start_holds}
use Rattle.checker.proofs.try_start.Goals as goal
use Rattle.checker.proofs.try_start.Goals.{Else-is_err}

-- nothing refuses the start
clear : (c : Else-is_err) →
    Startable c.args.tables.now c.args.counts.now c.args.values.now c.args.item
clear c =
    startable c.args.plan.now c.args.tables.now c.args.counts.now c.args.values.now c.args.item _ (c.start_refusal_known.ensures _ c.requires.long_values) (number_passed _ (search rules))

pub returns-then-is_err : goal.returns-then-is_err
returns-then-is_err c =
    start_barred c.args.plan.now c.args.tables.now c.args.counts.now c.args.values.now c.args.item c.args.word _ (c.start_refusal_known.ensures _ c.requires.long_values) (number_refused _ (search rules))

pub item_word-requires : goal.item_word-requires
item_word-requires c =
    let S = clear (goal.at.item_word-requires c).Else-is_err in
    (S.sized.long_tables, S.sized.below, S.row, S.sized.long_values, refl)

pub returns-then-item_word-word : goal.returns-then-item_word-word
returns-then-item_word-word c =
    start_differs c.args.plan.now c.args.tables.now c.args.counts.now c.args.values.now c.args.item c.args.word _ (c.start_refusal_known.ensures _ c.requires.long_values) (number_passed _ (search rules)) _
    (c.item_word.ensures.0 c.args.counts.now) c.if-item_word-word.true

pub hold_word-requires : goal.hold_word-requires
hold_word-requires c =
    let S = clear (goal.at.hold_word-requires c).Else-is_err in
    (S.sized.below, S.sized.long_counts, S.sized.long_values, S.small)

pub returns : goal.returns
returns c =
    let h = c.hold_word.ensures in
    start_holds c.args.plan.now c.args.tables.now c.args.counts.now c.args.values.now c.args.item c.args.word _ (c.start_refusal_known.ensures _ c.requires.long_values) (number_passed _ (search rules)) _
    (c.item_word.ensures.0 c.args.counts.now) c.if-item_word-word.false _ _ h.0 h.1
