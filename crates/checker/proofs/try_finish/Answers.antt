use borrow.Author.Rules.{rules}
use Rattle.checker.proofs.Stepping.{finishable}
use Rattle.checker.proofs.Trying.{number_refused, number_passed, finish_barred, finish_holds}
use Rattle.checker.proofs.try_finish.Goals as goal

pub returns-then-is_err : goal.returns-then-is_err
returns-then-is_err c =
    finish_barred c.args.plan.now c.args.tables.now c.args.counts.now c.args.values.now c.args.item _ (c.finish_refusal_known.ensures _ c.requires.long_values) (number_refused _ (search rules))

pub finish_item-requires : goal.finish_item-requires
finish_item-requires c =
    ((finishable c.args.plan.now c.args.tables.now c.args.counts.now c.args.values.now c.args.item _ (c.finish_refusal_known.ensures _ c.requires.long_values) (number_passed _ (search rules))), search rules)

pub returns : goal.returns
returns c =
    finish_holds c.args.plan.now c.args.tables.now c.args.counts.now c.args.values.now c.args.item _ (c.finish_refusal_known.ensures _ c.requires.long_values) (number_passed _ (search rules)) _ _ _
    (c.finish_item.ensures.0)
