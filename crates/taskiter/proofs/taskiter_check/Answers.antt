use mathlib.Core.Path.{sym, ◌∙◌}
use native.Mathlib.Omega.{arith}
use lib.Seq.{length-take-le}
use Rattle.steps.proofs.Answering.{open_short}
use Rattle.plan.specs.declared.refusal.Refusal.TheVariants.{TooShort}
use Rattle.taskiter.proofs.Exported.{graph_room}
use Rattle.taskiter.proofs.Checking.{check_refused, opened_room, check_made}
use Rattle.taskiter.proofs.taskiter_check.Goals as goal

pub returns-then-is_short : goal.returns-then-is_short
returns-then-is_short c =
    rw c.number.ensures
    (check_refused c.args.plan.now c.args.counts.now c.args.values.now c.args.journal.now TooShort _ _
    (open_short c.args.plan.now c.args.counts.now c.args.values.now (sym c.is_short.ensures ∙ c.if-is_short.true)))

pub slice_bounds-new-end : goal.slice_bounds-new-end
slice_bounds-new-end c =
    sym (length-take-le _ c.args.plan.now (graph_room c.args.plan.now _ _ c.in-Ok.ensures.1.clear))

pub new-words-requires : goal.new-words-requires
new-words-requires c =
    omega (arith, length-take-le _ c.args.plan.now (graph_room c.args.plan.now _ _ c.in-Ok.ensures.1.clear))

pub new-items-requires : goal.new-items-requires
new-items-requires c = let G = c.in-Ok.ensures.1.clear in (rw c.new-words.ensures G, omega (arith, G.most))

pub check_clear-requires : goal.check_clear-requires
check_clear-requires c =
    let l = opened_room c.args.plan.now c.args.counts.now c.args.values.now c.args.journal.now _ _ c.in-Ok.ensures.0 in
    (rw c.new.ensures (c.new-items.ensures.0 ∙ c.new-words.ensures), l.0, l.1)

pub returns-in-Ok : goal.returns-in-Ok
returns-in-Ok c =
    check_made c.args.plan.now c.args.counts.now c.args.values.now c.args.journal.now _ _ c.in-Ok.ensures.0 _ (rw c.new.ensures at c.check_clear.ensures)

pub returns-in-Err : goal.returns-in-Err
returns-in-Err c =
    rw c.number-in-Err.ensures
    (check_refused c.args.plan.now c.args.counts.now c.args.values.now c.args.journal.now _ _ _ c.in-Err.ensures.0)
