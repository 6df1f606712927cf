use mathlib.Core.Path.{sym, ◌∙◌}
use native.Mathlib.Omega.{arith}
use lib.Seq.{length-take-le}
use Rattle.taskiter.proofs.Exported.{state_room, values_long}
use Rattle.taskiter.proofs.Checking.{more_short, more_refused, more_made}
use Rattle.taskiter.proofs.taskiter_check_more.Goals as goal

pub returns-then-is_short : goal.returns-then-is_short
returns-then-is_short c =
    rw c.number.ensures
    (more_short c.args.plan.now c.args.counts.now c.args.values.now c.args.journal.now (sym c.is_short.ensures ∙ c.if-is_short.true))

pub slice_bounds-new-end : goal.slice_bounds-new-end
slice_bounds-new-end c =
    let P = c.args.plan.now in
    sym (length-take-le _ P (state_room P c.args.counts.now c.args.values.now _ _ c.in-Ok.ensures))

pub new-words-requires : goal.new-words-requires
new-words-requires c =
    let P = c.args.plan.now in
    omega (arith, length-take-le _ P (state_room P c.args.counts.now c.args.values.now _ _ c.in-Ok.ensures))

pub new-items-requires : goal.new-items-requires
new-items-requires c = let G = c.in-Ok.ensures.clear.0 in (rw c.new-words.ensures G, omega (arith, G.most))

pub check_clear-requires : goal.check_clear-requires
check_clear-requires c =
    let P = c.args.plan.now in
    let B = c.in-Ok.ensures in
    (rw c.new.ensures (c.new-items.ensures.0 ∙ c.new-words.ensures), B.clear.1.room, values_long P c.args.counts.now c.args.values.now _ _ B)

pub returns-in-Ok : goal.returns-in-Ok
returns-in-Ok c =
    more_made c.args.plan.now c.args.counts.now c.args.values.now c.args.journal.now _ _ c.in-Ok.ensures _ (rw c.new.ensures at c.check_clear.ensures)

pub returns-in-Err : goal.returns-in-Err
returns-in-Err c =
    rw c.number-in-Err.ensures
    (more_refused c.args.plan.now c.args.counts.now c.args.values.now c.args.journal.now _ _ c.in-Err.ensures)
