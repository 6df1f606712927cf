use mathlib.Core.Path.{sym, ◌∙◌}
use native.Mathlib.Omega.{arith}
use Rattle.plan.specs.Layout.{tasks_of, body_of}
use Rattle.values.proofs.Resulting.{last_here, last_there, last_nowhere}
use Rattle.values.proofs.results.last_writer.Goals as goal

pub returns-then-task_writes : goal.returns-then-task_writes
returns-then-task_writes c =
    let l = c.loop-i in
    last_here (body_of c.args.plan.now) c.args.g (tasks_of c.args.plan.now) l.i l.invariant (omega arith)
    (sym c.task_writes.ensures ∙ c.if-task_writes.true)

pub loop-i-preserved : goal.loop-i-preserved
loop-i-preserved c =
    let l = c.loop-i in
    last_there (body_of c.args.plan.now) c.args.g (tasks_of c.args.plan.now) l.i l.invariant (omega arith)
    (sym c.task_writes.ensures ∙ c.if-task_writes.false)

pub returns : goal.returns
returns c =
    let l = c.loop-i in
    last_nowhere (body_of c.args.plan.now) c.args.g (tasks_of c.args.plan.now) l.i l.invariant (omega arith)
