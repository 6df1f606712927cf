use Prim.Native.Nat.{◌<◌}
use native.Mathlib.Omega.{arith}
use borrow.Author.Rules.{rules}
use Rattle.finite.proofs.Puts.{collect_none, collect_fits, collect_more}
use Rattle.plan.specs.Layout.{tasks_of}
use Rattle.plan.proofs.Facts.{formed}
use Rattle.graph.proofs.Small.{form_words}
use Rattle.writer.specs.Parts.{task_lines}
use Rattle.writer.proofs.lines.put_tasks.Goals as goal

pub loop-i-init : goal.loop-i-init
loop-i-init c = search (rules, collect_none)

pub put_task-end-requires : goal.put_task-end-requires
put_task-end-requires c =
    let w = c.args.plan.now in
    let form = formed w (form_words w c.requires.1) in
    let below : c.loop-i.i < tasks_of w = search rules in (
      omega (arith, form.tasks_most),
      (form.used _ below).accesses_most,
      collect_fits (task_lines w) _ _ _ _ _ _ c.requires.2 c.loop-i.invariant below,
    )

pub loop-i-preserved : goal.loop-i-preserved
loop-i-preserved c = search (rules, collect_more)
