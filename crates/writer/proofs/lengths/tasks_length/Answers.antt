use Prim.Native.Nat.{◌<◌}
use native.Mathlib.Omega.{arith}
use borrow.Author.Rules.{rules}
use Rattle.plan.specs.Layout.{tasks_of}
use Rattle.plan.proofs.Facts.{formed}
use Rattle.graph.proofs.Small.{form_words}
use Rattle.writer.specs.Parts.{task_lines}
use Rattle.writer.proofs.Sizes.{sum_none, sum_more, sum_done}
use Rattle.writer.proofs.lengths.tasks_length.Goals as goal

pub loop-i-init : goal.loop-i-init
loop-i-init c = search (rules, sum_none)

pub task_length-sum-requires : goal.task_length-sum-requires
task_length-sum-requires c =
    let w = c.args.plan.now in
    let form = formed w (form_words w c.requires.1) in
    let below : c.loop-i.i < tasks_of w = search rules in
    (omega (arith, form.tasks_most), (form.used _ below).accesses_most)

pub overflow_add-sum : goal.overflow_add-sum
overflow_add-sum c =
    let w = c.args.plan.now in
    let most = (formed w (form_words w c.requires.1)).tasks_most in
    search rules

pub loop-i-preserved : goal.loop-i-preserved
loop-i-preserved c = search (rules, sum_more)

pub returns : goal.returns
returns c =
    let w = c.args.plan.now in
    let s = sum_done (task_lines w) 289 (tasks_of w) _ _ c.loop-i.invariant (search rules) (search rules) in
    (s.all, omega (arith, s.most, (formed w (form_words w c.requires.1)).tasks_most))
