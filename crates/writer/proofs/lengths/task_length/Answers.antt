use mathlib.Core.Path.{◌≡◌}
use native.Mathlib.Omega.{arith}
use borrow.Author.Rules.{rules}
use lib.ListN.{length}
use Rattle.plan.specs.Layout.{rank_of, kernel_of, constant_of}
use Rattle.writer.specs.Parts.{three}
use Rattle.writer.proofs.Sizes.{task_length}
use Rattle.writer.proofs.lengths.task_length.Goals as goal

pub returns : goal.returns
returns c =
    let a = c.args in
    let w = a.plan.now in
    let e : c.three_length-numbers.result ≡ length (three (rank_of w a.i) (kernel_of w a.i) (constant_of w a.i)) =
    rw (c.constant.ensures, c.kernel.ensures, c.rank.ensures) at c.three_length-numbers.ensures.0 in
    (omega (arith, task_length w a.i, c.accesses_length.ensures.0), search rules)
