use Prim.Native.Nat.{ℕ}
use mathlib.Core.Path.{◌∙◌, ap}
use borrow.Author.Rules.{rules}
use lib.ListN.{length}
use Rattle.writer.specs.Parts.{access_line, access_line_at}
use Rattle.writer.proofs.Sizes.{sum_none, sum_more}
use Rattle.writer.proofs.lengths.accesses_length.Goals as goal

pub loop-a-init : goal.loop-a-init
loop-a-init c = search (rules, sum_none)

pub loop-a-preserved : goal.loop-a-preserved
unfolding access_line_at
loop-a-preserved c =
    sum_more (access_line_at c.args.plan.now c.args.i) 27 _ _ _ c.loop-a.invariant (c.access_length-sum.ensures.0 ∙ ap (λ (x : ℕ). length (access_line x)) c.access.ensures) c.access_length-sum.ensures.1
