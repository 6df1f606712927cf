use Prim.Native.Nat.{◌*◌}
use mathlib.Core.Path.{ap}
use native.Mathlib.Omega.{arith}
use borrow.Author.Rules.{rules}
use Rattle.finite.proofs.Below.{sum_none, sum_more, sum_done}
use Rattle.doors.proofs.Counting.{own_most}
use Rattle.calls.proofs.Behind.{total_is}
use Rattle.calls.proofs.totals.total_steps.Goals as goal

pub loop-a-init : goal.loop-a-init
loop-a-init c = search (rules, sum_none)

pub overflow_mul-steps : goal.overflow_mul-steps
overflow_mul-steps c = omega (arith, c.passes.ensures, own_most c.args.items.now.drawn c.loop-a.a)

pub overflow_add-steps : goal.overflow_add-steps
overflow_add-steps c =
    let G = c.args.items.now.drawn in
    omega (arith, c.passes.ensures, own_most G c.loop-a.a, G.most)

pub loop-a-preserved : goal.loop-a-preserved
loop-a-preserved c = (
  omega (arith, c.passes.ensures, own_most c.args.items.now.drawn c.loop-a.a),
  sum_more _ _ _ _ c.loop-a.invariant.1 (ap (λ k. 2 * k) c.passes.ensures),
)

pub returns : goal.returns
returns c =
    total_is _ _ _ c.args.items.now.drawn _ (sum_done _ _ _ _ c.loop-a.invariant.1 (omega arith) (omega arith))
