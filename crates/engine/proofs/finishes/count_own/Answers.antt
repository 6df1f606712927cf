use Prim.Native.Nat.{◌+◌}
use mathlib.Core.Bool.{Bool, cond}
use mathlib.Core.Path.{◌≡◌, refl, sym, ◌∙◌, ap}
use borrow.Author.Tests.{lt-ltb, le-ltb}
use lib.Dec.{ltb}
use Rattle.plan.specs.Code.{code_fewer}
use Rattle.steps.specs.State.{done_by}
use Rattle.engine.proofs.Finished.{own_counted, own_ready}
use Rattle.engine.proofs.finishes.count_own.Goals as goal
use Rattle.engine.proofs.finishes.count_own.Goals.{then-again, else-again, Joined-again}

-- the item's own number, by whether it has another pass
number : (c : Joined-again) →
    c.if-again.counts ≡ cond (ltb (done_by c.args.counts.now c.args.a + 1 + code_fewer c.from-fewer.result) c.args.passes) c.from-sources.result 0
number c =
    elim c.if-again.branch [
      | then-again w ↦ w.counts-is ∙ sym (ap (λ (t : Bool). cond t c.from-sources.result 0) (lt-ltb _ _ w.if-again.true))
      | else-again w ↦ w.counts-is ∙ sym (ap (λ (t : Bool). cond t c.from-sources.result 0) (le-ltb _ _ w.if-again.false))
    ]

pub returns : goal.returns
returns c =
    let t = c.args.tables.now in
    let C = c.args.counts.now in
    let f = ap code_fewer c.from-fewer.ensures in
    let n = c.from-sources.ensures in (
      own_counted t C c.args.a c.args.passes _ _ _ refl f n _ (number (goal.at.returns c).Joined-again),
      own_ready t C c.args.a c.args.passes _ _ _ refl f n,
    )
