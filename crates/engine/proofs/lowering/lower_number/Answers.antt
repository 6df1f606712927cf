use mathlib.Core.Path.{sym}
use native.Mathlib.Omega.{arith}
use borrow.Author.Tests.{ne_eqb}
use Rattle.steps.specs.State.{unmet_by}
use Rattle.engine.proofs.Lowered.{number_stays}
use Rattle.engine.proofs.lowering.lower_number.Goals as goal

pub returns-then-number-eq0 : goal.returns-then-number-eq0
returns-then-number-eq0 c =
    (number_stays c.args.counts.now c.args.b c.if-number-eq0.true, sym (ne_eqb (unmet_by c.args.counts.now c.args.b) 1 (λ z. omega (arith, c.if-number-eq0.true))))
