use mathlib.Core.Path.{sym, ◌∙◌, ap}
use native.Mathlib.Omega.{arith}
use borrow.Author.Rules.{rules}
use lib.ListN.{length}
use Rattle.writer.proofs.Parts.{start_none}
use Rattle.writer.proofs.Sizes.{count, start_length}
use Rattle.writer.proofs.lengths.start_length.Goals as goal

pub returns-then-value-eq0 : goal.returns-then-value-eq0
returns-then-value-eq0 c = (sym (ap length (start_none _ _ (sym c.start-value.ensures ∙ c.if-value-eq0.true))), search rules)

pub returns : goal.returns
returns c =
    let value = c.start-value.ensures in
    let a = c.args in (
      omega (
        arith,
        start_length a.plan.now a.g (λ e. c.if-value-eq0.false (value ∙ e)),
        c.digit_count-2.ensures.0,
        c.digit_count.ensures.0,
        ap count value,
      ),
      search rules,
    )
