use mathlib.Core.Bool.{or-false}
use mathlib.Core.Path.{sym, ◌∙◌}
use borrow.Author.Tests.{ne_eqb}
use Rattle.open_waits.specs.Sources.{marked}
use Rattle.open_waits.proofs.mark_send.Goals as goal

pub overflow_sub-a : goal.overflow_sub-a
overflow_sub-a c = c.requires.2 c.if-kind-eq-RECEIVE.true

pub returns-then-kind-eq-RECEIVE : goal.returns-then-kind-eq-RECEIVE
returns-then-kind-eq-RECEIVE c =
    let is = c.mark_item.ensures in
    (is.0, λ b l. is.1 b l ∙ rw c.if-kind-eq-RECEIVE.true)

pub returns : goal.returns
returns c =
    (c.requires.0, λ b l. rw (ne_eqb c.args.kind 2 c.if-kind-eq-RECEIVE.false) (sym (or-false (marked c.args.mark c.args.seen.now b))))
