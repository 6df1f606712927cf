use native.Mathlib.Omega.{arith}
use borrow.Author.Rules.{rules}
use Rattle.values.proofs.Opening.{words_none, words_more}
use Rattle.values.proofs.openings.clear_words.Goals as goal

pub loop-a-init : goal.loop-a-init
loop-a-init c = search (rules, words_none)

pub loop-a-preserved : goal.loop-a-preserved
loop-a-preserved c =
    let a = c.args in
    let l = c.loop-a in
    let k = c.item_kind-kind.ensures in
    words_more a.codes.now a.values.now l.values _ l.a _ l.invariant c.from.ensures (rw k at c.put_if.ensures) (omega arith)
