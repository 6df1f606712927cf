use Rattle.std.proofs.Common.{◌≡◌, true, drop, sym, ◌∙◌}
use borrow.Author.Tests.{not-true, not-false}
use Rattle.entries.specs.Scan.{head_digit}
use Rattle.entries.proofs.Numbers.{long_whole, long_more, long_large, long_value}
use Rattle.entries.proofs.long_number.Goals as goal
use Rattle.entries.proofs.long_number.Goals.{Else-not-digit_at}

-- a digit follows
more : (c : Else-not-digit_at) → head_digit (drop c.args.end c.args.s.now) ≡ true
more c = sym c.digit_at.ensures ∙ not-false _ c.if-not-digit_at.false-raw

pub returns-then-not-digit_at : goal.returns-then-not-digit_at
returns-then-not-digit_at c =
    let a = c.args in
    long_whole a.s.now a.at a.most a.end c.requires (sym c.digit_at.ensures ∙ not-true _ c.if-not-digit_at.true-raw)

pub returns-then-digit_at : goal.returns-then-digit_at
returns-then-digit_at c =
    let a = c.args in
    long_more a.s.now a.at a.most a.end c.requires (more (goal.at.returns-then-digit_at c).Else-not-digit_at) (sym c.digit_at-2.ensures ∙ c.if-digit_at.true)

pub returns-then-last-most : goal.returns-then-last-most
returns-then-last-most c =
    let a = c.args in
    long_large a.s.now a.at a.most a.end c.requires (more (goal.at.returns-then-last-most c).Else-not-digit_at) c.from-last.result c.from-last.ensures
    (sym c.digit_at-2.ensures ∙ c.if-digit_at.false) c.if-last-most.true

pub returns : goal.returns
returns c =
    let a = c.args in
    long_value a.s.now a.at a.most a.end c.requires (more (goal.at.returns c).Else-not-digit_at) c.from-last.result c.from-last.ensures
    (sym c.digit_at-2.ensures ∙ c.if-digit_at.false) c.if-last-most.false
