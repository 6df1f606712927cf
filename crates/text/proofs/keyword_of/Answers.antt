use Rattle.std.proofs.Common.{sym, ◌∙◌}
use Rattle.text.proofs.WordLaws.{keyword_same, keyword_loop, keyword_start, keyword_begin, keyword_in, keyword_out, keyword_inout, keyword_end}
use Rattle.text.specs.Words.{keyword_of}
use Rattle.text.proofs.keyword_of.Goals as goal

pub returns-then-same : goal.returns-then-same
returns-then-same c = keyword_same _ _ keyword_loop (sym c.same.ensures ∙ c.if-same.true)

pub returns-then-same-2 : goal.returns-then-same-2
returns-then-same-2 c = keyword_same _ _ keyword_start (sym c.same-2.ensures ∙ c.if-same-2.true)

pub returns-then-same-3 : goal.returns-then-same-3
returns-then-same-3 c = keyword_same _ _ keyword_begin (sym c.same-3.ensures ∙ c.if-same-3.true)

pub returns-then-same-4 : goal.returns-then-same-4
returns-then-same-4 c = keyword_same _ _ keyword_in (sym c.same-4.ensures ∙ c.if-same-4.true)

pub returns-then-same-5 : goal.returns-then-same-5
returns-then-same-5 c = keyword_same _ _ keyword_out (sym c.same-5.ensures ∙ c.if-same-5.true)

pub returns-then-same-6 : goal.returns-then-same-6
returns-then-same-6 c = keyword_same _ _ keyword_inout (sym c.same-6.ensures ∙ c.if-same-6.true)

pub returns-then-same-7 : goal.returns-then-same-7
returns-then-same-7 c = keyword_same _ _ keyword_end (sym c.same-7.ensures ∙ c.if-same-7.true)

pub returns : goal.returns
unfolding keyword_of
returns c =
    rw (← c.same.ensures, c.if-same.false, ← c.same-2.ensures, c.if-same-2.false, ← c.same-3.ensures, c.if-same-3.false)
    (rw (← c.same-4.ensures, c.if-same-4.false, ← c.same-5.ensures, c.if-same-5.false, ← c.same-6.ensures, c.if-same-6.false)
    (rw (← c.same-7.ensures, c.if-same-7.false)))
