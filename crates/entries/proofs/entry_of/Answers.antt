use Rattle.entries.specs.Scan.{start_word, finish_word}
use Rattle.text.proofs.WordLaws.{alike_eq}
use Rattle.entries.proofs.Steps.{too_short, wordless}
use Rattle.entries.proofs.entry_of.Goals as goal

pub returns-then-line-lt7 : goal.returns-then-line-lt7
returns-then-line-lt7 c = too_short c.args.line.now c.if-line-lt7.true

pub returns : goal.returns
returns c =
    wordless c.args.line.now (alike_eq _ _ start_word c.eq.ensures c.as_slice.ensures c.if-eq.false) (alike_eq _ _ finish_word c.eq-2.ensures c.as_slice-2.ensures c.if-eq-2.false)
