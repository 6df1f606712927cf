use mathlib.Core.Path.{sym}
use native.Mathlib.Omega.{arith}
use lib.Seq.{length-take-le}
use Rattle.engine.proofs.Rows.{word_by_lem}
use Rattle.engine.proofs.starts.item_word.Goals as goal

pub slice_bounds-word_from-end-2 : goal.slice_bounds-word_from-end-2
slice_bounds-word_from-end-2 c =
    let g = c.gather_words-count in
    sym (length-take-le g.result g.new.words (omega (arith, g.ensures.1, g.ensures.2)))

pub returns : goal.returns
returns c = (
  λ C. word_by_lem c.args.plan.now c.args.tables.now C c.args.values.now c.args.a _ _ _ c.from.ensures c.gather_words-count.ensures.0
      c.word_from.ensures,
  c.gather_words-count.ensures.2,
)
