use mathlib.Core.Path.{◌≡◌}
use Rattle.finite.specs.Update.{replaced}
use Rattle.values.proofs.Opening.{words_below}
use Rattle.values.proofs.openings.clear_words.Given as goal

abbrev pub invariant-loop-a : goal.invariant-loop-a
invariant-loop-a l = l.values ≡ replaced (words_below l.codes l.a) (λ x. 0) l.initial.values
