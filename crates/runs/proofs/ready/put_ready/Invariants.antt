use mathlib.Core.Path.{◌≡◌}
use lib.ListN.{length}
use Rattle.masks.specs.Masks.{mask_words, Entered}
use Rattle.runs.proofs.Readying.{ready_below}
use Rattle.runs.proofs.ready.put_ready.Given as goal

abbrev pub invariant-loop-b : goal.invariant-loop-b
invariant-loop-b l = (length l.words ≡ mask_words) × Entered l.initial.words (ready_below l.items.plan.now l.counts l.b) l.words
