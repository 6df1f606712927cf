use mathlib.Core.Path.{◌≡◌}
use Rattle.finite.specs.Update.{replaced}
use Rattle.plan.specs.Layout.{is_written}
use Rattle.graph.proofs.Accesses.{Passed, named}
use Rattle.values.proofs.places.write_task.Given as goal

abbrev pub invariant-loop-k : goal.invariant-loop-k
invariant-loop-k l =
    Passed l.plan l.i l.count l.k × (l.copies ≡ replaced (named l.plan l.i (is_written l.plan l.i) l.k) (λ g. l.word) l.initial.copies)
