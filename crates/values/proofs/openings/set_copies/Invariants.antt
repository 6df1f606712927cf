use mathlib.Core.Path.{◌≡◌}
use lib.Dec.{ltb}
use Rattle.finite.specs.Update.{replaced}
use Rattle.body.specs.Places.{initial}
use Rattle.plan.specs.Layout.{body_of}
use Rattle.values.proofs.openings.set_copies.Given as goal

abbrev pub invariant-loop-x : goal.invariant-loop-x
invariant-loop-x l = l.values ≡ replaced (λ i. ltb i l.x) (initial (body_of l.plan)) l.initial.values
