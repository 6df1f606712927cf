use mathlib.Core.Path.{◌≡◌}
use mathlib.Core.Bool.{not}
use lib.Dec.{eqb}
use lib.ListN.{get_or}
use Rattle.finite.specs.Below.{any_below}
use Rattle.walk.proofs.rows.any_open.Given as goal

abbrev pub invariant-loop-touch : goal.invariant-loop-touch
invariant-loop-touch l = l.found ≡ any_below l.touch-index (λ g'. not (eqb (get_or l.places g' 0) 0))
