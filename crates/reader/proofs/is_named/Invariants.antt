use mathlib.Core.Path.{◌≡◌}
use lib.Dec.{eqb}
use Rattle.finite.specs.Below.{any_below}
use Rattle.plan.specs.Layout.{region_at}
use Rattle.reader.proofs.is_named.Given as goal

abbrev pub invariant-loop-a : goal.invariant-loop-a
invariant-loop-a l = l.found ≡ any_below l.a (λ k. eqb l.region (region_at l.plan l.t k))
