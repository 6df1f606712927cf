use Prim.Native.Nat.{◌≤◌}
use mathlib.Core.Path.{◌≡◌}
use mathlib.Core.List.{[]}
use lib.Dec.{ltb}
use lib.ListN.{length}
use Rattle.finite.specs.Update.{replaced}
use Rattle.body.specs.Places.{result_of}
use Rattle.plan.specs.Sizes.{result_words}
use Rattle.plan.specs.Layout.{body_of, regions_of}
use Rattle.steps.specs.State.{state_of}
use Rattle.runs.proofs.shown.put_results.Given as goal

abbrev pub invariant-loop-g : goal.invariant-loop-g
invariant-loop-g l = (l.g ≤ l.regions) × (l.regions ≡ regions_of l.plan) × (l.regions ≤ result_words) × (length l.results ≡ length l.initial.results) ×
    (l.results ≡ replaced (λ i. ltb i l.g) (result_of (body_of l.plan) (state_of [] l.values)) l.initial.results)
