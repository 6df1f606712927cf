use Prim.Native.Nat.{◌≤◌}
use mathlib.Core.Path.{◌≡◌}
use Rattle.finite.specs.Below.{count_below}
use Rattle.body.specs.Places.{system}
use Rattle.edges.specs.Tests.{edge_test}
use Rattle.waits.specs.Waits.{is_unmet}
use Rattle.plan.specs.Layout.{body_of}
use Rattle.steps.specs.State.{done_by}
use Rattle.unmet.proofs.count_unmet.Given as goal

abbrev pub invariant-loop-b : goal.invariant-loop-b
invariant-loop-b l =
    (l.count ≤ l.b) × (l.count ≡ count_below l.b (is_unmet (system (body_of l.items.plan.now)) (edge_test (body_of l.items.plan.now)) (done_by l.counts) l.a))
