use mathlib.Core.Path.{◌≡◌}
use lib.ListN.{length}
use Rattle.body.specs.Places.{system}
use Rattle.edges.specs.Tests.{edge_test}
use Rattle.waits.specs.Stored.{lowered_to}
use Rattle.plan.specs.Sizes.{first_unmet}
use Rattle.plan.specs.Layout.{body_of}
use Rattle.steps.specs.State.{done_by}
use Rattle.unmet.proofs.lower_waits.Given as goal

abbrev pub invariant-loop-a : goal.invariant-loop-a
invariant-loop-a l =
    (length l.counts ≡ length l.initial.counts)
    × (l.counts ≡ lowered_to (system (body_of l.items.plan.now)) (edge_test (body_of l.items.plan.now)) first_unmet (done_by l.initial.counts) l.b l.a l.initial.counts)
