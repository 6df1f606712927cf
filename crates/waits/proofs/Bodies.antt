-- The items of a body: the test of edges that code goes by, and the tests of a finish's two loops.
use Prim.Native.Nat.{ℕ, ◌+◌, ◌≤◌, ◌<◌}
use mathlib.Core.Path.{◌≡◌}
use mathlib.Core.Bool.{true}
use Rattle.body.specs.Body.{Body, Fits}
use Rattle.body.specs.Items.{item_count, item_passes}
use Rattle.body.specs.Places.{system}
use Rattle.body.proofs.Made.{waits_made}
use Rattle.edges.specs.Tests.{distance, edge_test}
use Rattle.edges.proofs.Decided.{edge_test_lem, test_edge}
use Rattle.waits.specs.Waits.{Tells}

pub tells : (B : Body) → Fits B → B.regions ≤ 128 → Tells (system B) (edge_test B)
tells B F few b a lb la = (test_edge B F b a lb la, edge_test_lem B F few b a (distance b a))

-- every instance that a made one waits for is made
pub source_made : (B : Body) → Fits B → (b a p : ℕ) → b < item_count B → a < item_count B → edge_test B b a ≡ true →
    p + distance b a < item_passes B a → p < item_passes B b
source_made B F b a p lb la e = waits_made B F b a (distance b a) p (test_edge B F b a lb la e)
