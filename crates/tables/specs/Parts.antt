-- The tables before the places. It serves the contracts of inner functions.
use Rattle.std.specs.Prelude.{ℕ, ◌+◌, List, [], ◌∷◌, ◌++◌, length}
use Rattle.finite.specs.Lists.{tabulate}
use Rattle.body.specs.Body.{Body}
use Rattle.body.specs.Items.{item_count}
use Rattle.body.specs.Places.{system}
use Rattle.edges.specs.Tests.{edge_test}
use Rattle.waits.specs.InStep.{sources_of}
use Rattle.plan.specs.Sizes.{max_items, max_edges}
use Rattle.graph.specs.Table.{table_of}
use Rattle.prepared.specs.Tables.{padded, targets_before}

-- the number of items, their numbers, sources, starts and targets
unfoldable pub graph_part : Body → List ℕ
graph_part B =
    (item_count B ∷ [])
    ++ (padded max_items (table_of B)
    ++ (padded max_items (tabulate (item_count B) (sources_of (system B) (edge_test B)))
    ++ (padded (max_items + 1) (tabulate (item_count B + 1) (λ a. length (targets_before B a))) ++ padded max_edges (targets_before B (item_count B)))))
