-- The list of all edges by the test. Nothing here need be believed: `proofs/` shows that it is the list of Rule.
use Rattle.std.specs.Prelude.{ℕ, ◌≤◌, ◌<◌, ◌||◌}
use mathlib.Core.List.{List, flat_map}
use Rattle.finite.specs.Below.{count_below}
use Rattle.finite.specs.Lists.{mem, gather, range}
use Rattle.body.specs.Body.{Body}
use Rattle.body.specs.Transfers.{transfer_count}
use Rattle.body.specs.Items.{item_count}
use Rattle.edges.specs.Rule.{Triple}
use Rattle.edges.specs.Tests.{distance, edge_test}

module _ (B : Body) where
  -- the edges from item a, and all
  unfoldable pub edges_from : ℕ → List Triple
  edges_from a = gather (item_count B) (edge_test B a) (λ b. (a, b, distance a b))

  unfoldable pub edge_list : List Triple
  edge_list = flat_map edges_from (range 0 (item_count B))

-- as many tasks, accesses and transfers as a plan may have
pub record Small (B : Body) : Type 0 where
  pub tasks : B.tasks ≤ 128
  pub regions : B.regions ≤ 128
  pub accesses : (i : ℕ) → i < B.tasks → count_below 128 (λ g. mem g (B.writes i) || mem g (B.reads i)) ≤ 8
  pub transfers : transfer_count B ≤ 256

-- a `Small` body has no more edges: each item's own, 2 for each transfer's slot, 2 for each access
-- of a copy
abbrev pub max_edges : ℕ
max_edges = 4224
