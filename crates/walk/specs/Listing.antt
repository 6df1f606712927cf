-- The numbers of the edges from an item in the order in which they are put. It serves the contracts
-- of inner functions.
use Rattle.std.specs.Prelude.{ℕ, cond, eqb, get_or}
use mathlib.Core.List.{List, [], flat_map}
use Rattle.finite.specs.Lists.{collect}
use Rattle.body.specs.Body.{Body}
use Rattle.edges.specs.Tests.{distance}
use Rattle.edges.specs.EdgeList.{edges_from}
use Rattle.graph.specs.Answers.{three}

-- the edge from a to b, if b is marked
unfoldable pub entry_of : List ℕ → ℕ → ℕ → List ℕ
entry_of marks a b = cond (eqb (get_or marks b 0) 1) (three (a, b, distance a b)) []

-- the edges from a to the n items
unfoldable pub row_of : List ℕ → ℕ → ℕ → List ℕ
row_of marks n a = collect n (entry_of marks a)

-- the edges from item a of a body
unfoldable pub numbers_from : Body → ℕ → List ℕ
numbers_from B a = flat_map three (edges_from B a)
