-- Targets put row by row, and sources counted along. It serves the contracts of inner functions.
use Rattle.std.specs.Prelude.{ℕ, ◌+◌, ◌≤◌, ◌<◌, ◌≡◌, Bool, cond, List, [], ◌∷◌, eqb, length, get_or, take}
use Rattle.finite.specs.Below.{count_below}
use Rattle.finite.specs.Lists.{tabulate, collect}
use Rattle.finite.specs.Put.{Added}
use Rattle.body.specs.Body.{Body}
use Rattle.body.specs.Places.{system}
use Rattle.edges.specs.Tests.{edge_test}
use Rattle.waits.specs.InStep.{sources_of}
use Rattle.plan.specs.Sizes.{max_items, max_edges}
use Rattle.prepared.specs.Tables.{leads, targets_before}

-- whether item b is marked; b, if it is; the marked ones of n items
unfoldable pub is_marked : List ℕ → ℕ → Bool
is_marked marks b = eqb (get_or marks b 0) 1

unfoldable pub entry_of : List ℕ → ℕ → List ℕ
entry_of marks b = cond (is_marked marks b) (b ∷ []) []

unfoldable pub row_of : List ℕ → ℕ → List ℕ
row_of marks n = collect n (entry_of marks)

-- from item b to item r, of n, none is marked
pub record Passed (marks : List ℕ) (b n r : ℕ) : Type 0 where
  pub least : b ≤ r
  pub most : r ≤ n
  pub none : (k : ℕ) → b ≤ k → k < r → get_or marks k 0 ≡ 1 → ⊥

-- one more for each of n items of which p holds
pub record Counted (p : ℕ → Bool) (n : ℕ) (xs xs' : List ℕ) : Type 0 where
  pub size : length xs' ≡ length xs
  pub each : (b : ℕ) → b < n → get_or xs' b 0 ≡ get_or xs b 0 + cond (p b) 1 0
  pub behind : (b : ℕ) → n ≤ b → get_or xs' b 0 ≡ get_or xs b 0

-- a number for each item, none above the limit, so that one more can be counted
pub record Countable (xs : List ℕ) : Type 0 where
  pub size : length xs ≡ max_items
  pub few : (b : ℕ) → get_or xs b 0 ≤ max_items

-- the targets X are put from an offset on, and each of n items of which p holds has a source more
pub record RowPut (X : List ℕ) (p : ℕ → Bool) (n at : ℕ) (targets sources : List ℕ) (r : ℕ) (targets' sources' : List ℕ) : Type 0 where
  pub put : Added X at targets r targets'
  pub counted : Counted p n sources sources'

-- the sources among the first a items
pub record SourcesBefore (B : Body) (n a : ℕ) (sources : List ℕ) : Type 0 where
  pub size : length sources ≡ max_items
  pub each : (b : ℕ) → b < n → get_or sources b 0 ≡ count_below a (λ c. leads B c b)
  pub few : (b : ℕ) → get_or sources b 0 ≤ a

-- all targets, r of them, where those of each item start, and how many sources each has
pub record TargetsMade (B : Body) (n r : ℕ) (targets starts sources : List ℕ) : Type 0 where
  pub many : length targets ≡ max_edges
  pub most : r ≤ max_edges
  pub listed : take r targets ≡ targets_before B n
  pub long : length starts ≡ max_items + 1
  pub started : take (n + 1) starts ≡ tabulate (n + 1) (λ a. length (targets_before B a))
  pub wide : length sources ≡ max_items
  pub counted : take n sources ≡ tabulate n (sources_of (system B) (edge_test B))
