-- The walk round the loop from one item: the places of its rank that are open, which the items
-- passed close, and a mark for each item that has an edge with it. It serves the contracts of inner
-- functions; `proofs/` shows that the marks are the edges.
use Rattle.std.specs.Prelude.{ℕ, ◌+◌, ◌-◌, ◌≤◌, ◌<◌, ◌≡◌, Bool, cond, not, List, eqb, leb, length, get_or}
use Rattle.finite.specs.Below.{any_below}
use Rattle.body.specs.Body.{Body}
use Rattle.edges.specs.Tests.{written, copy_edge, edge_test}
use Rattle.plan.specs.Limits.{max_regions}
use Rattle.plan.specs.Sizes.{max_items}

-- for each region how the item that asks touches it, or 0 once an item passed has written it
pub record Places (l : List ℕ) : Type 0 where
  pub size : length l ≡ max_regions
  pub most : (g : ℕ) → get_or l g 0 ≤ 2

-- whether a place is open
unfoldable pub any_open : List ℕ → Bool
any_open l = any_below max_regions (λ g. not (eqb (get_or l g 0) 0))

-- no place is open
abbrev pub Shut : List ℕ → Type 0
Shut l = (g : ℕ) → g < max_regions → get_or l g 0 ≡ 0

-- the places l are those that are touched as t says
pub record Touches (t : ℕ → ℕ) (l : List ℕ) : Type 0 where
  pub size : length l ≡ max_regions
  pub each : (g : ℕ) → g < max_regions → get_or l g 0 ≡ t g

-- of the places l region g is open, and its copy is written by the item that asks or by one that
-- touches it as t says
abbrev pub clash : List ℕ → (ℕ → ℕ) → ℕ → Bool
clash l t g = leb 3 (get_or l g 0 + t g)

-- the same where the places are closed for which S holds
abbrev pub clash_left : (ℕ → Bool) → List ℕ → (ℕ → ℕ) → ℕ → Bool
clash_left S l t g = leb 3 (cond (S g) 0 (get_or l g 0) + t g)

-- the places l are met by an item that touches them as t says: whether one of both writes an open
-- place, and the places left open
pub record Meets (t : ℕ → ℕ) (l l' : List ℕ) (hit : Bool) : Type 0 where
  pub size : length l' ≡ max_regions
  pub left : (g : ℕ) → g < max_regions → get_or l' g 0 ≡ cond (eqb (t g) 2) 0 (get_or l g 0)
  pub hits : hit ≡ any_below max_regions (clash l t)

-- T b g: how item b, of n, touches region g; the `count` items from lo on are passed, the last
-- first if `back`
module _ (n : ℕ) (T : ℕ → ℕ → ℕ) (lo count : ℕ) (back : Bool) where
  -- of the items passed before b one writes region g
  abbrev pub passed : ℕ → ℕ → Bool
  passed b g = cond back (written n T (b + 1) (lo + count - (b + 1)) g) (written n T lo (b - lo) g)

  unfoldable pub hit_at : List ℕ → ℕ → Bool
  hit_at l b = any_below max_regions (clash_left (passed b) l (T b))

  pub record Passes (l l' marks marks' : List ℕ) : Type 0 where
    pub size : length l' ≡ max_regions
    pub left : (g : ℕ) → g < max_regions → get_or l' g 0 ≡ cond (written n T lo count g) 0 (get_or l g 0)
    pub room : length marks' ≡ length marks
    pub marked : (b : ℕ) → lo ≤ b → b < lo + count → get_or marks' b 0 ≡ cond (hit_at l b) 1 (get_or marks b 0)
    pub others : (b : ℕ) → (lo ≤ b → b < lo + count → ⊥) → get_or marks' b 0 ≡ get_or marks b 0

-- the item that is passed k-th
abbrev pub item_passed : ℕ → ℕ → ℕ → Bool → ℕ
item_passed lo count k back = cond back (lo + count - (k + 1)) (lo + k)

-- the marks of the items with an edge by a copy from item a, or if `back` to it; no other changes
module _ (B : Body) (n a : ℕ) (back : Bool) where
  pub record CopyMarks (marks marks' : List ℕ) : Type 0 where
    pub room : length marks' ≡ length marks
    pub each : (b : ℕ) → b < n → (b ≡ a → ⊥) → get_or marks' b 0 ≡ cond (cond back (copy_edge B b a) (copy_edge B a b)) 1 (get_or marks b 0)
    pub own : get_or marks' a 0 ≡ get_or marks a 0
    pub behind : (b : ℕ) → n ≤ b → get_or marks' b 0 ≡ get_or marks b 0

  -- 1 for each of the n items with an edge, 0 for the others and behind them
  pub record Marks (marks : List ℕ) : Type 0 where
    pub room : length marks ≡ max_items
    pub each : (b : ℕ) → b < n → get_or marks b 0 ≡ cond (cond back (edge_test B b a) (edge_test B a b)) 1 0
    pub behind : (b : ℕ) → n ≤ b → b < max_items → get_or marks b 0 ≡ 0

-- the other item of a transfer, for a task the item itself
abbrev pub partner_of : ℕ → ℕ → ℕ
partner_of kind a = cond (eqb kind 1) (a + 1) (cond (eqb kind 2) (a - 1) a)
