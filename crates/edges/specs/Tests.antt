-- Whether an edge stands, as a test of numbers. The crates above go by it; `proofs/` shows that it
-- is the rule of the crate unroll.
use Rattle.std.specs.Prelude.{ℕ, ◌+◌, ◌-◌, Bool, cond, not, ◌&&◌, ◌||◌, eqb, ltb, leb}
use Rattle.finite.specs.Below.{any_below}
use Rattle.body.specs.Body.{Body}
use Rattle.body.specs.Items.{kind_of, item_rank, item_count, item_at}
use Rattle.edges.specs.Touch.{touch_on}

-- n items, and how item a touches region g of one rank: T a g
module _ (n : ℕ) (T : ℕ → ℕ → ℕ) where
  -- one of the k items from lo on writes region g
  unfoldable pub written : ℕ → ℕ → ℕ → Bool
  written lo k g = any_below k (λ j. eqb (T (lo + j) g) 2)

  -- one strictly between item a and the next item b round the loop does
  unfoldable pub written_between : ℕ → ℕ → ℕ → Bool
  written_between a b g = cond (ltb a b) (written (a + 1) (b - (a + 1)) g) (written (a + 1) (n - (a + 1)) g || written 0 b g)

  -- items a and b conflict at region g, and none between writes it
  unfoldable pub crossed : ℕ → ℕ → ℕ → Bool
  crossed a b g = leb 3 (T a g + T b g) && not (written_between a b g)

-- an edge leads to a later item in the same pass, or to one that is not later in the next
abbrev pub distance : ℕ → ℕ → ℕ
distance a b = cond (ltb a b) 0 1

module _ (B : Body) where
  abbrev pub kind_at : ℕ → ℕ
  kind_at a = kind_of (item_at B a)

  abbrev pub rank_at : ℕ → ℕ
  rank_at a = item_rank B (item_at B a)

  -- a and b are the send and the receive of a transfer, or its receive and its send
  unfoldable pub paired : ℕ → ℕ → Bool
  paired a b = (eqb (kind_at a) 1 && eqb b (a + 1)) || (eqb (kind_at a) 2 && eqb a (b + 1))

  -- an edge from a to b by a copy on a's rank
  unfoldable pub copy_edge : ℕ → ℕ → Bool
  copy_edge a b = any_below 128 (crossed (item_count B) (touch_on B (rank_at a)) a b)

  -- an edge from a to b: by the item itself, a slot or a copy
  unfoldable pub edge_test : ℕ → ℕ → Bool
  edge_test a b = eqb a b || (paired a b || copy_edge a b)
