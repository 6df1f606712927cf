-- The tables of a plan: what a step needs of the plan's graph, made once, so that a step need not
-- look at the whole plan. A lent slice of 16-bit numbers, in seven parts:
--   0                    the number of items n
--   first_code + a        item a's number in the item table
--   first_source + a      how many other items have an edge to item a
--   first_start + a       where the targets of item a start among all targets, for a from 0 to n
--   first_target + j      target j
--   first_read + 9 a + k  place k that item a reads, for k below 8; for k = 8 how many it reads
--   first_write + 9 a + k the same of the places that it writes
-- The targets of an item are the other items to which it has an edge, rising; those of item 0 come
-- first. Every other number is 0.
use Rattle.std.specs.Prelude.{ℕ, ◌+◌, ◌-◌, ◌*◌, ◌≡◌, Bool, true, not, ◌&&◌, List, [], ◌∷◌, ◌++◌, eqb, leb, length, get_or, drop}
use Rattle.finite.specs.Lists.{tabulate, gather, collect}
use Rattle.body.specs.Body.{Body}
use Rattle.body.specs.Items.{item_count}
use Rattle.body.specs.Places.{system}
use Rattle.edges.specs.Tests.{edge_test}
use Rattle.waits.specs.InStep.{sources_of}
use Rattle.plan.specs.Limits.{max_accesses}
use Rattle.plan.specs.Sizes.{max_items, max_edges}
use Rattle.graph.specs.declared.Number.{Number}
use Rattle.graph.specs.Table.{table_of}
use Rattle.graph.specs.Answers.{refusal_of, long_plan, formed_plan, plan_body}

-- where each part starts, and the size of the whole
abbrev pub first_code : ℕ
first_code = 1

abbrev pub first_source : ℕ
first_source = 641

abbrev pub first_start : ℕ
first_start = 1281

abbrev pub first_target : ℕ
first_target = 1922

abbrev pub first_read : ℕ
first_read = 6146

abbrev pub first_write : ℕ
first_write = 11906

abbrev pub prepared_words : ℕ
prepared_words = 17666

-- the numbers of a part of rows, nine for each of 640 items
abbrev pub list_words : ℕ
list_words = 5760

-- the list l in a part of k numbers, zeros behind it
unfoldable pub padded : ℕ → List ℕ → List ℕ
padded k l = tabulate k (λ i. get_or l i 0)

-- a row of places: the places, and how many they are
unfoldable pub place_row : List ℕ → List ℕ
place_row l = padded max_accesses l ++ (length l ∷ [])

module _ (B : Body) where
  -- an edge from item a to another item b
  unfoldable pub leads : ℕ → ℕ → Bool
  leads a b = edge_test B a b && not (eqb a b)

  unfoldable pub targets_of : ℕ → List ℕ
  targets_of a = gather (item_count B) (leads a) (λ b. b)

  -- the targets of the first a items
  unfoldable pub targets_before : ℕ → List ℕ
  targets_before a = collect a targets_of

  -- the rows of all items, of which item a has the places f a
  unfoldable pub place_rows : (ℕ → List ℕ) → List ℕ
  place_rows f = padded list_words (collect (item_count B) (λ a. place_row (f a)))

  unfoldable pub tables_of : List ℕ
  tables_of =
      (item_count B ∷ [])
      ++ (padded max_items (table_of B)
      ++ (padded max_items (tabulate (item_count B) (sources_of (system B) (edge_test B)))
      ++ (padded (max_items + 1) (tabulate (item_count B + 1) (λ a. length (targets_before a)))
      ++ (padded max_edges (targets_before (item_count B))
      ++ (place_rows (system B).reads ++ place_rows (system B).writes)))))

-- what preparing answers and leaves: 11 a slice too short, 12 a plan not in form, and then nothing
-- is changed; else the number of items, and the tables; what lies behind them stays
pub record PrepareAnswer (w tables : List ℕ) (r : Number) (tables' : List ℕ) : Type 0 where
  pub refusal : r.refusal ≡ refusal_of (long_plan w && leb prepared_words (length tables)) (formed_plan w) true
  pub made : r.refusal ≡ 0 → (r.number ≡ item_count (plan_body w)) × (tables' ≡ tables_of (plan_body w) ++ drop prepared_words tables)
  pub refused : (r.refusal ≡ 0 → ⊥) → (r.number ≡ 0) × (tables' ≡ tables)

-- the numbers of a lent slice, whatever it holds
module _ (tables : List ℕ) where
  abbrev pub items_in : ℕ
  items_in = get_or tables 0 0

  abbrev pub code_in : ℕ → ℕ
  code_in a = get_or tables (first_code + a) 0

  abbrev pub sources_in : ℕ → ℕ
  sources_in a = get_or tables (first_source + a) 0

  abbrev pub start_in : ℕ → ℕ
  start_in a = get_or tables (first_start + a) 0

  -- how many targets item a has, and the k-th of them
  abbrev pub target_count : ℕ → ℕ
  target_count a = start_in (a + 1) - start_in a

  abbrev pub target_in : ℕ → ℕ → ℕ
  target_in a k = get_or tables (first_target + (start_in a + k)) 0

  -- the row of item a in the part from `first` on: how many places it has, place k, and all of them
  abbrev pub place_count : ℕ → ℕ → ℕ
  place_count first a = get_or tables (first + (9 * a + 8)) 0

  abbrev pub place_in : ℕ → ℕ → ℕ → ℕ
  place_in first a k = get_or tables (first + (9 * a + k)) 0

  unfoldable pub places_in : ℕ → ℕ → List ℕ
  places_in first a = tabulate (place_count first a) (place_in first a)
