-- What refuses a step, by the numbers that it looks at. It serves the contracts of inner functions:
-- nothing here need be believed.
use Rattle.std.specs.Prelude.{ℕ, ◌+◌, ◌-◌, ◌≤◌, ◌<◌, Bool, cond, ◌&&◌, ◌||◌, List, eqb, ltb, leb, length, get_or}
use Rattle.plan.specs.Limits.{max_passes}
use Rattle.plan.specs.Layout.{plan_words, passes_of}
use Rattle.plan.specs.Sizes.{max_items, count_words, value_words, first_finished, first_unmet}
use Rattle.plan.specs.Code.{code_fewer}
use Rattle.prepared.specs.Tables.{prepared_words, items_in, code_in}
use Rattle.ranges.specs.declared.Item.{Item}

-- slices of these lengths are long enough
abbrev pub lengths_ok : ℕ → ℕ → ℕ → ℕ → Bool
lengths_ok plan tables counts values = (leb plan_words plan && (leb count_words counts && leb value_words values)) && leb prepared_words tables

-- those of 11, 12 and 13 in which the words of an item have no part; the tables have n items
unfoldable pub early_refusal : Bool → ℕ → ℕ → ℕ
early_refusal long n a = cond long (cond (leb n max_items) (cond (ltb a n) 0 13) 12) 11

-- where none of them holds
pub record Within (plan : ℕ) (tables : List ℕ) (counts a : ℕ) : Type 0 where
  pub long_plan_lem : plan_words ≤ plan
  pub long_tables : prepared_words ≤ length tables
  pub long_counts : count_words ≤ counts
  pub few : items_in tables ≤ max_items
  pub below : a < items_in tables

-- the numbers of item a
unfoldable pub item_in : List ℕ → List ℕ → List ℕ → ℕ → Item
item_in plan tables counts a =
    record {
      passes = passes_of plan;
      own = passes_of plan - code_fewer (code_in tables a);
      items = items_in tables;
      started = get_or counts a 0;
      finished = get_or counts (first_finished + a) 0;
      unmet = get_or counts (first_unmet + a) 0;
    }

-- started and finished passes of an item that has so many are in form
abbrev pub counted_ok : ℕ → ℕ → ℕ → Bool
counted_ok own started finished = leb finished own && (eqb started finished || (eqb started (finished + 1) && ltb finished own))

module _ (x : Item) where
  -- the numbers lie in their ranges
  abbrev pub range_ok : Bool
  range_ok = leb x.passes max_passes && (counted_ok x.own x.started x.finished && leb x.unmet x.items)

  -- they do, and the item runs
  abbrev pub running_ok : Bool
  running_ok = ltb x.finished x.own && (eqb x.started (x.finished + 1) && (leb x.unmet x.items && leb x.passes max_passes))

  -- 12, or 14, 15 and 16 of a start
  unfoldable pub start_by : ℕ
  start_by =
      cond range_ok
      (cond (ltb x.finished x.own) (cond (eqb x.started x.finished) (cond (eqb x.unmet 0) 0 16) 15) 14)
      12

  -- 12, or 17 of a finish
  unfoldable pub finish_by : ℕ
  finish_by = cond range_ok (cond (eqb x.started x.finished) 17 0) 12
