-- What the engine is lent: numbers of the tables that a step can go by. Nothing here need be
-- believed.
use Rattle.std.specs.Prelude.{ℕ, ◌+◌, ◌≤◌, ◌<◌, ◌≡◌, false, List, length, get_or}
use Rattle.plan.specs.Limits.{max_passes, max_accesses}
use Rattle.plan.specs.Sizes.{max_items, max_edges}
use Rattle.masks.specs.Masks.{in_mask}
use Rattle.steps.specs.State.{count_words, value_words, first_held, done_by, unmet_by}
use Rattle.prepared.specs.Tables.{prepared_words, first_read, first_write, start_in, target_count, target_in, place_count, place_in}

-- the row of item a in the part from `first` on has room for its places, and they are places
pub record Row (tables : List ℕ) (first a : ℕ) : Type 0 where
  pub few : place_count tables first a ≤ max_accesses
  pub below : (k : ℕ) → k < place_count tables first a → place_in tables first a k < first_held

-- the targets of item a stand in the tables, and are items
pub record Targets (tables : List ℕ) (a : ℕ) : Type 0 where
  pub ends : start_in tables (a + 1) ≤ max_edges
  pub few : target_count tables a < max_items
  pub below : (k : ℕ) → k < target_count tables a → target_in tables a k < max_items

-- the slices of a step of item a are long enough
pub record Sized (tables counts values : List ℕ) (a : ℕ) : Type 0 where
  pub long_tables : prepared_words ≤ length tables
  pub long_counts : count_words ≤ length counts
  pub long_values : value_words ≤ length values
  pub below : a < max_items

pub record Startable (tables counts values : List ℕ) (a : ℕ) : Type 0 where
  pub sized : Sized tables counts values a
  pub row : Row tables first_read a
  pub small : get_or counts a 0 < max_passes

pub record Finishable (tables counts values : List ℕ) (a : ℕ) : Type 0 where
  pub sized : Sized tables counts values a
  pub row : Row tables first_write a
  pub targets : Targets tables a
  pub small : done_by counts a < max_passes

-- no item that waits stands in the set
abbrev pub Apart : List ℕ → List ℕ → Type 0
Apart counts set = (b : ℕ) → b < max_items → (unmet_by counts b ≡ 0 → ⊥) → in_mask set b ≡ false
