-- What refuses a step by tables, 0 if nothing does; the lent values have the length `room`. It
-- serves the contracts of inner functions: nothing here need be believed.
use Rattle.std.specs.Prelude.{ℕ, ◌+◌, ◌≤◌, ◌<◌, Bool, cond, not, ◌&&◌, ◌||◌, List, [], eqb, ltb, leb, length, get_or}
use Rattle.plan.specs.Limits.{max_passes, max_accesses}
use Rattle.plan.specs.Layout.{plan_words}
use Rattle.plan.specs.Sizes.{max_items, max_edges, count_words, value_words, first_held}
use Rattle.graph.specs.Answers.{refusal_of, long_plan}
use Rattle.steps.specs.State.{state_of, done_by, unmet_by}
use Rattle.steps.specs.Answers.{tests_by, finish_tests}
use Rattle.prepared.specs.Tables.{prepared_words, first_read, first_write, items_in, start_in, target_count, target_in, place_count, place_in}
use Rattle.prepared.specs.Steps.{own_in, start_ok, finish_ok}

-- the first that holds of 11, 12 and 13, or else the step's own; the tables have n items
unfoldable pub first_refusal : Bool → ℕ → ℕ → Bool → ℕ → ℕ
first_refusal long n a ok own =
    let r = refusal_of long (leb n max_items && (not (ltb a n) || ok)) (ltb a n) in
    cond (eqb r 0) own r

module _ (plan tables counts : List ℕ) (room : ℕ) where
  abbrev pub all_long : Bool
  all_long = (long_plan plan && (leb count_words (length counts) && leb value_words room)) && leb prepared_words (length tables)

  unfoldable pub start_refusal : ℕ → ℕ
  start_refusal a =
      first_refusal all_long (items_in tables) a (start_ok plan tables counts [] a)
      (tests_by (own_in plan tables counts [] a) (state_of counts []) (unmet_by counts a) a)

  unfoldable pub finish_refusal : ℕ → ℕ
  finish_refusal a = first_refusal all_long (items_in tables) a (finish_ok plan tables counts [] a) (finish_tests (state_of counts []) a)

-- where nothing refuses a start of item a
pub record StartClear (plan tables counts : List ℕ) (room a : ℕ) : Type 0 where
  pub long_plan_lem : plan_words ≤ length plan
  pub long_tables : prepared_words ≤ length tables
  pub long_counts : count_words ≤ length counts
  pub long_values : value_words ≤ room
  pub below : a < max_items
  pub few : place_count tables first_read a ≤ max_accesses
  pub places : (k : ℕ) → k < place_count tables first_read a → place_in tables first_read a k < first_held
  pub small : get_or counts a 0 < max_passes

-- where nothing refuses its finish
pub record FinishClear (plan tables counts : List ℕ) (room a : ℕ) : Type 0 where
  pub long_plan_lem : plan_words ≤ length plan
  pub long_tables : prepared_words ≤ length tables
  pub long_counts : count_words ≤ length counts
  pub long_values : value_words ≤ room
  pub below : a < max_items
  pub few : place_count tables first_write a ≤ max_accesses
  pub places : (k : ℕ) → k < place_count tables first_write a → place_in tables first_write a k < first_held
  pub ends : start_in tables (a + 1) ≤ max_edges
  pub target_few : target_count tables a < max_items
  pub targets : (k : ℕ) → k < target_count tables a → target_in tables a k < max_items
  pub small : done_by counts a < max_passes
