-- Steps by tables against the ordinary ones (proved in proofs/Theorems.antt). Nothing here need be
-- believed: the demands say what C gets.
use Rattle.std.specs.Prelude.{ℕ, ◌+◌, ◌≤◌, ◌<◌, ◌≡◌, Bool, true, ◌↔◌, length, get_or}
use mathlib.Core.List.{List, ◌++◌, Memᴰ as In}
use Rattle.finite.specs.Lists.{distinct}
use Rattle.body.specs.Items.{item_count, item_at}
use Rattle.body.specs.Places.{system}
use Rattle.edges.specs.Tests.{edge_test}
use Rattle.waits.specs.InStep.{sources_of, InStep}
use Rattle.plan.specs.Limits.{max_accesses}
use Rattle.plan.specs.Sizes.{max_items, max_edges}
use Rattle.plan.specs.Layout.{plan_words}
use Rattle.graph.specs.Table.{code_of}
use Rattle.graph.specs.Answers.{plan_body, formed_plan}
use Rattle.steps.specs.State.{count_words, first_held, done_by, unmet_by}
use Rattle.steps.specs.Answers.{started, finished, open_of}
use Rattle.steps.specs.Calls.{Call, start, finish, lent_by, call, play, replies, accepted}
use Rattle.prepared.specs.Tables.{prepared_words, first_read, first_write, targets_of, tables_of, items_in, code_in, sources_in, start_in, target_count, target_in, place_count, place_in, places_in}
use Rattle.prepared.specs.Steps.{started_in, finished_in, freed_in}
use Rattle.prepared.specs.Calls.{Made, calls_of, call_made, play_made, replies_made, accepted_made}

-- the slice holds the tables of the plan
pub record Prepared (plan tables : List ℕ) : Type 0 where
  pub long : prepared_words ≤ length tables
  pub items : items_in tables ≡ item_count (plan_body plan)
  pub most : item_count (plan_body plan) ≤ max_items
  pub codes : (a : ℕ) → a < item_count (plan_body plan) → code_in tables a ≡ code_of (plan_body plan) (item_at (plan_body plan) a)
  pub sources : (a : ℕ) → a < item_count (plan_body plan) → sources_in tables a ≡ sources_of (system (plan_body plan)) (edge_test (plan_body plan)) a
  -- the targets of each item are where its starts say
  pub ends : (a : ℕ) → a < item_count (plan_body plan) → start_in tables (a + 1) ≤ max_edges
  pub counted : (a : ℕ) → a < item_count (plan_body plan) → target_count tables a ≡ length (targets_of (plan_body plan) a)
  pub targets : (a k : ℕ) → a < item_count (plan_body plan) → k < target_count tables a → target_in tables a k ≡ get_or (targets_of (plan_body plan) a) k 0
  -- the places that it reads and writes
  pub read_few : (a : ℕ) → a < item_count (plan_body plan) → place_count tables first_read a ≤ max_accesses
  pub reads : (a : ℕ) → a < item_count (plan_body plan) → places_in tables first_read a ≡ (system (plan_body plan)).reads a
  pub written_few : (a : ℕ) → a < item_count (plan_body plan) → place_count tables first_write a ≤ max_accesses
  pub writes : (a : ℕ) → a < item_count (plan_body plan) → places_in tables first_write a ≡ (system (plan_body plan)).writes a
  pub read_below : (a k : ℕ) → a < item_count (plan_body plan) → k < place_count tables first_read a → place_in tables first_read a k < first_held
  pub written_below : (a k : ℕ) → a < item_count (plan_body plan) → k < place_count tables first_write a → place_in tables first_write a k < first_held

pub record Laws : Type 0 where
  -- the tables of a plan in form, with anything behind them
  pub prepares : (plan behind : List ℕ) → formed_plan plan ≡ true → Prepared plan (tables_of (plan_body plan) ++ behind)
  -- a step that is accepted; a finish of an item whose neighbours are in step
  pub started_same : (plan tables counts values : List ℕ) → plan_words ≤ length plan → formed_plan plan ≡ true → Prepared plan tables → (a : ℕ) → a < item_count (plan_body plan) →
      started_in plan tables counts values a ≡ started plan counts values a
  pub finished_same : (plan tables counts values : List ℕ) → plan_words ≤ length plan → formed_plan plan ≡ true → Prepared plan tables → count_words ≤ length counts → (a : ℕ) → a < item_count (plan_body plan) →
      InStep (system (plan_body plan)) (edge_test (plan_body plan)) (done_by counts) (unmet_by counts) a →
      finished_in plan tables counts values a ≡ finished plan counts values a
  -- every list of calls from an opening, by the tables or ordinary in any mixture, is answered, and
  -- leaves, what the ordinary calls do
  pub same_play : (plan tables counts values : List ℕ) → Prepared plan tables → (open_of plan counts values).refusal ≡ 0 → (l : List Made) →
      play_made plan tables (lent_by (open_of plan counts values)) l ≡ play plan (lent_by (open_of plan counts values)) (calls_of l)
  pub same_replies : (plan tables counts values : List ℕ) → Prepared plan tables → (open_of plan counts values).refusal ≡ 0 → (l : List Made) →
      replies_made plan tables (lent_by (open_of plan counts values)) l ≡ replies plan (lent_by (open_of plan counts values)) (calls_of l)
  pub same_accepted : (plan tables counts values : List ℕ) → Prepared plan tables → (open_of plan counts values).refusal ≡ 0 → (t : Call → Bool) (l : List Made) →
      accepted_made plan tables t (lent_by (open_of plan counts values)) l ≡ accepted plan t (lent_by (open_of plan counts values)) (calls_of l)
  -- after every such list a call by the tables is the ordinary one
  pub same_call : (plan tables counts values : List ℕ) → Prepared plan tables → (open_of plan counts values).refusal ≡ 0 → (l : List Call) (m : Made) →
      let s = play plan (lent_by (open_of plan counts values)) l in call_made plan tables s m ≡ call plan s m.call
  -- an accepted finish lists just the items whose start it makes accepted, each once
  pub freed : (plan tables counts values : List ℕ) → Prepared plan tables → (open_of plan counts values).refusal ≡ 0 → (l : List Call) (a : ℕ) →
      let s = play plan (lent_by (open_of plan counts values)) l in
      (call plan s (finish a)).refusal ≡ 0 → (b : ℕ) →
      In b (freed_in plan tables s.counts s.values a)
      ↔ (((call plan (lent_by (call plan s (finish a))) (start b)).refusal ≡ 0) × ((call plan s (start b)).refusal ≡ 0 → ⊥))
  pub freed_once : (plan tables counts values : List ℕ) → Prepared plan tables → (open_of plan counts values).refusal ≡ 0 → (l : List Call) (a : ℕ) →
      let s = play plan (lent_by (open_of plan counts values)) l in
      (call plan s (finish a)).refusal ≡ 0 → distinct (freed_in plan tables s.counts s.values a) ≡ true
  pub freed_few : (plan tables counts values : List ℕ) → Prepared plan tables → (open_of plan counts values).refusal ≡ 0 → (l : List Call) (a : ℕ) →
      let s = play plan (lent_by (open_of plan counts values)) l in
      (call plan s (finish a)).refusal ≡ 0 → length (freed_in plan tables s.counts s.values a) ≤ max_items
  -- and takes none off those that are ready
  pub ready_kept : (plan tables counts values : List ℕ) → Prepared plan tables → (open_of plan counts values).refusal ≡ 0 → (l : List Call) (a : ℕ) →
      let s = play plan (lent_by (open_of plan counts values)) l in
      (call plan s (finish a)).refusal ≡ 0 → (b : ℕ) → (call plan s (start b)).refusal ≡ 0 →
      (call plan (lent_by (call plan s (finish a))) (start b)).refusal ≡ 0
