-- What a run goes by besides the lent state: the set of the items that are ready. It serves the
-- contracts of private functions: nothing here need be believed.
use Rattle.std.specs.Prelude.{ℕ, ◌≤◌, ◌<◌, ◌≡◌, true, false, not, ◌&&◌, List, eqb, ltb, length}
use Rattle.body.specs.Items.{item_count}
use Rattle.body.specs.Places.{system}
use Rattle.edges.specs.Tests.{edge_test}
use Rattle.waits.specs.InStep.{InStep}
use Rattle.plan.specs.Sizes.{max_items, count_words, value_words}
use Rattle.graph.specs.Answers.{plan_body}
use Rattle.masks.specs.Masks.{mask_words, in_mask}
use Rattle.steps.specs.State.{done_by, unmet_by}
use Rattle.steps.specs.Answers.{opened}
use Rattle.steps.specs.Calls.{Lent, lent, lent_by}
use Rattle.steps.specs.Turns.{is_ready, Idle}
use Rattle.values.specs.Items.{Formed}

module _ (w : List ℕ) where
  -- the set has the items that are ready, but for item a
  pub record ReadyBut (counts : List ℕ) (a : ℕ) (words : List ℕ) : Type 0 where
    pub size : length words ≡ mask_words
    pub each : (b : ℕ) → b < max_items → in_mask words b ≡ ((ltb b (item_count (plan_body w)) && is_ready (plan_body w) counts b) && not (eqb b a))

  -- a is the lowest item that is ready
  pub record FirstReady (counts : List ℕ) (a : ℕ) : Type 0 where
    pub none_before : (b : ℕ) → b < a → b < item_count (plan_body w) → is_ready (plan_body w) counts b ≡ false
    pub below : a < item_count (plan_body w)
    pub ready : is_ready (plan_body w) counts a ≡ true

  -- item a takes a turn
  pub record Turn (a : ℕ) (counts values words : List ℕ) : Type 0 where
    pub plan : Formed w
    pub below : a < item_count (plan_body w)
    pub idle : Idle w (lent counts values)
    pub ready : is_ready (plan_body w) counts a ≡ true
    pub in_step : InStep (system (plan_body w)) (edge_test (plan_body w)) (done_by counts) (unmet_by counts) a
    pub set : ReadyBut counts a words

  -- a state as an opening leaves it
  pub record Opened (s : Lent) : Type 0 where
    pub counts : List ℕ
    pub values : List ℕ
    pub long_counts : count_words ≤ length counts
    pub long_values : value_words ≤ length values
    pub left : s ≡ lent_by (opened w counts values)
