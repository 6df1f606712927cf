-- The items whose start is accepted now, and what `taskiter_ready` answers, a call that no paper
-- asks for.
use Rattle.std.specs.Prelude.{ℕ, ◌≡◌, true, ◌&&◌, List, ◌++◌, leb, length, drop}
use Rattle.finite.specs.Lists.{gather}
use Rattle.body.specs.Items.{item_count}
use Rattle.graph.specs.declared.Number.{Number}
use Rattle.graph.specs.Answers.{max_items, refusal_of, formed_plan, plan_body}
use Rattle.steps.specs.Answers.{long_slices, formed_counts, formed_numbers}
use Rattle.steps.specs.Calls.{start, lent, is_accepted}

-- the items whose start is accepted, rising
unfoldable pub ready_items : List ℕ → List ℕ → List ℕ → List ℕ
ready_items plan counts values =
    gather (item_count (plan_body plan)) (λ a. is_accepted plan (lent counts values) (start a)) (λ a. a)

-- they stand in the lent slice `items`, and the answer is how many they are; what lies behind them
-- stays. 11 and 12 as with a start; 11 too where `items` is short
pub record ReadyAnswer (plan counts values items : List ℕ) (r : Number) (items' : List ℕ) : Type 0 where
  pub refusal : r.refusal ≡ refusal_of (long_slices plan counts values && leb max_items (length items))
      (formed_plan plan && (formed_counts plan counts values && formed_numbers plan counts values)) true
  pub listed : r.refusal ≡ 0 → (r.number ≡ length (ready_items plan counts values))
      × (items' ≡ ready_items plan counts values ++ drop (length (ready_items plan counts values)) items)
  pub refused : (r.refusal ≡ 0 → ⊥) → (r.number ≡ 0) × (items' ≡ items)
