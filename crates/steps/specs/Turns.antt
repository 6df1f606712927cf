-- Turns of the run program: with no item running it starts the lowest item that is ready, and finishes it. It serves the contracts of private
-- functions; `proofs/` shows that these are the steps of Running.
use Rattle.std.specs.Prelude.{ℕ, ◌+◌, ◌*◌, ◌≤◌, ◌<◌, ◌≡◌, Bool, true, ◌&&◌, List, eqb, ltb, length, get_or}
use Rattle.finite.specs.Below.{sum_below}
use Rattle.body.specs.Body.{Body}
use Rattle.body.specs.Items.{item_count, item_passes}
use Rattle.graph.specs.Answers.{plan_body}
use Rattle.steps.specs.State.{count_words, value_words, done_by, unmet_by, FreshNumbers}
use Rattle.steps.specs.Answers.{formed_counts}
use Rattle.steps.specs.Calls.{Call, is_step, Lent, play}
use Rattle.steps.specs.Running.{Accepts, Taken}

-- an item that does not run may start: it has a pass left, and no unmet wait
unfoldable pub is_ready : Body → List ℕ → ℕ → Bool
is_ready B counts a = ltb (done_by counts a) (item_passes B a) && eqb (unmet_by counts a) 0

module _ (plan : List ℕ) where
  -- a lent state in form in which no item runs, and each number is fresh
  pub record Idle (s : Lent) : Type 0 where
    pub long_counts : count_words ≤ length s.counts
    pub long_values : value_words ≤ length s.values
    pub formed : formed_counts plan s.counts s.values ≡ true
    pub idle : (a : ℕ) → a < item_count (plan_body plan) → get_or s.counts a 0 ≡ done_by s.counts a
    pub fresh : FreshNumbers (plan_body plan) s.counts

  -- the state s after some turns from s₀, which took so many steps
  pub record Going (s₀ s : Lent) (steps : ℕ) : Type 0 where
    pub calls : List Call
    pub taken : Taken plan s₀ calls
    pub reached : s ≡ play plan s₀ calls
    pub counted : steps ≡ length calls
    pub idle : Idle s
    pub sum : steps + 2 * sum_below (item_count (plan_body plan)) (done_by s₀.counts) ≡ 2 * sum_below (item_count (plan_body plan)) (done_by s.counts)

  -- no step is accepted
  abbrev pub Over : Lent → Type 0
  Over s = (c : Call) → is_step c ≡ true → Accepts plan s c → ⊥
