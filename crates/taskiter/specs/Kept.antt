-- What a raised limit on passes leaves as it was (paper 02, card 5). Before the card the runtime
-- was these definitions with 1,000,000 in place of `max_passes`, and counted no waits (card 7).
-- Counts are numbers here, whatever their width: a state whose counts are copied over, number by
-- number, is the same state. One from before card 7 holds no numbers of unmet waits, and is left
-- out unless it gets fresh ones: with them a start is accepted as before (Demands, Steps.starts).
use Rattle.std.specs.Prelude.{ℕ, ◌≤◌, ◌≡◌, Bool, ◌&&◌, List, [], ◌∷◌, leb, get_or}
use Rattle.body.specs.Items.{item_count}
use Rattle.reading.specs.Laws.{TextsKept}
use Rattle.graph.specs.Answers.{formed_plan, formed_within, plan_body}
use Rattle.steps.specs.Answers.{Left, open_by, open_of, start_by, finish_by, result_by}
use Rattle.steps.specs.Calls.{Call, start, finish, result, Lent, lent_by, call, play, replies}

-- `call`, `play` and `replies`, where the plan's test of form gave `formed`
module _ (plan : List ℕ) (formed : Bool) where
  abbrev pub call_by : Lent → Call → Left
  call_by s (start a) = start_by plan s.counts s.values formed a
  call_by s (finish a) = finish_by plan s.counts s.values formed a
  call_by s (result g) = result_by plan s.counts s.values formed g

  abbrev pub play_by : Lent → List Call → Lent
  play_by s [] = s
  play_by s (c ∷ l) = play_by (lent_by (call_by s c)) l

  abbrev pub replies_by : Lent → List Call → List Left
  replies_by s [] = []
  replies_by s (c ∷ l) = call_by s c ∷ replies_by (lent_by (call_by s c)) l

-- what the limit `most` on passes, where that is at most `max_passes`, and `max_passes` give alike
pub record Kept (most : ℕ) : Type 0 where
  pub texts : TextsKept most
  -- with `most` exactly those plans are in form that are so with `max_passes` and have at most `most` passes
  pub form : (plan : List ℕ) → formed_within plan most ≡ (leb (plan_body plan).passes most && formed_plan plan)
  -- so the test gives the same for a plan within `most`; items, edges, ready, total and writing go
  -- by the limit through it alone
  pub same_form : (plan : List ℕ) → (plan_body plan).passes ≤ most → formed_within plan most ≡ formed_plan plan
  -- an opening and each list of calls, on every state, answer and leave the same
  pub opens : (plan counts values : List ℕ) → (plan_body plan).passes ≤ most → open_by plan counts values (formed_within plan most) ≡ open_of plan counts values
  pub calls : (plan : List ℕ) (s : Lent) (c : Call) → (plan_body plan).passes ≤ most → call_by plan (formed_within plan most) s c ≡ call plan s c
  pub plays : (plan : List ℕ) (s : Lent) (l : List Call) → (plan_body plan).passes ≤ most → play_by plan (formed_within plan most) s l ≡ play plan s l
  pub answers : (plan : List ℕ) (s : Lent) (l : List Call) → (plan_body plan).passes ≤ most → replies_by plan (formed_within plan most) s l ≡ replies plan s l

-- where the plan has at most `top` passes and items, and no count is above `top`, the unused ones
-- too, none is after an opening and none after a list of calls: with `top` = 2^32 - 1, counts of 32
-- bits stay so
abbrev pub CountsFit : Type 0
CountsFit = (plan : List ℕ) (top : ℕ) → (plan_body plan).passes ≤ top → item_count (plan_body plan) ≤ top → (s : Lent) → ((i : ℕ) → get_or s.counts i 0 ≤ top) →
    ((i : ℕ) → get_or (open_of plan s.counts s.values).counts i 0 ≤ top) × ((l : List Call) (i : ℕ) → get_or (play plan s l).counts i 0 ≤ top)
