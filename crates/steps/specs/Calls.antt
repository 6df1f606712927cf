-- Lists of calls (paper 01, "Steps"): starts and finishes of any item number, and results of any region number, each call getting plan and
-- state as the one before left them.
use Rattle.std.specs.Prelude.{ℕ, ◌+◌, Bool, true, false, cond, List, [], ◌∷◌, eqb}
use Rattle.steps.specs.Answers.{Left, start_of, finish_of, result_of}

pub data Call : Type 0 where
  start : ℕ → Call
  finish : ℕ → Call
  result : ℕ → Call

-- which calls: the starts of item a, its finishes, and all steps
abbrev pub is_start : ℕ → Call → Bool
is_start a (start b) = eqb a b
is_start a (finish b) = false
is_start a (result g) = false

abbrev pub is_finish : ℕ → Call → Bool
is_finish a (start b) = false
is_finish a (finish b) = eqb a b
is_finish a (result g) = false

abbrev pub is_step : Call → Bool
is_step (start a) = true
is_step (finish a) = true
is_step (result g) = false

-- the lent counts and values
pub record Lent : Type 0 where
  pub counts : List ℕ
  pub values : List ℕ

abbrev pub lent : List ℕ → List ℕ → Lent
lent counts values = record { counts = counts; values = values }

abbrev pub lent_by : Left → Lent
lent_by r = lent r.counts r.values

module _ (plan : List ℕ) where
  -- what a call answers and leaves
  abbrev pub call : Lent → Call → Left
  call s (start a) = start_of plan s.counts s.values a
  call s (finish a) = finish_of plan s.counts s.values a
  call s (result g) = result_of plan s.counts s.values g

  abbrev pub is_accepted : Lent → Call → Bool
  is_accepted s c = eqb (call s c).refusal 0

  -- the state after a list of calls
  unfoldable pub play : Lent → List Call → Lent
  play s [] = s
  play s (c ∷ l) = play (lent_by (call s c)) l

  -- what the calls answer and leave, one after another
  unfoldable pub replies : Lent → List Call → List Left
  replies s [] = []
  replies s (c ∷ l) = call s c ∷ replies (lent_by (call s c)) l

  -- how many of the calls that t picks are accepted
  unfoldable pub accepted : (Call → Bool) → Lent → List Call → ℕ
  accepted t s [] = 0
  accepted t s (c ∷ l) = cond (is_accepted s c) (cond (t c) 1 0) 0 + accepted t (lent_by (call s c)) l
