-- What a step and a line of a journal do to the lent state s, by the tables of the plan. It serves
-- the contracts of private functions: nothing here need be believed.
use Rattle.std.specs.Prelude.{ℕ, ◌≤◌, ◌≡◌, Bool, cond, not, List, length}
use Rattle.std.proofs.Math.Option.{Option, none, some}
use Rattle.plan.specs.Sizes.{count_words, value_words}
use Rattle.steps.specs.Calls.{Lent}
use Rattle.prepared.specs.Calls.{call_in}
use Rattle.prepared.specs.Laws.{Prepared}
use Rattle.journal.specs.Lines.{Step}
use Rattle.journal.specs.Checking.{holds, after}

-- the tables are the plan's, and the slices long enough
pub record Known (plan tables : List ℕ) (s : Lent) : Type 0 where
  pub own : Prepared plan tables
  pub long_counts : count_words ≤ length s.counts
  pub long_values : value_words ≤ length s.values

-- the lent slices keep their lengths
pub record SameRoom (s t : Lent) : Type 0 where
  pub counts : length t.counts ≡ length s.counts
  pub values : length t.values ≡ length s.values

module _ (plan tables : List ℕ) (s : Lent) where
  -- whether the step e holds, and the state t that it leaves
  pub record Tried (e : Step) (r : Bool) (t : Lent) : Type 0 where
    pub told : r ≡ holds (call_in plan tables) s e
    pub leaves : t ≡ cond r (after (call_in plan tables) s e) s
    pub room : SameRoom s t

  -- what refuses a line, 0 if nothing does, and the state that it leaves
  abbrev pub line_refusal : Option Step → ℕ
  line_refusal none = 20
  line_refusal (some e) = cond (not (holds (call_in plan tables) s e)) 21 0

  abbrev pub line_leaves : Option Step → Lent
  line_leaves none = s
  line_leaves (some e) = cond (holds (call_in plan tables) s e) (after (call_in plan tables) s e) s

  pub record Lined (o : Option Step) (r : ℕ) (t : Lent) : Type 0 where
    pub refusal : r ≡ line_refusal o
    pub leaves : t ≡ line_leaves o
    pub room : SameRoom s t
