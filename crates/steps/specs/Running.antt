-- The order in which the run program takes steps (paper 01, "The run program"): it finishes the lowest running item, or, with none running,
-- starts the lowest item that is accepted.
use Rattle.std.specs.Prelude.{ℕ, ◌<◌, ◌≡◌, List, [], ◌∷◌}
use Rattle.steps.specs.Calls.{Call, start, finish, result, Lent, lent_by, call}

module _ (plan : List ℕ) where
  abbrev pub Accepts : Lent → Call → Type 0
  Accepts s c = (call plan s c).refusal ≡ 0

  -- the step that comes next. A finish is accepted exactly where its item runs (Demands, demand 2)
  abbrev pub Next : Lent → Call → Type 0
  Next s (finish a) = Accepts s (finish a) × ((b : ℕ) → b < a → Accepts s (finish b) → ⊥)
  Next s (start a) = Accepts s (start a) × ((b : ℕ) → Accepts s (finish b) → ⊥) × ((b : ℕ) → b < a → Accepts s (start b) → ⊥)
  Next s (result g) = ⊥

  -- each call of the list is the one that comes next
  unfoldable pub Taken : Lent → List Call → Type 0
  Taken s [] = Unit
  Taken s (c ∷ l) = Next s c × Taken (lent_by (call plan s c)) l
