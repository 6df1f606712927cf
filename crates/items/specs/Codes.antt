-- The numbers of the item table in the order in which they are put there. It serves the contracts
-- of inner functions; `proofs/` shows that they are those of the item list.
use Rattle.std.specs.Prelude.{ℕ, ◌+◌, ◌*◌, ◌/◌, ◌%◌, ◌^◌, ◌≤◌, ◌<◌, ◌≡◌, cond, List, [], ◌∷◌, length, get_or}
use Rattle.finite.specs.Lists.{collect}
use Rattle.plan.specs.Limits.{max_ranks, max_tasks, max_accesses}
use Rattle.plan.specs.Sizes.{max_items}
use Rattle.plan.specs.Layout.{plan_words, tasks_of, rank_of, region_at}
use Rattle.plan.specs.Code.{code_from}
use Rattle.transfers.specs.Wanted.{has_rank}

-- a send on rank r and its receive on rank q, of region g; f is 1 if their transfer is wrapped,
-- else 0
abbrev pub pair_codes : ℕ → ℕ → ℕ → ℕ → List ℕ
pair_codes f r g q = code_from f r 1 g ∷ code_from f q 2 g ∷ []

-- the pair of rank q, if the mask has it; bit q of the mask `wrapped` says whether it is wrapped
unfoldable pub pair_if : ℕ → ℕ → ℕ → ℕ → ℕ → List ℕ
pair_if mask wrapped r g q = cond (has_rank mask q) (pair_codes (wrapped / 2 ^ q % 2) r g q) []

unfoldable pub mask_codes : ℕ → ℕ → ℕ → ℕ → List ℕ
mask_codes mask wrapped r g = collect max_ranks (pair_if mask wrapped r g)

-- by a mask for each access, at max_accesses i + a: of all its transfers, and of the wrapped ones
module _ (w masks wraps : List ℕ) where
  -- access a of task i
  unfoldable pub access_codes : ℕ → ℕ → List ℕ
  access_codes i a =
      mask_codes (get_or masks (max_accesses * i + a) 0) (get_or wraps (max_accesses * i + a) 0) (rank_of w i) (region_at w i a)

  unfoldable pub task_codes : ℕ → List ℕ
  task_codes i = code_from 0 (rank_of w i) 0 i ∷ collect max_accesses (access_codes i)

  unfoldable pub all_codes : ℕ → List ℕ
  all_codes n = collect n task_codes

-- words and masks whose items have room in the table
pub record Coded (w masks wraps : List ℕ) : Type 0 where
  pub long : length w ≡ plan_words
  pub tasks : tasks_of w ≤ max_tasks
  pub ranks : (i : ℕ) → i < tasks_of w → rank_of w i < max_ranks
  pub room : length (all_codes w masks wraps (tasks_of w)) ≤ max_items
