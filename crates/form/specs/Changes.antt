-- An upper bound on the number of transfers that is cheap to count, so that the in-form test need
-- not search for them where it is low. Nothing here need be believed: `proofs/Bound.antt` shows
-- that it is a bound.
use Rattle.std.specs.Prelude.{ℕ, zero, suc, Bool, cond, not, List, nat_eq}
use Rattle.std.proofs.Math.Option.{Option, none, some}
use Rattle.finite.specs.Below.{any_below, count_below, sum_below}
use Rattle.body.specs.Transfers.{equals}
use Rattle.plan.specs.Layout.{tasks_of, rank_of, accesses_of, region_at}

module _ (w : List ℕ) where
  -- task i names region g
  abbrev pub names : ℕ → ℕ → Bool
  names i g = any_below (accesses_of w i) (λ a. nat_eq g (region_at w i a))

  -- the rank of the last task that names region g, of the tasks 0 .. i-1
  unfoldable pub last_rank : ℕ → ℕ → Option ℕ
  last_rank zero g = none
  last_rank (suc i) g = cond (names i g) (some (rank_of w i)) (last_rank i g)

  -- the region of access a of task i was last named on another rank, or not at all, in body order
  -- from its first task
  unfoldable pub changed : ℕ → ℕ → Bool
  changed i a = not (equals (last_rank i (region_at w i a)) (rank_of w i))

  -- how many accesses are such
  unfoldable pub change_count : ℕ
  change_count = sum_below (tasks_of w) (λ i. count_below (accesses_of w i) (changed i))
