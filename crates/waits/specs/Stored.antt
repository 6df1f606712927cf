-- The numbers in a list, that of item a at place `first` + a: what a finish does to it, in the
-- shape of code. What else stands in the list stays.
use Rattle.std.specs.Prelude.{ℕ, suc, ◌+◌, ◌-◌, Bool, ◌&&◌, List, ltb, leb, get_or, set}
use Rattle.finite.specs.Update.{update, replaced}
use Rattle.unroll.specs.System.{System}
use Rattle.waits.specs.Waits.{fresh_count, meets}

module _ (S : System) (edge : ℕ → ℕ → Bool) (first : ℕ) where
  -- after the first k items: the numbers of those whose wait a finish of b meets are lowered
  unfoldable pub lowered_to : (ℕ → ℕ) → ℕ → ℕ → List ℕ → List ℕ
  lowered_to fin b k l = replaced (λ i. leb first i && (ltb (i - first) k && meets S edge fin b (i - first))) (λ i. get_or l i 0 - 1) l

  -- a finish of b, fin being the finished passes before it: the others' are lowered, and its own is
  -- counted afresh
  unfoldable pub finished_numbers : (ℕ → ℕ) → ℕ → List ℕ → List ℕ
  finished_numbers fin b l = set (lowered_to fin b S.items l) (first + b) (fresh_count S edge (update fin b (suc (fin b))) b)
