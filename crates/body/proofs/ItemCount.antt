-- How many items there are: the tasks, and two for each transfer.
use Prim.Native.Nat.{ℕ, zero, suc, ◌+◌, ◌*◌}
use mathlib.Core.Path.{◌≡◌, refl, sym, ◌∙◌, ap}
use mathlib.Core.List.{List, [], ◌∷◌, flat_map}
use native.Mathlib.Omega.{arith}
use lib.ListN.{length}
use Rattle.finite.specs.Below.{sum_below}
use Rattle.finite.proofs.Lists.{length_flat_map_range}
use Rattle.body.specs.Body.{Body}
use Rattle.body.specs.Transfers.{Transfer, transfer, transfers_of, transfer_count}
use Rattle.body.specs.Items.{pair_of, block, item_list, item_count}

pairs : (l : List Transfer) → length (flat_map pair_of l) ≡ 2 * length l
unfolding flat_map
pairs [] = refl
pairs (transfer i g q ∷ l) = omega (arith, pairs l)

sum_blocks : (B : Body) (n : ℕ) → sum_below n (λ i. length (block B i)) ≡ n + 2 * sum_below n (λ i. length (transfers_of B i))
unfolding sum_below
sum_blocks B zero = refl
sum_blocks B (suc n) = omega (arith, sum_blocks B n, pairs (transfers_of B n))

pub items_counted : (B : Body) → item_count B ≡ B.tasks + 2 * transfer_count B
unfolding item_list transfer_count
items_counted B =
    length_flat_map_range (block B) B.tasks
    ∙ (sum_blocks B B.tasks ∙ ap (λ (n : ℕ). B.tasks + 2 * n) (sym (length_flat_map_range (transfers_of B) B.tasks)))
