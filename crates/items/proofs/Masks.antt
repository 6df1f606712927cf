-- The codes of a mask: none, and those of its lowest rank before those of the others.
use Prim.Native.Nat.{ℕ, ◌-◌, ◌/◌, ◌%◌, ◌^◌, ◌<◌}
use mathlib.Core.Path.{◌≡◌, refl, sym, ◌∙◌, ap₂}
use mathlib.Core.Bool.{Bool, true, false, cond}
use mathlib.Core.List.{List, [], ◌++◌}
use native.Mathlib.Nat.{zero-div}
use native.Mathlib.Omega.{arith}
use lib.Bits.{bit_and}
use lib.Count.{count_trailing_zeros}
use lib.Dec.{eqb}
use Rattle.finite.specs.Put.{Added, RoomAt}
use Rattle.finite.proofs.Bits.{lowest_set, lowest_below, lowest_under, cleared_bit}
use Rattle.finite.proofs.Collect.{collect_never, collect_ext, collect_front}
use Rattle.finite.proofs.Puts.{Left, left_fits, left_more}
use Rattle.plan.specs.Limits.{max_ranks}
use Rattle.transfers.specs.Wanted.{has_rank}
use Rattle.items.specs.Codes.{pair_codes, pair_if, mask_codes}

-- the lowest rank of a mask that has one
module _ (mask q : ℕ) (low : q ≡ count_trailing_zeros 64 mask) (some : mask ≡ 0 → ⊥) (below : mask < 65536) where
  mask_some : 0 < mask
  mask_some = omega arith

  mask_wide : mask < 2 ^ 64
  mask_wide = omega arith

  pub lowest_rank : q < max_ranks
  lowest_rank = rw low (lowest_below 64 mask mask_some mask_wide 16 below)

  -- its pair, and the mask without it
  module _ (wrapped rank region : ℕ) where
    lowest_pair : pair_if mask wrapped rank region q ≡ pair_codes (wrapped / 2 ^ q % 2) rank region q
    unfolding pair_if
    lowest_pair = let o : mask / 2 ^ q % 2 ≡ 1 = rw low (lowest_set 64 mask mask_some mask_wide) in rw o

    lower_none : (k : ℕ) → k < q → pair_if mask wrapped rank region k ≡ []
    unfolding pair_if
    lower_none k l = rw (lowest_under 64 mask mask_some mask_wide k (omega arith))

    others : (k : ℕ) → k < max_ranks → pair_if (bit_and mask (mask - 1)) wrapped rank region k ≡ cond (eqb k q) [] (pair_if mask wrapped rank region k)
    unfolding pair_if
    others k l = rw (cleared_bit 64 mask mask_some mask_wide k (omega arith), sym low) (by (eqb k q))
      where
        by : (b : Bool) →
            cond (eqb (cond b 0 (mask / 2 ^ k % 2)) 1) (pair_codes (wrapped / 2 ^ k % 2) rank region k) []
            ≡ cond b [] (cond (has_rank mask k) (pair_codes (wrapped / 2 ^ k % 2) rank region k) [])
        by true = refl
        by false = refl

    mask_lowest :
        mask_codes mask wrapped rank region
        ≡ pair_codes (wrapped / 2 ^ q % 2) rank region q ++ mask_codes (bit_and mask (mask - 1)) wrapped rank region
    unfolding mask_codes
    mask_lowest =
        collect_front max_ranks q (pair_if mask wrapped rank region) lowest_rank lower_none
        ∙ ap₂ ◌++◌ lowest_pair
        (sym (collect_ext max_ranks (pair_if (bit_and mask (mask - 1)) wrapped rank region) (λ k. cond (eqb k q) [] (pair_if mask wrapped rank region k)) others))

    -- a turn of the loop of `put_mask`
    module _ (X : List ℕ) (n : ℕ) (items : List ℕ) (at : ℕ) (mid : List ℕ) (l : Left X n items (mask_codes mask wrapped rank region) at mid) where
      pub mask_fits : RoomAt (pair_codes (wrapped / 2 ^ q % 2) rank region q) at mid
      mask_fits = left_fits _ _ mask_lowest l

      pub mask_more : (r : ℕ) (mid' : List ℕ) → Added (pair_codes (wrapped / 2 ^ q % 2) rank region q) at mid r mid' →
          Left X n items (mask_codes (bit_and mask (mask - 1)) wrapped rank region) r mid'
      mask_more r mid' p = left_more _ _ mask_lowest l p

pub mask_none : (mask wrapped rank region : ℕ) → mask ≡ 0 → mask_codes mask wrapped rank region ≡ []
unfolding mask_codes pair_if
mask_none mask wrapped rank region e = collect_never max_ranks (pair_if mask wrapped rank region) (λ k l. rw (e, zero-div (2 ^ k)))
