-- Sets of items as bits of words. It serves the contracts of inner functions: nothing here need be
-- believed.
use Rattle.std.specs.Prelude.{ℕ, ◌/◌, ◌%◌, ◌^◌, ◌<◌, ◌≡◌, Bool, true, false, not, ◌&&◌, ◌||◌, List, eqb, length, get_or}
use Rattle.plan.specs.Sizes.{max_items}

abbrev pub mask_words : ℕ
mask_words = 10

-- item a stands in the set
unfoldable pub in_mask : List ℕ → ℕ → Bool
in_mask words a = eqb (get_or words (a / 64) 0 / 2 ^ (a % 64) % 2) 1

-- the items of which p holds were put into the set
pub record Entered (words : List ℕ) (p : ℕ → Bool) (words' : List ℕ) : Type 0 where
  pub size : length words' ≡ mask_words
  pub each : (b : ℕ) → b < max_items → in_mask words' b ≡ (in_mask words b || p b)

-- the set has no item
abbrev pub Empty : List ℕ → Type 0
Empty words = (b : ℕ) → b < max_items → in_mask words b ≡ false

-- a is the lowest item of the set, and was taken out
pub record Lowest (words : List ℕ) (a : ℕ) (words' : List ℕ) : Type 0 where
  pub size : length words' ≡ mask_words
  pub below : a < max_items
  pub stands : in_mask words a ≡ true
  pub none_before : (b : ℕ) → b < a → in_mask words b ≡ false
  pub each : (b : ℕ) → b < max_items → in_mask words' b ≡ (in_mask words b && not (eqb b a))
