-- Numbers in a list that is made of parts: behind a part of known length, in a part filled with
-- zeros, and in rows of nine.
use Prim.Native.Nat.{ℕ, zero, suc, ◌+◌, ◌*◌, ◌<◌}
use mathlib.Core.Path.{◌≡◌, refl, sym, ◌∙◌, ap}
use mathlib.Core.List.{List, [], ◌∷◌, ◌++◌}
use native.Mathlib.Decide.{dec_lt}
use native.Mathlib.Omega.{arith}
use lib.ListN.{length, get_or, length-append, get_or-append}
use lib.Seq.{get_or-append-add}
use Rattle.finite.specs.Lists.{collect}
use Rattle.finite.proofs.Lists.{length_tabulate, get_d_tabulate}
use Rattle.finite.proofs.Collect.{collect_room}
use Rattle.plan.specs.Limits.{max_accesses}
use Rattle.prepared.specs.Tables.{padded, place_row}

-- behind a list of n numbers
pub behind_at : (xs ys : List ℕ) (n i j : ℕ) → length xs ≡ n → j ≡ n + i → get_or (xs ++ ys) j 0 ≡ get_or ys i 0
behind_at xs ys n i j l e = ap (λ (k : ℕ). get_or (xs ++ ys) k 0) (e ∙ ap (λ (k : ℕ). k + i) (sym l)) ∙ get_or-append-add xs ys i 0

-- a list in a part of k numbers

pub length_padded : (k : ℕ) (l : List ℕ) → length (padded k l) ≡ k
unfolding padded
length_padded k l = length_tabulate (λ i. get_or l i 0) k

pub padded_at : (k : ℕ) (l : List ℕ) (i : ℕ) → i < k → get_or (padded k l) i 0 ≡ get_or l i 0
unfolding padded
padded_at k l i h = get_d_tabulate (λ j. get_or l j 0) k i 0 h

-- the first part of a rest
pub padded_first : (k : ℕ) (l ys : List ℕ) (i : ℕ) → i < k → get_or (padded k l ++ ys) i 0 ≡ get_or l i 0
padded_first k l ys i h = get_or-append (padded k l) ys 0 i (omega (arith, length_padded k l)) ∙ padded_at k l i h

-- lists one after another

pub collect_at : (f : ℕ → List ℕ) (n a k : ℕ) → a < n → k < length (f a) → get_or (collect n f) (length (collect a f) + k) 0 ≡ get_or (f a) k 0
unfolding collect
collect_at f zero a k h m = absurd (omega arith)
collect_at f (suc n) a k h m =
    elim (dec_lt a n) [
      | yes l ↦ get_or-append (collect n f) (f n) 0 (length (collect a f) + k) (omega (arith, collect_room n a f l)) ∙ collect_at f n a k l m
      | no l ↦ (let e : a ≡ n = omega arith in rw e (get_or-append-add (collect n f) (f n) k 0))
    ]

-- rows of places

length_row : (l : List ℕ) → length (place_row l) ≡ 9
unfolding place_row
length_row l = omega (arith, length-append (padded max_accesses l) (length l ∷ []), length_padded max_accesses l)

row_place : (l : List ℕ) (k : ℕ) → k < max_accesses → get_or (place_row l) k 0 ≡ get_or l k 0
unfolding place_row
row_place l k h = padded_first max_accesses l (length l ∷ []) k h

row_count : (l : List ℕ) → get_or (place_row l) 8 0 ≡ length l
unfolding place_row
row_count l = behind_at (padded max_accesses l) (length l ∷ []) 8 0 8 (length_padded max_accesses l) refl

module _ (f : ℕ → List ℕ) where
  length_rows : (n : ℕ) → length (collect n (λ a. place_row (f a))) ≡ 9 * n
  unfolding collect
  length_rows zero = refl
  length_rows (suc n) = omega (arith, length-append (collect n (λ a. place_row (f a))) (place_row (f n)), length_rows n, length_row (f n))

  rows_at : (n a k : ℕ) → a < n → k < 9 → get_or (collect n (λ a. place_row (f a))) (9 * a + k) 0 ≡ get_or (place_row (f a)) k 0
  rows_at n a k h m =
      ap (λ (j : ℕ). get_or (collect n (λ a. place_row (f a))) (j + k) 0) (sym (length_rows a))
      ∙ collect_at (λ a. place_row (f a)) n a k h (omega (arith, length_row (f a)))

  pub rows_place : (n a k : ℕ) → a < n → k < max_accesses → get_or (collect n (λ a. place_row (f a))) (9 * a + k) 0 ≡ get_or (f a) k 0
  rows_place n a k h m = rows_at n a k h (omega arith) ∙ row_place (f a) k m

  pub rows_count : (n a : ℕ) → a < n → get_or (collect n (λ a. place_row (f a))) (9 * a + 8) 0 ≡ length (f a)
  rows_count n a h = rows_at n a 8 h (omega arith) ∙ row_count (f a)
