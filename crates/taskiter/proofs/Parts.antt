-- Lists made of parts of one length, put to the front of a lent slice.
use Prim.Native.Nat.{ℕ, zero, suc, ◌+◌, ◌*◌, ◌-◌, ◌≤◌, ◌<◌}
use mathlib.Core.Path.{◌≡◌, ◌∙◌, ap}
use mathlib.Core.List.{List, [], ◌∷◌, ◌++◌, append_assoc, flat_map}
use native.Mathlib.Nat.{mul-suc}
use native.Mathlib.Omega.{arith}
use lib.ListN.{length, get_or, drop, length-append, length-drop, get_or-append}
use lib.Seq.{get_or-append-add, get_or-drop}

-- parts of m numbers each
module _ {X : Type 0} (f : X → List ℕ) (m : ℕ) (size : (x : X) → length (f x) ≡ m) where
  pub length_parts : (l : List X) → length (flat_map f l) ≡ m * length l
  unfolding flat_map
  length_parts [] = omega arith
  length_parts (x ∷ l) = omega (arith, length-append (f x) (flat_map f l), size x, length_parts l, mul-suc m (length l))

  -- number j of part k
  pub get_d_part : (d : X) (l : List X) (behind : List ℕ) (k j : ℕ) → k < length l → j < m → get_or (flat_map f l ++ behind) (m * k + j) 0 ≡ get_or (f (get_or l k d)) j 0
  unfolding flat_map
  get_d_part d [] behind k j lk lj = absurd (omega arith)
  get_d_part d (x ∷ l) behind zero j lk lj =
      let e : m * 0 + j ≡ j = omega arith in
      ap (λ (n : ℕ). get_or ((f x ++ flat_map f l) ++ behind) n 0) e
      ∙ (ap (λ (y : List ℕ). get_or y j 0) (append_assoc (f x) (flat_map f l) behind)
      ∙ get_or-append (f x) (flat_map f l ++ behind) 0 j (omega (arith, size x)))
  get_d_part d (x ∷ l) behind (suc k) j lk lj =
      let e : m * suc k + j ≡ length (f x) + (m * k + j) = omega (arith, size x, mul-suc m k) in
      ap (λ (n : ℕ). get_or ((f x ++ flat_map f l) ++ behind) n 0) e
      ∙ (ap (λ (y : List ℕ). get_or y (length (f x) + (m * k + j)) 0) (append_assoc (f x) (flat_map f l) behind)
      ∙ (get_or-append-add (f x) (flat_map f l ++ behind) (m * k + j) 0 ∙ get_d_part d l behind k j (omega arith) lj))

-- the first n numbers of a slice replaced: its length stays, and what lies behind them
module _ (front xs : List ℕ) (n : ℕ) (size : length front ≡ n) where
  pub length_behind : n ≤ length xs → length (front ++ drop n xs) ≡ length xs
  length_behind l = omega (arith, length-append front (drop n xs), length-drop n xs)

  pub get_d_behind : (i : ℕ) → n ≤ i → get_or (front ++ drop n xs) i 0 ≡ get_or xs i 0
  get_d_behind i l =
      let e : i ≡ length front + (i - n) = omega arith in
      let g : n + (i - n) ≡ i = omega arith in
      ap (λ (k : ℕ). get_or (front ++ drop n xs) k 0) e
      ∙ (get_or-append-add front (drop n xs) (i - n) 0 ∙ (get_or-drop n xs (i - n) 0 ∙ ap (λ (k : ℕ). get_or xs k 0) g))
