-- Laws of the definitions of `specs/Text.antt`, as the searches of a slice ask them.
use Rattle.std.proofs.Common.{◌≡◌, ℕ, zero, suc, ◌+◌, ◌<◌, ◌≤◌, Bool, true, false, List, [], ◌∷◌, length, get_or, take, drop, refl, add-one, drop_of_length-le, drop-cons, le_of_suc-le-suc, not-suc-le-zero, arith}
use Rattle.text.specs.Text.{before}

-- a search of a slice, at an index i of the list s
module _ (p : ℕ → Bool) (s : List ℕ) (i : ℕ) where
  pub before_step : i < length s → p (get_or s i 0) ≡ false → before p (drop i s) ≡ suc (before p (drop (i + 1) s))
  before_step h e = rw (add-one, drop-cons s i 0, e)

  pub before_here : i < length s → p (get_or s i 0) ≡ true → before p (drop i s) ≡ 0
  before_here h e = rw (drop-cons s i 0, e)

  pub before_end : length s ≤ i → before p (drop i s) ≡ 0
  before_end h = rw drop_of_length-le

-- the count is no longer than the list
module _ (p : ℕ → Bool) where
  pub before_most : (s : List ℕ) → before p s ≤ length s
  before_most [] = omega arith
  before_most (c ∷ s) = go (p c) refl (before_most s)
    where
      go : (t : Bool) → p c ≡ t → before p s ≤ length s → before p (c ∷ s) ≤ length (c ∷ s)
      go true e h = rw e (omega arith)
      go false e h = rw e (omega arith)

-- the first n elements decide, where the search ends among them; else it goes on behind them
module _ (p : ℕ → Bool) where
  pub before_among : (n : ℕ) (s : List ℕ) → before p (take n s) < n → before p s ≡ before p (take n s)
  before_among zero s h = absurd (not-suc-le-zero h)
  before_among (suc n) [] h = refl
  before_among (suc n) (c ∷ s) h = go (p c) refl h (before_among n s)
    where
      go : (t : Bool) → p c ≡ t → before p (take (suc n) (c ∷ s)) < suc n → (before p (take n s) < n → before p s ≡ before p (take n s)) → before p (c ∷ s) ≡ before p (take (suc n) (c ∷ s))
      go true e k ih = rw e
      go false e k ih = rw (e, ih (le_of_suc-le-suc (rw e at k)))

  pub before_behind : (n : ℕ) (s : List ℕ) → before p (take n s) ≡ n → before p s ≡ n + before p (drop n s)
  before_behind zero s h = omega arith
  before_behind (suc n) [] h = omega arith
  before_behind (suc n) (c ∷ s) h = go (p c) refl h (before_behind n s)
    where
      go : (t : Bool) → p c ≡ t → before p (take (suc n) (c ∷ s)) ≡ suc n → (before p (take n s) ≡ n → before p s ≡ n + before p (drop n s)) → before p (c ∷ s) ≡ suc n + before p (drop n s)
      go true e k ih = let z : 0 ≡ suc n = rw e at k in omega arith
      go false e k ih = let z : suc (before p (take n s)) ≡ suc n = rw e at k in rw e (omega (arith, ih (omega arith)))
