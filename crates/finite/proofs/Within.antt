-- The numbers from k on, and a list with other values at places from k on. _none, _more and _done
-- are a loop's: before its first turn, over a turn, and after its last.
use Prim.Native.Nat.{ℕ, ◌+◌, ◌≤◌, ◌<◌}
use mathlib.Core.Path.{◌≡◌, sym, ◌∙◌, ap}
use mathlib.Core.Bool.{Bool, false, ◌&&◌, ◌||◌, and-false}
use mathlib.Core.List.{List}
use native.Mathlib.Decide.{dec_lt, ℕ_discrete}
use native.Mathlib.Omega.{arith}
use borrow.Author.Tests.{lt-ltb, le-ltb, le-leb, lt-leb, eq-eqb, ne_eqb}
use lib.Dec.{eqb, ltb, leb}
use lib.ListN.{length, set}
use Rattle.finite.specs.Update.{replaced}
use Rattle.finite.proofs.Replaced.{replaced_set, replaced_where, replaced_nowhere}

-- i lies among the a numbers from k on
abbrev pub within : ℕ → ℕ → ℕ → Bool
within k a i = leb k i && ltb i (k + a)

pub ltb_none : (i : ℕ) → ltb i 0 ≡ false
ltb_none i = le-ltb i 0 (omega arith)

pub ltb_next : (i a : ℕ) → ltb i (a + 1) ≡ (eqb i a || ltb i a)
ltb_next i a =
    elim (ℕ_discrete i a) [
      | yes e ↦ rw (lt-ltb i (a + 1) (omega arith), eq-eqb i a e)
      | no e ↦
          elim (dec_lt i a) [
            | yes l ↦ rw (lt-ltb i (a + 1) (omega arith), ne_eqb i a e, lt-ltb i a l)
            | no l ↦ rw (le-ltb i (a + 1) (omega arith), ne_eqb i a e, le-ltb i a (omega arith))
          ]
    ]

pub within_none : (k i : ℕ) → within k 0 i ≡ false
within_none k i =
    elim (dec_lt i k) [
      | yes l ↦ rw (lt-leb k i l)
      | no l ↦ rw (le-ltb i (k + 0) (omega arith)) (and-false (leb k i))
    ]

pub within_next : (k a i : ℕ) → within k (a + 1) i ≡ (eqb i (k + a) || within k a i)
within_next k a i =
    elim (ℕ_discrete i (k + a)) [
      | yes e ↦ rw (le-leb k i (omega arith), lt-ltb i (k + (a + 1)) (omega arith), eq-eqb i (k + a) e)
      | no e ↦
          elim (dec_lt i (k + a)) [
            | yes l ↦ rw (lt-ltb i (k + (a + 1)) (omega arith), ne_eqb i (k + a) e, lt-ltb i (k + a) l)
            | no l ↦ rw (le-ltb i (k + (a + 1)) (omega arith), ne_eqb i (k + a) e, le-ltb i (k + a) (omega arith))
          ]
    ]

-- a loop that puts f k, f (k + 1), .. at the places from k on
module _ (k : ℕ) (f : ℕ → ℕ) (xs : List ℕ) where
  pub within_filled_none : xs ≡ replaced (within k 0) f xs
  within_filled_none = replaced_nowhere (within k 0) f xs (λ i l. within_none k i)

  pub within_filled_more : (ys : List ℕ) (a v : ℕ) → ys ≡ replaced (within k a) f xs → k + a < length xs → v ≡ f (k + a) →
      set ys (k + a) v ≡ replaced (within k (a + 1)) f xs
  within_filled_more ys a v h l e =
      ap (λ (zs : List ℕ). set zs (k + a) v) h
      ∙ (replaced_set (within k a) f xs (k + a) v l e
      ∙ replaced_where (λ i. eqb i (k + a) || within k a i) (within k (a + 1)) f xs (λ i m. sym (within_next k a i)))

  pub within_filled_done : (ys : List ℕ) (n a : ℕ) → ys ≡ replaced (within k a) f xs → n ≤ a → a ≤ n → ys ≡ replaced (within k n) f xs
  within_filled_done ys n a h u v = let e : n ≡ a = omega arith in rw e h
