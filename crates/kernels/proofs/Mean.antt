-- Kernel 3 gives the nearest whole number, and there is no other.
use Rattle.std.proofs.Common.{◌≡◌, ℕ, zero, suc, ◌+◌, ◌*◌, ◌/◌, ◌%◌, ◌≤◌, List, [], ◌∷◌, length, refl, ap, ◌∙◌, arith}
use native.Mathlib.Decide.{dec_lt, dec_le}
use Rattle.finite.specs.Below.{sum_below}
use Rattle.kernels.specs.Kernels.{total, kernel_word, quarter, apart, Nearest, MeanLaws}

-- quarter

odd_next : (n : ℕ) → n % 2 ≡ 1 → (n + 1) % 2 ≡ 0
odd_next n h = omega arith

-- a half goes down where the quarter rounded down is even, and up where it is odd
pub quarter_nearest : (s : ℕ) → Nearest s (quarter s)
quarter_nearest s =
    elim (dec_lt (s / 4 % 2) 1) [
      | yes k ↦
          (let e : s / 4 % 2 ≡ 0 = omega arith in
          record {
            within = omega arith;
            even = λ h. (let d : quarter s ≡ s / 4 = omega arith in ap (λ (m : ℕ). m % 2) d ∙ e);
          })
      | no k ↦
          (let e : s / 4 % 2 ≡ 1 = omega arith in
          record {
            within = omega arith;
            even = λ h. (let d : quarter s ≡ s / 4 + 1 = omega arith in ap (λ (m : ℕ). m % 2) d ∙ odd_next (s / 4) e);
          })
    ]

-- of two numbers one apart one is odd
one_odd : (n : ℕ) → n % 2 ≡ 0 → (n + 1) % 2 ≡ 0 → ⊥
one_odd n h e = omega arith

nearest_rises : (s u m n : ℕ) → s ≤ u → Nearest s m → Nearest u n → m ≤ n
nearest_rises s u m n h a b =
    elim (dec_le m n) [
      | yes k ↦ k
      | no k ↦
          (let e : apart (4 * m) s ≡ 2 = omega (arith, a.within, b.within) in
          let f : apart (4 * n) u ≡ 2 = omega (arith, a.within, b.within) in
          let d : m ≡ n + 1 = omega (arith, a.within, b.within) in
          absurd (one_odd n (b.even f) (rw (← d) (a.even e))))
    ]

nearest_only : (s m n : ℕ) → Nearest s m → Nearest s n → m ≡ n
nearest_only s m n a b =
    let le : s ≤ s = omega arith in omega (arith, nearest_rises s s m n le a b, nearest_rises s s n m le b a)

-- eight more make two quarters more
quarter_8 : (s : ℕ) → quarter (s + 8) ≡ quarter s + 2
quarter_8 s =
    let e : (s + 8) / 4 ≡ s / 4 + 2 = omega arith in
    let f : (s / 4 + 2) % 2 ≡ s / 4 % 2 = omega arith in rw (e, f) (omega arith)

-- of n numbers in a row the first is left out, and the next comes in
sum_slide : (n : ℕ) (f : ℕ → ℕ) (s : ℕ) → sum_below n (λ k. f (suc s + k)) + f s ≡ sum_below n (λ k. f (s + k)) + f (s + n)
unfolding sum_below
sum_slide zero f s = omega (arith, ap f (let e : s ≡ s + 0 = omega arith in e))
sum_slide (suc n) f s =
    omega (arith, sum_slide n f s, ap f (let e : suc s + n ≡ s + suc n = omega arith in e))

first_eight : 4 * sum_below 8 (λ k. quarter (0 + k)) ≡ sum_below 8 (λ k. 0 + k)
unfolding sum_below
first_eight = refl

balanced : (s : ℕ) → 4 * sum_below 8 (λ k. quarter (s + k)) ≡ sum_below 8 (λ k. s + k)
balanced zero = first_eight
balanced (suc s) =
    omega (arith, balanced s, sum_slide 8 quarter s, sum_slide 8 (λ k. k) s, quarter_8 s)

-- kernel 3

-- the four reads are all reads
pub kernel_word_mean : (c : ℕ) (reads : List ℕ) → length reads ≡ 4 → kernel_word 3 c reads ≡ quarter (total reads)
unfolding kernel_word total
kernel_word_mean c [] h = absurd (omega arith)
kernel_word_mean c (x ∷ []) h = absurd (omega arith)
kernel_word_mean c (x ∷ y ∷ []) h = absurd (omega arith)
kernel_word_mean c (x ∷ y ∷ z ∷ []) h = absurd (omega arith)
kernel_word_mean c (x ∷ y ∷ z ∷ w ∷ []) h = ap quarter (omega arith)
kernel_word_mean c (x ∷ y ∷ z ∷ w ∷ v ∷ reads) h = absurd (omega arith)

pub mean_laws : MeanLaws
mean_laws =
    record {
      nearest = λ c reads h. rw (kernel_word_mean c reads h) (quarter_nearest (total reads));
      only = nearest_only;
      rises = nearest_rises;
      balanced = balanced;
    }
