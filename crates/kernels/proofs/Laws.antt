-- Laws of the kernels.
use Rattle.std.proofs.Common.{◌≡◌, ℕ, zero, suc, ◌+◌, ◌%◌, ◌^◌, ◌<◌, ◌≤◌, max, true, false, leb, List, [], ◌∷◌, ◌++◌, length, get_or, take, sym, refl, ap, ◌∙◌, add-one, arith, take_all, take-suc, fold, ne_eqb, eqb-true, Option, None}
use native.Mathlib.Decide.{dec_le}
use borrow.Author.Tests.{lt-leb}
use Rattle.finite.proofs.Tests.{not_both}
use Rattle.kernels.specs.declared.Kernel.{Kernel}
use Rattle.kernels.specs.Kernels.{read_at, total, largest, sum_word, kernel_by, computes, permits, is_known, kernel_word, suits, is_kernel}

-- total

-- the loop of the sum: before its first turn, over a turn, and after its last
pub total_snoc : (xs : List ℕ) (x : ℕ) → total (xs ++ (x ∷ [])) ≡ total xs + x
unfolding total
total_snoc [] x = omega arith
total_snoc (y ∷ xs) x = omega (arith, total_snoc xs x)

pub sum_none : (xs : List ℕ) (c : ℕ) → c < 2 ^ 64 → c ≡ sum_word c (take 0 xs)
unfolding total
sum_none xs c h = omega arith

-- a turn that adds the next read to s, modulo 2^64
pub sum_more : (xs : List ℕ) (i c s r : ℕ) → s ≡ sum_word c (take i xs) → i < length xs → r ≡ (s + get_or xs i 0) % 2 ^ 64 → r ≡ sum_word c (take (i + 1) xs)
sum_more xs i c s r h l e = rw (add-one, take-suc xs i 0, total_snoc) (omega arith)

pub sum_done : (xs : List ℕ) (i c s : ℕ) → s ≡ sum_word c (take i xs) → length xs ≤ i → s ≡ sum_word c xs
sum_done xs i c s h l = rw (take_all i xs l) at h

-- largest

-- a fold that takes the larger of the largest so far and the next read
pub largest_fold : (xs : List ℕ) (n : ℕ) → fold (λ s x. max x s) n xs ≡ max n (largest xs)
unfolding largest
largest_fold [] n = omega arith
largest_fold (x ∷ xs) n = omega (arith, largest_fold xs (max x n))

pub largest_below : (xs : List ℕ) (n : ℕ) → 0 < n → ((i : ℕ) → get_or xs i 0 < n) → largest xs < n
unfolding largest
largest_below [] n p h = p
largest_below (x ∷ xs) n p h = omega (arith, largest_below xs n p (λ i. h (suc i)), h 0)

-- kernel_by

-- no number above 4 is a kernel
pub kernel_by_other : (k : ℕ) → 4 < k → kernel_by k ≡ None
kernel_by_other k h =
    rw (ne_eqb k 0 (λ p. omega arith), ne_eqb k 1 (λ p. omega arith), ne_eqb k 2 (λ p. omega arith), ne_eqb k 3 (λ p. omega arith), ne_eqb k 4 (λ p. omega arith))

-- is_kernel

-- the kernels are the numbers 0 to 4
pub is_kernel_most : (k : ℕ) → is_kernel k ≡ leb k 4
unfolding is_kernel
is_kernel_most zero = refl
is_kernel_most (suc zero) = refl
is_kernel_most (suc (suc zero)) = refl
is_kernel_most (suc (suc (suc zero))) = refl
is_kernel_most (suc (suc (suc (suc zero)))) = refl
is_kernel_most (suc (suc (suc (suc (suc k))))) =
    ap is_known (kernel_by_other (suc (suc (suc (suc (suc k))))) (omega arith)) ∙ sym (lt-leb (suc (suc (suc (suc (suc k))))) 4 (omega arith))

-- suits

pub suits_other : (k n : ℕ) → 4 < k → suits k n ≡ false
unfolding suits
suits_other k n h = ap (λ x. permits x n) (kernel_by_other k h)

-- what a kernel permits, its number suits
pub suits_by : (k n : ℕ) (x : Option Kernel) → x ≡ kernel_by k → permits x n ≡ suits k n
unfolding suits
suits_by k n x e = ap (λ y. permits y n) e

pub suits_mean : (n : ℕ) → suits 3 n ≡ true → n ≡ 4
unfolding suits
suits_mean n h = eqb-true n 4 h

-- a number that permits some number of reads is a kernel
pub suits_kernel : (k n : ℕ) → suits k n ≡ true → k ≤ 4
suits_kernel k n h = elim (dec_le k 4) [ yes l ↦ l | no l ↦ absurd (not_both h (suits_other k n (omega arith))) ]

-- kernel_word

pub kernel_word_other : (k c : ℕ) (xs : List ℕ) → 4 < k → kernel_word k c xs ≡ 0
unfolding kernel_word
kernel_word_other k c xs h = ap (λ x. computes x c xs) (kernel_by_other k h)

-- the second read added to the word of kernel 2 gives the first plus c, modulo 2^64
pub kernel_word_difference : (c : ℕ) (xs : List ℕ) → read_at xs 1 ≤ 2 ^ 64 → (kernel_word 2 c xs + read_at xs 1) % 2 ^ 64 ≡ (read_at xs 0 + c) % 2 ^ 64
unfolding kernel_word
kernel_word_difference c xs h = omega arith

-- from words comes a word
pub kernel_word_below : (k c : ℕ) (xs : List ℕ) → c < 2 ^ 64 → ((i : ℕ) → get_or xs i 0 < 2 ^ 64) → kernel_word k c xs < 2 ^ 64
unfolding kernel_word
kernel_word_below zero c xs h g = h
kernel_word_below (suc zero) c xs h g = omega arith
kernel_word_below (suc (suc zero)) c xs h g = omega arith
kernel_word_below (suc (suc (suc zero))) c xs h g = omega (arith, g 0, g 1, g 2, g 3)
kernel_word_below (suc (suc (suc (suc zero)))) c xs h g = largest_below xs (2 ^ 64) (omega arith) g
kernel_word_below (suc (suc (suc (suc (suc k))))) c xs h g = omega (arith, kernel_word_other (suc (suc (suc (suc (suc k))))) c xs (omega arith))
