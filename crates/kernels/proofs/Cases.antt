-- The paper's cases D, E, F and G ("Tried by hand"), E as card 3 has it, the sums that the card
-- names, and both sides of each limit on the number of reads, computed.
use Rattle.std.proofs.Common.{◌≡◌, ℕ, ◌-◌, ◌^◌, true, false, List, [], ◌∷◌, length, refl, ap, ◌∙◌}
use Rattle.kernels.specs.Kernels.{total, largest, quarter, kernel_word, suits}
use Rattle.kernels.proofs.Mean.{kernel_word_mean}

-- D: kernel 3 on four times 2^64 - 1
pub mean_widest : (c : ℕ) → kernel_word 3 c ((2 ^ 64 - 1) ∷ (2 ^ 64 - 1) ∷ (2 ^ 64 - 1) ∷ (2 ^ 64 - 1) ∷ []) ≡ 2 ^ 64 - 1
unfolding kernel_word
mean_widest c = refl

-- E: kernel 3 on 1, 1, 1, 0
pub mean_rounded : (c : ℕ) → kernel_word 3 c (1 ∷ 1 ∷ 1 ∷ 0 ∷ []) ≡ 1
unfolding kernel_word
mean_rounded c = refl

-- card 3: four reads with the sum 3, 6, 10
pub mean_of_3 : (c : ℕ) (reads : List ℕ) → length reads ≡ 4 → total reads ≡ 3 → kernel_word 3 c reads ≡ 1
mean_of_3 c reads h e = kernel_word_mean c reads h ∙ ap quarter e

pub mean_of_6 : (c : ℕ) (reads : List ℕ) → length reads ≡ 4 → total reads ≡ 6 → kernel_word 3 c reads ≡ 2
mean_of_6 c reads h e = kernel_word_mean c reads h ∙ ap quarter e

pub mean_of_10 : (c : ℕ) (reads : List ℕ) → length reads ≡ 4 → total reads ≡ 10 → kernel_word 3 c reads ≡ 2
mean_of_10 c reads h e = kernel_word_mean c reads h ∙ ap quarter e

-- F: kernel 1, read 2^64 - 1, c 1
pub sum_wraps : kernel_word 1 1 ((2 ^ 64 - 1) ∷ []) ≡ 0
unfolding kernel_word total
sum_wraps = refl

-- G: kernel 2, reads 3 and 5, c 0
pub difference_wraps : kernel_word 2 0 (3 ∷ 5 ∷ []) ≡ 2 ^ 64 - 2
unfolding kernel_word
difference_wraps = refl

-- kernel 0: the constant, whatever is read
pub constant_word : kernel_word 0 7 (3 ∷ 5 ∷ []) ≡ 7
unfolding kernel_word
constant_word = refl

-- kernel 4: the largest read, wherever it stands
pub largest_inside : (c : ℕ) → kernel_word 4 c (3 ∷ 8 ∷ 5 ∷ []) ≡ 8
unfolding kernel_word largest
largest_inside c = refl

-- kernels 0 and 1: any number of reads
pub any_reads : (suits 0 0 ≡ true) × (suits 0 8 ≡ true) × (suits 1 0 ≡ true) × (suits 1 8 ≡ true)
unfolding suits
any_reads = (refl, refl, refl, refl)

-- kernel 2: exactly two
pub two_reads : (suits 2 1 ≡ false) × (suits 2 2 ≡ true) × (suits 2 3 ≡ false)
unfolding suits
two_reads = (refl, refl, refl)

-- kernel 3: exactly four
pub four_reads : (suits 3 3 ≡ false) × (suits 3 4 ≡ true) × (suits 3 5 ≡ false)
unfolding suits
four_reads = (refl, refl, refl)

-- kernel 4: at least one
pub some_reads : (suits 4 0 ≡ false) × (suits 4 1 ≡ true) × (suits 4 8 ≡ true)
unfolding suits
some_reads = (refl, refl, refl)

-- 5 is no kernel
pub no_kernel : (suits 5 0 ≡ false) × (suits 5 4 ≡ false) × (kernel_word 5 7 (3 ∷ 5 ∷ []) ≡ 0)
unfolding suits kernel_word
no_kernel = (refl, refl, refl)
