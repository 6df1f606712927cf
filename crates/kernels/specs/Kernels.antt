-- The word that a task computes, and how many reads its kernel permits (paper 01, "Kernels"; kernel 3
-- by card 3).
use Rattle.std.specs.Prelude.{◌≡◌, ℕ, ◌+◌, ◌-◌, ◌*◌, ◌/◌, ◌%◌, ◌^◌, ◌≤◌, max, Bool, true, false, cond, List, [], ◌∷◌, length, ◌==◌, nat_le, slice_index, Option, Some, None}
use Rattle.finite.specs.Below.{sum_below}
use Rattle.kernels.specs.declared.Computation.{Computation}
use Rattle.kernels.specs.declared.Computation.TheVariants.{Constant, Sum, Difference, Mean, Largest}
use Rattle.kernels.specs.declared.Permitted.{Permitted}
use Rattle.kernels.specs.declared.Permitted.TheVariants.{Any, Exactly, AtLeast}
use Rattle.kernels.specs.declared.Kernel.{Kernel}

-- the exact sum of all reads
unfoldable pub total : List ℕ → ℕ
total [] = 0
total (x ∷ reads) = x + total reads

-- the largest read; 0 where there is none
unfoldable pub largest : List ℕ → ℕ
largest [] = 0
largest (x ∷ reads) = max x (largest reads)

-- the read at place i in record order, the first at place 0; 0 where there is none
abbrev pub read_at : List ℕ → ℕ → ℕ
read_at reads i = slice_index reads i

-- kernel 1: c plus all reads, modulo 2^64
abbrev pub sum_word : ℕ → List ℕ → ℕ
sum_word c reads = (c + total reads) % 2 ^ 64

-- kernel 2: first read minus second plus c, modulo 2^64, where minus x is plus 2^64 - x
abbrev pub difference_word : ℕ → List ℕ → ℕ
difference_word c reads = (read_at reads 0 + (2 ^ 64 - read_at reads 1) + c) % 2 ^ 64

-- a quarter of s to the nearest whole number, the even one where two are equally near: before the
-- division 1 is added where s / 4, rounded down, is even, so that a half goes down, and 2 where it
-- is odd, so that it goes up
abbrev pub quarter : ℕ → ℕ
quarter s = (s + 1 + s / 4 % 2) / 4

-- kernel 3: a quarter of the exact sum of the four reads
abbrev pub mean_word : List ℕ → ℕ
mean_word reads = quarter (read_at reads 0 + read_at reads 1 + read_at reads 2 + read_at reads 3)

-- what number k is as a kernel: what it computes, and how many reads it permits; no other number
-- is a kernel
abbrev pub kernel_by : ℕ → Option Kernel
kernel_by k =
    cond (k == 0) (Some (record { computation = Constant; permitted = Any }))
    (cond (k == 1) (Some (record { computation = Sum; permitted = Any }))
    (cond (k == 2) (Some (record { computation = Difference; permitted = Exactly 2 }))
    (cond (k == 3) (Some (record { computation = Mean; permitted = Exactly 4 }))
    (cond (k == 4) (Some (record { computation = Largest; permitted = AtLeast 1 }))
    None))))

-- the word of each computation, with the constant c and the words read
abbrev pub word_by : Computation → ℕ → List ℕ → ℕ
word_by Constant c reads = c
word_by Sum c reads = sum_word c reads
word_by Difference c reads = difference_word c reads
word_by Mean c reads = mean_word reads
word_by Largest c reads = largest reads

-- n reads are permitted
abbrev pub allowed : Permitted → ℕ → Bool
allowed Any n = true
allowed (Exactly m) n = n == m
allowed (AtLeast m) n = nat_le m n

-- the word of what a number is as a kernel; 0 where it is none
abbrev pub computes : Option Kernel → ℕ → List ℕ → ℕ
computes (Some kernel) c reads = word_by kernel.computation c reads
computes None c reads = 0

-- that it permits n reads
abbrev pub permits : Option Kernel → ℕ → Bool
permits (Some kernel) n = allowed kernel.permitted n
permits None n = false

-- that it is a kernel
abbrev pub is_known : Option Kernel → Bool
is_known (Some kernel) = true
is_known None = false

-- the word of kernel k with the constant c and the words read, in record order
unfoldable pub kernel_word : ℕ → ℕ → List ℕ → ℕ
kernel_word k c reads = computes (kernel_by k) c reads

-- kernel k permits n reads
unfoldable pub suits : ℕ → ℕ → Bool
suits k n = permits (kernel_by k) n

-- k is the number of a kernel
unfoldable pub is_kernel : ℕ → Bool
is_kernel k = is_known (kernel_by k)

-- Kernel 3 in the words of card 3 (proved in proofs/Mean.antt).

-- how far apart two numbers are
abbrev pub apart : ℕ → ℕ → ℕ
apart m n = (m - n) + (n - m)

-- m is the whole number nearest to a quarter of s, the even one where two are equally near: 4 m
-- lies within 2 of s, and where it differs by exactly 2, m is even
pub record Nearest (s m : ℕ) : Type 0 where
  pub within : apart (4 * m) s ≤ 2
  pub even : apart (4 * m) s ≡ 2 → m % 2 ≡ 0

pub record MeanLaws : Type 0 where
  -- the word of kernel 3 is the number nearest to a quarter of the sum of its four reads
  pub nearest : (c : ℕ) (reads : List ℕ) → length reads ≡ 4 → Nearest (total reads) (kernel_word 3 c reads)
  -- a sum has no other such number, and a larger sum has no lower one
  pub only : (s m n : ℕ) → Nearest s m → Nearest s n → m ≡ n
  pub rises : (s u m n : ℕ) → s ≤ u → Nearest s m → Nearest u n → m ≤ n
  -- over eight sums in a row rounding takes as much as it gives
  pub balanced : (s : ℕ) → 4 * sum_below 8 (λ k. quarter (s + k)) ≡ sum_below 8 (λ k. s + k)
