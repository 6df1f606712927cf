-- The limits of a text and of its plan (paper 01, "The plan text").
use Rattle.std.specs.Prelude.{ℕ}

abbrev pub max_bytes : ℕ
max_bytes = 32768

-- 10^12 since card 5 (paper 02); 1,000,000 before
abbrev pub max_passes : ℕ
max_passes = 1000000000000

abbrev pub max_ranks : ℕ
max_ranks = 16

abbrev pub max_regions : ℕ
max_regions = 128

abbrev pub max_tasks : ℕ
max_tasks = 128

abbrev pub max_accesses : ℕ
max_accesses = 8

abbrev pub max_transfers : ℕ
max_transfers = 256

-- as in `kernel_by` of crate kernels, by its law `is_kernel_most`
abbrev pub max_kernel : ℕ
max_kernel = 4

-- starting values and constants: 2^64 − 1
abbrev pub max_word : ℕ
max_word = 18446744073709551615
