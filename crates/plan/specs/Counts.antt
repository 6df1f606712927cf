-- Counts of passes as the code compares them. They serve the contracts of inner functions.
use Rattle.std.specs.Prelude.{ℕ, ◌+◌, ◌-◌, ◌%◌, ◌^◌}

-- the least number whose top bit is set; counts in form lie below it, lent ones need not
abbrev pub top_bit : ℕ
top_bit = 2 ^ 63

-- x less y, modulo 2 ^ 64
abbrev pub surplus_of : ℕ → ℕ → ℕ
surplus_of x y = (x + (2 ^ 64 - y)) % 2 ^ 64
