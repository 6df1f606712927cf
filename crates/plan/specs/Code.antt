-- An item's number in the item table, its code: rank, kind, task or region, and whether it is of a
-- wrapped transfer, in one number. Kind 0 is a task, 1 a send, 2 a receive.
use Rattle.std.specs.Prelude.{ℕ, ◌+◌, ◌*◌, ◌/◌, ◌%◌}

abbrev pub code_from : ℕ → ℕ → ℕ → ℕ → ℕ
code_from fewer rank kind subject = 8192 * fewer + (512 * rank + (128 * kind + subject))

-- 1 for the items of a wrapped transfer, else 0
abbrev pub code_fewer : ℕ → ℕ
code_fewer code = code / 8192

abbrev pub code_rank : ℕ → ℕ
code_rank code = code / 512 % 16

abbrev pub code_kind : ℕ → ℕ
code_kind code = code / 128 % 4

-- the task of a task, the region of a send or receive
abbrev pub code_subject : ℕ → ℕ
code_subject code = code % 128
