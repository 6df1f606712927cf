-- The text of a plan in the parts that code puts one after another: for the contracts of code, and
-- nothing that need be believed. w are the words of the plan.
use Rattle.std.specs.Prelude.{ℕ, ◌/◌, ◌%◌, cond, List, [], ◌∷◌, ◌++◌, eqb}
use Rattle.finite.specs.Lists.{collect}
use Rattle.text.specs.Ascii.{ascii}
use Rattle.text.specs.declared.Number.TheVariants.{Value}
use Rattle.plan.specs.Layout.{passes_of, ranks_of, regions_of, tasks_of, starting_of, rank_of, kernel_of, constant_of, accesses_of, access_at}
use Rattle.text.specs.Digits.{digits}

-- a tab, and a number in decimal
abbrev pub field : ℕ → List ℕ
field n = 9 ∷ digits (Value n)

-- the last field of a line, and the end of the line
abbrev pub last : ℕ → List ℕ
last n = field n ++ (10 ∷ [])

-- three fields, and the end of the line
abbrev pub three : ℕ → ℕ → ℕ → List ℕ
three x y z = field x ++ (field y ++ last z)

-- the word of a mode
unfoldable pub mode_text : ℕ → List ℕ
mode_text m = cond (eqb m 0) (ascii "in") (cond (eqb m 1) (ascii "out") (ascii "inout"))

-- the line of an access, by its word
unfoldable pub access_line : ℕ → List ℕ
access_line c = mode_text (c / 128) ++ last (c % 128)

module _ (w : List ℕ) where
  unfoldable pub loop_line : List ℕ
  loop_line = ascii "loop" ++ three (passes_of w) (ranks_of w) (regions_of w)

  -- the line of region g; none where it starts at 0
  unfoldable pub start_line : ℕ → List ℕ
  start_line g = cond (eqb (starting_of w g) 0) [] (ascii "start" ++ (field g ++ last (starting_of w g)))

  -- the lines of task i
  unfoldable pub begin_line : ℕ → List ℕ
  begin_line i = ascii "begin" ++ three (rank_of w i) (kernel_of w i) (constant_of w i)

  unfoldable pub access_line_at : ℕ → ℕ → List ℕ
  access_line_at i a = access_line (access_at w i a)

  abbrev pub access_lines : ℕ → List ℕ
  access_lines i = collect (accesses_of w i) (access_line_at i)

  unfoldable pub task_lines : ℕ → List ℕ
  task_lines i = begin_line i ++ (access_lines i ++ ascii "end\n")

  -- all `start` lines, and those of all tasks
  abbrev pub start_lines : List ℕ
  start_lines = collect (regions_of w) start_line

  abbrev pub all_tasks : List ℕ
  all_tasks = collect (tasks_of w) task_lines
