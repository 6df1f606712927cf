-- The words of a plan (docs/LAYOUT.md), and the loop body that they hold.
--   0 passes, 1 ranks, 2 regions, 3 tasks; 4 + g the starting value of region g; from 132 + 12 i on
--   the words of task i: rank, kernel, constant, number of accesses, and its accesses in record
--   order, each region + 128 × mode (in 0, out 1, inout 2).
-- What a plan does not use is 0.
use Rattle.std.specs.Prelude.{ℕ, ◌+◌, ◌*◌, ◌/◌, ◌%◌, Bool, not, List, ◌==◌, slice_index}
use Rattle.finite.specs.Lists.{gather}
use Rattle.kernels.specs.Kernels.{kernel_word}
use Rattle.body.specs.Body.{Body}

abbrev pub plan_words : ℕ
plan_words = 1668

-- the words of a task, and where those of task i stand
abbrev pub task_words : ℕ
task_words = 12

abbrev pub rank_index : ℕ → ℕ
rank_index i = 132 + 12 * i

abbrev pub kernel_index : ℕ → ℕ
kernel_index i = 133 + 12 * i

abbrev pub constant_index : ℕ → ℕ
constant_index i = 134 + 12 * i

abbrev pub accesses_index : ℕ → ℕ
accesses_index i = 135 + 12 * i

abbrev pub access_index : ℕ → ℕ → ℕ
access_index i a = 136 + 12 * i + a

-- an access: a number below access_end, its region, and whether it reads and writes it
abbrev pub access_end : ℕ
access_end = 384

abbrev pub access_region : ℕ → ℕ
access_region access = access % 128

abbrev pub reads : ℕ → Bool
reads access = not (access / 128 == 1)

abbrev pub writes : ℕ → Bool
writes access = not (access / 128 == 0)

module _ (w : List ℕ) where
  -- word i
  abbrev pub at : ℕ → ℕ
  at i = slice_index w i

  abbrev pub passes_of : ℕ
  passes_of = at 0

  abbrev pub ranks_of : ℕ
  ranks_of = at 1

  abbrev pub regions_of : ℕ
  regions_of = at 2

  abbrev pub tasks_of : ℕ
  tasks_of = at 3

  abbrev pub starting_of : ℕ → ℕ
  starting_of g = at (4 + g)

  abbrev pub rank_of : ℕ → ℕ
  rank_of i = at (rank_index i)

  abbrev pub kernel_of : ℕ → ℕ
  kernel_of i = at (kernel_index i)

  abbrev pub constant_of : ℕ → ℕ
  constant_of i = at (constant_index i)

  -- how many accesses task i has
  abbrev pub accesses_of : ℕ → ℕ
  accesses_of i = at (accesses_index i)

  -- access a of task i, its region, and whether it reads and writes it
  abbrev pub access_at : ℕ → ℕ → ℕ
  access_at i a = at (access_index i a)

  abbrev pub region_at : ℕ → ℕ → ℕ
  region_at i a = access_region (access_at i a)

  abbrev pub is_read : ℕ → ℕ → Bool
  is_read i a = reads (access_at i a)

  abbrev pub is_written : ℕ → ℕ → Bool
  is_written i a = writes (access_at i a)

  -- the regions that task i reads and writes, in record order
  abbrev pub reads_of : ℕ → List ℕ
  reads_of i = gather (accesses_of i) (is_read i) (region_at i)

  abbrev pub writes_of : ℕ → List ℕ
  writes_of i = gather (accesses_of i) (is_written i) (region_at i)

  abbrev pub body_of : Body
  body_of =
      record {
        passes = passes_of;
        ranks = ranks_of;
        regions = regions_of;
        tasks = tasks_of;
        rank = rank_of;
        reads = reads_of;
        writes = writes_of;
        compute = λ i xs. kernel_word (kernel_of i) (constant_of i) xs;
        starting = starting_of;
      }
