-- The unrolled loop (paper 01, "Kernels"): one cell a region, neither ranks nor transfers; tasks go in body order, pass after pass,
-- each reading its cells, computing its word and then writing it. It refuses nothing.
use Rattle.std.specs.Prelude.{ℕ, zero, suc, map}
use Rattle.finite.specs.Update.{Store, put}
use Rattle.body.specs.Body.{Body}

module _ (B : Body) where
  -- the word of task t on the cells c
  unfoldable pub task_word : ℕ → Store → ℕ
  task_word t c = B.compute t (map c (B.reads t))

  -- the cells after the tasks 0 .. t-1
  unfoldable pub tasks_run : ℕ → Store → Store
  tasks_run zero c = c
  tasks_run (suc t) c = put (B.writes t) (task_word t (tasks_run t c)) (tasks_run t c)

  -- the cells before pass p
  unfoldable pub cells_of : ℕ → Store
  cells_of zero = B.starting
  cells_of (suc p) = tasks_run B.tasks (cells_of p)

  -- the cells before task t in pass p, and the task's word there
  unfoldable pub cells_at : ℕ → ℕ → Store
  cells_at p t = tasks_run t (cells_of p)

  unfoldable pub loop_word : ℕ → ℕ → ℕ
  loop_word p t = task_word t (cells_at p t)

  -- a region's final number
  unfoldable pub loop_final : ℕ → ℕ
  loop_final = cells_of B.passes
