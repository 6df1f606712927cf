-- A plan within its limits (paper 01, "The plan text" and "Kernels").
use Rattle.std.specs.Prelude.{ℕ, Bool, true, ◌&&◌, List, [], ◌∷◌, length, ltb, leb}
use Rattle.finite.specs.Lists.{distinct}
use Rattle.kernels.specs.Kernels.{suits}
use Rattle.plan.specs.Limits.{max_accesses, max_kernel, max_passes, max_ranks, max_regions, max_tasks, max_word}
use Rattle.reading.specs.Plan.{Access, Plan, Start, Task, named, read_count, started}

-- the test passes for each
abbrev pub every : {X : Type 0} → (X → Bool) → List X → Bool
every p [] = true
every p (x ∷ l) = p x && every p l

abbrev pub in_word : ℕ → Bool
in_word v = leb v max_word

abbrev pub start_fits : ℕ → Start → Bool
start_fits n s = ltb s.region n && in_word s.value

abbrev pub access_fits : ℕ → Access → Bool
access_fits n a = ltb a.region n

-- a task as far as its records go, in a loop of q ranks and n regions
abbrev pub open_fits : ℕ → ℕ → Task → Bool
open_fits q n t =
    ltb t.rank q
    && (leb t.kernel max_kernel
    && (in_word t.constant
    && (leb (length t.accesses) max_accesses
    && (every (access_fits n) t.accesses
    && distinct (named t.accesses)))))

-- and with the reads that its kernel permits
abbrev pub task_fits : ℕ → ℕ → Task → Bool
task_fits q n t = open_fits q n t && suits t.kernel (read_count t.accesses)

-- each number within its limits, no region started or named twice
unfoldable pub valid : Plan → Bool
valid P =
    leb P.passes max_passes
    && (leb 1 P.ranks
    && (leb P.ranks max_ranks
    && (leb 1 P.regions
    && (leb P.regions max_regions
    && (every (start_fits P.regions) P.starts
    && (distinct (started P.starts)
    && (leb (length P.tasks) max_tasks
    && every (task_fits P.ranks P.regions) P.tasks)))))))
