-- The scan's own shape of the test of a plan's words. Nothing here need be believed: the proofs
-- show that it is the test of Form, and that it counts what Changes counts.
use Rattle.std.specs.Prelude.{◌≡◌, ℕ, zero, suc, ◌+◌, ◌-◌, ◌*◌, ◌<◌, ◌≤◌, Bool, true, false, cond, not, ◌&&◌, ◌||◌, List, length, ◌==◌, nat_eq, nat_le, nat_lt, slice_index, Option, Some, None}
use Rattle.finite.specs.Below.{all_below, any_below, count_below}
use Rattle.kernels.specs.declared.Permitted.{Permitted}
use Rattle.kernels.specs.declared.Permitted.TheVariants.{Any, Exactly, AtLeast}
use Rattle.kernels.specs.declared.Kernel.{Kernel}
use Rattle.kernels.specs.Kernels.{suits}
use Rattle.plan.specs.Limits.{max_ranks, max_regions, max_tasks, max_accesses}
use Rattle.plan.specs.Layout.{at, ranks_of, regions_of, tasks_of, starting_of, rank_of, kernel_of, accesses_of, access_at, region_at, is_read, rank_index, access_end}
use Rattle.plan.specs.Form.{rest_ok, words_ok}
use Rattle.form.specs.Changes.{names, changed, change_count}

-- the list has a word for each region, f g for region g
pub record Keeps (f : ℕ → ℕ) (l : List ℕ) : Type 0 where
  pub size : length l ≡ max_regions
  pub word : (g : ℕ) → g < max_regions → slice_index l g ≡ f g

-- what a scan answers: a count where a test holds, and then the list l has a word f g for each
-- region g; none where it does not
abbrev pub Scanned : Bool → ℕ → (ℕ → ℕ) → Option ℕ → List ℕ → Type 0
Scanned test count f (Some changes) l = (test ≡ true) × (changes ≡ count) × Keeps f l
Scanned test count f None l = test ≡ false

-- that any number of reads is permitted
abbrev pub any_reads : Permitted → Bool
any_reads Any = true
any_reads (Exactly n) = false
any_reads (AtLeast n) = false

-- a kernel that permits any number of reads
abbrev pub takes_any : Option Kernel → Bool
takes_any (Some kernel) = any_reads kernel.permitted
takes_any None = false

module _ (w : List ℕ) where
  -- kept for a region that task i was the last to name: its rank and its number
  abbrev pub mark : ℕ → ℕ
  mark i = 256 * (rank_of w i + 1) + i

  -- kept for region g before task i; 0 where no task has named it
  unfoldable pub kept : ℕ → ℕ → ℕ
  kept zero g = 0
  kept (suc i) g = cond (names w i g) (mark i) (kept i g)

  -- and before access a of task i
  abbrev pub kept_in : ℕ → ℕ → ℕ → ℕ
  kept_in i a g = cond (any_below a (λ b. nat_eq g (region_at w i b))) (mark i) (kept i g)

  -- access a of task i: a mode, and a region that the task has not named before
  abbrev pub fresh_ok : ℕ → ℕ → Bool
  fresh_ok i a = nat_lt (access_at w i a) access_end && all_below a (λ b. not (region_at w i b == region_at w i a))

  abbrev pub fresh_all_ok : ℕ → Bool
  fresh_all_ok i = all_below (accesses_of w i) (fresh_ok i)

  -- how many accesses of task i are changes
  abbrev pub changes_of : ℕ → ℕ
  changes_of i = count_below (accesses_of w i) (changed w i)

  abbrev pub head_ok : ℕ → Bool
  head_ok i = nat_lt (rank_of w i) (ranks_of w) && nat_le (accesses_of w i) max_accesses

  abbrev pub reads_ok : ℕ → Bool
  reads_ok i = suits (kernel_of w i) (count_below (accesses_of w i) (is_read w i))

  -- a task that the plan has, but for the number of regions
  unfoldable pub scan_ok : ℕ → Bool
  scan_ok i = head_ok i && (fresh_all_ok i && (rest_ok w i && reads_ok i))

  -- region g is not named, and its word is 0
  abbrev pub absent_ok : ℕ → Bool
  absent_ok g = kept (tasks_of w) g == 0 && starting_of w g == 0

  abbrev pub tasks_scan_ok : Bool
  tasks_scan_ok = all_below (tasks_of w) scan_ok

  abbrev pub behind_ok : ℕ → Bool
  behind_ok g = nat_lt g (regions_of w) || absent_ok g

  abbrev pub behind_regions_ok : Bool
  behind_regions_ok = all_below max_regions behind_ok

  -- behind the tasks, a word of the first half of what is left and one of the second at a time
  abbrev pub half : ℕ
  half = 6 * (max_tasks - tasks_of w)

  abbrev pub pair_ok : ℕ → Bool
  pair_ok k = at w (rank_index (tasks_of w) + k) == 0 && at w (rank_index (tasks_of w) + half + k) == 0

  abbrev pub behind_tasks_ok : Bool
  behind_tasks_ok = all_below half pair_ok

  -- before task i
  pub record Open (i : ℕ) (l : List ℕ) : Type 0 where
    pub tasks : tasks_of w ≤ max_tasks
    pub most : ranks_of w ≤ max_ranks
    pub ranks : (j : ℕ) → j < i → rank_of w j < max_ranks
    pub keeps : Keeps (kept i) l

  -- before its accesses
  pub record Ready (i : ℕ) (l : List ℕ) : Type 0 where
    pub task : i < max_tasks
    pub few : accesses_of w i ≤ max_accesses
    pub rank : rank_of w i < max_ranks
    pub ranks : (j : ℕ) → j < i → rank_of w j < max_ranks
    pub keeps : Keeps (kept i) l

  -- the whole scan: the changes where the words are in form, but for the number of transfers; none
  -- where they are not
  abbrev pub Answer : Option ℕ → Type 0
  Answer (Some changes) = (words_ok w ≡ true) × (changes ≡ change_count w)
  Answer None = words_ok w ≡ false
