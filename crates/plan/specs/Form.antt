-- When the 1,668 words of a plan are in form, as tests on the words: exactly what reading leaves
-- for some text, which `reading` proves.
use Rattle.std.specs.Prelude.{◌≡◌, ℕ, ◌+◌, ◌≤◌, Bool, cond, not, ◌&&◌, ◌||◌, List, length, ◌==◌, nat_eq, nat_le, nat_lt}
use Rattle.finite.specs.Below.{all_below, count_below}
use Rattle.kernels.specs.Kernels.{suits}
use Rattle.body.specs.Transfers.{transfer_count}
use Rattle.plan.specs.Limits.{max_passes, max_ranks, max_regions, max_tasks, max_accesses, max_transfers, max_kernel, max_word}
use Rattle.plan.specs.Layout.{plan_words, task_words, access_end, rank_index, at, passes_of, ranks_of, regions_of, tasks_of, starting_of, rank_of, kernel_of, accesses_of, access_at, region_at, is_read, body_of}

-- the words of a plan: so many, of 64 bits
pub record Words (w : List ℕ) : Type 0 where
  pub size : length w ≡ plan_words
  pub fits : (i : ℕ) → at w i ≤ max_word

module _ (w : List ℕ) where
  -- passes, ranks, regions and tasks within their limits, with the limit `most` on passes
  abbrev pub numbers_within : ℕ → Bool
  numbers_within most =
      nat_le (passes_of w) most
      && (nat_le 1 (ranks_of w)
      && (nat_le (ranks_of w) max_ranks
      && (nat_le 1 (regions_of w)
      && (nat_le (regions_of w) max_regions
      && (nat_le 1 (tasks_of w)
      && nat_le (tasks_of w) max_tasks)))))

  abbrev pub counts_ok : Bool
  counts_ok = numbers_within max_passes

  -- where there is no region g, its word is 0
  abbrev pub value_ok : ℕ → Bool
  value_ok g = nat_lt g (regions_of w) || starting_of w g == 0

  -- access a of task i: a mode, one of the plan's regions, and none that the task has named before
  abbrev pub access_ok : ℕ → ℕ → Bool
  access_ok i a =
      nat_lt (access_at w i a) access_end
      && (nat_lt (region_at w i a) (regions_of w)
      && all_below a (λ b. not (region_at w i b == region_at w i a)))

  -- behind the accesses of task i the words are 0
  abbrev pub rest_ok : ℕ → Bool
  rest_ok i = all_below max_accesses (λ a. nat_lt a (accesses_of w i) || access_at w i a == 0)

  -- a task that the plan has
  abbrev pub used_ok : ℕ → Bool
  used_ok i =
      nat_lt (rank_of w i) (ranks_of w)
      && (nat_le (kernel_of w i) max_kernel
      && (nat_le (accesses_of w i) max_accesses
      && (all_below (accesses_of w i) (access_ok i)
      && (suits (kernel_of w i) (count_below (accesses_of w i) (is_read w i))
      && rest_ok i))))

  -- one that it has not
  abbrev pub unused_ok : ℕ → Bool
  unused_ok i = all_below task_words (λ j. nat_eq (at w (rank_index i + j)) 0)

  abbrev pub task_ok : ℕ → Bool
  task_ok i = cond (nat_lt i (tasks_of w)) (used_ok i) (unused_ok i)

  -- all but the number of transfers
  unfoldable pub words_within : ℕ → Bool
  words_within most = numbers_within most && (all_below max_regions value_ok && all_below max_tasks task_ok)

  abbrev pub words_ok : Bool
  words_ok = words_within max_passes

  abbrev pub form_within : ℕ → Bool
  form_within most = words_within most && nat_le (transfer_count (body_of w)) max_transfers

  unfoldable pub in_form : Bool
  in_form = form_within max_passes
