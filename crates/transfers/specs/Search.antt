-- The states of the transfer search, step by step. They are the search's own, for the contracts of
-- its private functions: nothing that a reader must believe.
use Rattle.std.specs.Prelude.{ℕ, zero, suc, ◌+◌, ◌-◌, ◌*◌, ◌/◌, ◌%◌, ◌^◌, ◌≤◌, ◌<◌, ◌≡◌, Bool, true, cond, not, ◌&&◌, ◌||◌, List, [], ◌++◌, eqb, ltb, length, get_or, take, set}
use Rattle.std.specs.Int.Bits.{bit_or}
use Rattle.std.specs.Int.Count.{ones}
use Rattle.finite.specs.Below.{count_below}
use Rattle.finite.specs.Lists.{tabulate}
use Rattle.body.specs.Transfers.{forward}
use Rattle.plan.specs.Limits.{max_tasks, max_ranks, max_regions, max_accesses}
use Rattle.plan.specs.Layout.{ranks_of, tasks_of, rank_of, accesses_of, access_at, access_region, region_at, is_written, reads, writes, body_of}
use Rattle.plan.specs.Form.{words_ok}
use Rattle.transfers.specs.Wanted.{plan_masks, has_rank, mask_of, masks_by, wrapped_at}

-- a row: the eight access words of a task
abbrev pub row_of : List ℕ → ℕ → List ℕ
row_of w t = tabulate max_accesses (access_at w t)

-- the words of a row fit 16 bits
pub record Narrow (w : List ℕ) (t : ℕ) : Type 0 where
  pub below : t < max_tasks
  pub fits : (a : ℕ) → a < max_accesses → access_at w t a < 65536

-- access a of a row: whether it reads and writes, and its region
abbrev pub reads_in : List ℕ → ℕ → Bool
reads_in row a = reads (get_or row a 0)

abbrev pub writes_in : List ℕ → ℕ → Bool
writes_in row a = writes (get_or row a 0)

abbrev pub region_in : List ℕ → ℕ → ℕ
region_in row a = access_region (get_or row a 0)

-- no two of the first n accesses of a row have one region
unfoldable pub Apart : List ℕ → ℕ → Type 0
Apart row n = (a b : ℕ) → a < n → b < n → region_in row a ≡ region_in row b → a ≡ b

-- the first n rows of the table are those of the tasks
unfoldable pub Rows : List ℕ → ℕ → List (List ℕ) → Type 0
Rows w n table = take n table ≡ tabulate n (row_of w)

-- words in form, and a table of the rows of all their tasks
pub record Laid (w : List ℕ) (table : List (List ℕ)) : Type 0 where
  pub ok : words_ok w ≡ true
  pub rows : Rows w (tasks_of w) table

-- task t can be looked at: its rank and number of accesses are within the limits, its row is in the
-- table
pub record Ready (w : List ℕ) (table : List (List ℕ)) (t : ℕ) : Type 0 where
  pub below : t < max_tasks
  pub rank_most : rank_of w t < max_ranks
  pub accesses_most : accesses_of w t ≤ max_accesses
  pub row : get_or table t [] ≡ row_of w t
  pub apart : Apart (get_or table t []) (accesses_of w t)

-- what the number of an access of task i on rank r starts from. `last` has a number for each
-- region: 65536 (8 i + a) + 2 ^ q for each rank q but that of i, where access a of task i wrote it
-- last
abbrev pub access_base : ℕ → ℕ → ℕ
access_base i r = 524288 * i + (65535 - 2 ^ r)

abbrev pub base_of : List ℕ → ℕ → ℕ
base_of w i = access_base i (rank_of w i)

-- where no task wrote region g, it names the mask of the region instead, with the bits of all ranks
abbrev pub unwritten : ℕ → ℕ
unwritten g = 65536 * (plan_masks + g) + 65535

-- `last` where no task wrote one of the first n regions
abbrev pub no_writers : ℕ → List ℕ
no_writers n = tabulate max_regions (λ g. cond (ltb g n) (unwritten g) 0)

-- the numbers of `last` lie below
abbrev pub source_end : ℕ
source_end = 75497472

pub record Sources (last : List ℕ) : Type 0 where
  pub size : length last ≡ max_regions
  pub each : (g : ℕ) → get_or last g 0 < source_end

-- last, after the writes of the first n accesses of a row
unfoldable pub noted : List ℕ → ℕ → ℕ → List ℕ → List ℕ
noted row base zero last = last
noted row base (suc a) last =
    cond (writes_in row a) (set (noted row base a last) (region_in row a) (base + 65536 * a)) (noted row base a last)

-- last, after the writes of task t
abbrev pub noted_task : List ℕ → ℕ → List ℕ → List ℕ
noted_task w t last = noted (row_of w t) (base_of w t) (accesses_of w t) last

-- last, after the writes of the first n tasks
unfoldable pub noted_tasks : List ℕ → ℕ → List ℕ → List ℕ
noted_tasks w zero last = last
noted_tasks w (suc t) last = noted_task w t (noted_tasks w t last)

-- rank q reads what the source names: an access of another rank, or a region that is not written
abbrev pub claims : Bool → ℕ → ℕ → Bool
claims reads source q = reads && has_rank source q

-- the flag of that access or region and rank
abbrev pub flag_of : ℕ → ℕ → ℕ
flag_of source q = 16 * (source / 65536) + q

-- the flags, after a read by rank q
unfoldable pub claimed : Bool → ℕ → ℕ → List ℕ → List ℕ
claimed reads source q flags = cond (claims reads source q) (set flags (flag_of source q) 1) flags

-- the flags, after the reads of the first n accesses of a row by rank q
unfoldable pub marked : List ℕ → List ℕ → ℕ → ℕ → List ℕ → List ℕ
marked row last q zero flags = flags
marked row last q (suc a) flags = claimed (reads_in row a) (get_or last (region_in row a) 0) q (marked row last q a flags)

-- the flags, after the reads of task t
abbrev pub marked_task : List ℕ → List ℕ → ℕ → List ℕ → List ℕ
marked_task w last t flags = marked (row_of w t) last (rank_of w t) (accesses_of w t) flags

-- the flags, after the reads of the first n tasks, each before its writes
unfoldable pub marked_tasks : List ℕ → List ℕ → ℕ → List ℕ → List ℕ
marked_tasks w last zero flags = flags
marked_tasks w last (suc t) flags = marked_task w (noted_tasks w t last) t (marked_tasks w last t flags)

-- a test of a task, an access and a rank, as one of their flag's number
abbrev pub per_flag : (ℕ → ℕ → ℕ → Bool) → ℕ → Bool
per_flag p k = p (k / 128) (k / 16 % 8) (k % 16)

-- a flag for each access and rank, at 128 i + 16 a + q; and one for each region and rank behind
-- them
abbrev pub access_flags : ℕ
access_flags = 16384

abbrev pub plan_flags : ℕ
plan_flags = 18432

-- how many flags of accesses are set
unfoldable pub flag_count : List ℕ → ℕ
flag_count flags = count_below access_flags (λ k. not (eqb (get_or flags k 0) 0))

-- the flags that masks hold: flag 16 k + q is bit q of mask k
unfoldable pub flags_of : List ℕ → List ℕ
flags_of masks = tabulate plan_flags (λ k. get_or masks (k / 16) 0 / 2 ^ (k % 16) % 2)

-- the bit of rank q is set in the mask at k
pub record Raised (masks : List ℕ) (k q : ℕ) (masks' : List ℕ) : Type 0 where
  pub below : get_or masks k 0 < 65536
  pub raised : masks' ≡ cond (has_rank (get_or masks k 0) q) masks (set masks k (get_or masks k 0 + 2 ^ q))

-- masks of accesses, and of regions, that hold so many set flags of accesses
pub record Tallied (masks ahead : List ℕ) (total : ℕ) : Type 0 where
  pub size : length masks ≡ plan_masks
  pub regions : length ahead ≡ max_regions
  pub fits : (g : ℕ) → g < max_regions → get_or ahead g 0 < 65536
  pub count : total ≡ flag_count (flags_of (masks ++ ahead))

-- the ranks of the mask `ahead` to which the word of the access that the source names goes by a
-- wrapped transfer: they are not the access's own, nor in its mask `forward`
abbrev pub late_of : ℕ → ℕ → ℕ → ℕ
late_of ahead source forward = mask_of (λ q. (has_rank ahead q && has_rank source q) && not (has_rank forward q))

-- a region is closed: the access that its source names, if it is one, serves the reads ahead. late
-- are the ranks that it serves besides
module _ (source ahead : ℕ) (masks : List ℕ) where
  abbrev pub forward_mask : ℕ
  forward_mask = get_or masks (source / 65536) 0

  abbrev pub late : ℕ
  late = late_of ahead source forward_mask

  abbrev pub serves : Bool
  serves = ltb (source / 65536) plan_masks && not (eqb late 0)

  unfoldable pub closed_masks : List ℕ
  closed_masks = cond serves (set masks (source / 65536) (bit_or forward_mask late)) masks

  unfoldable pub closed_wrapped : List ℕ → List ℕ
  closed_wrapped wrapped = cond serves (set wrapped (source / 65536) late) wrapped

  unfoldable pub closed_total : ℕ → ℕ
  closed_total total = cond serves (total + ones late) total

module _ (w : List ℕ) where
  -- rank q is not that of task i, and reads what its access a writes in the pass in which it is
  -- written: a transfer that is not wrapped
  unfoldable pub forward_at : ℕ → ℕ → ℕ → Bool
  forward_at i a q =
      ltb i (tasks_of w)
      && (ltb a (accesses_of w i)
      && (is_written w i a
      && (ltb q (ranks_of w) && (not (eqb q (rank_of w i)) && forward (body_of w) i (region_at w i a) q))))

  -- a wrapped transfer of one of the first n regions
  abbrev pub late_at : ℕ → ℕ → ℕ → ℕ → Bool
  late_at n i a q = ltb (region_at w i a) n && wrapped_at w i a q

  abbrev pub closed_at : ℕ → ℕ → ℕ → ℕ → Bool
  closed_at n i a q = forward_at i a q || late_at n i a q

  -- what is found when the first n regions are closed
  pub record Closed (n : ℕ) (masks wrapped : List ℕ) (total : ℕ) : Type 0 where
    pub masks_are : masks ≡ masks_by (closed_at n)
    pub wrapped_are : wrapped ≡ masks_by (late_at n)
    pub count : total ≡ count_below access_flags (per_flag (closed_at n))
