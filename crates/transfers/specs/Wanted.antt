-- The ranks that want what an access writes (paper 01, "Transfers and items"), those of them to
-- which it goes by a wrapped transfer (paper 02, card 2), and the reads ahead of a region's first
-- writer, which wrapped transfers serve.
use Rattle.std.specs.Prelude.{ℕ, ◌/◌, ◌%◌, ◌^◌, Bool, true, false, cond, ◌&&◌, List, eqb, ltb}
use Rattle.std.proofs.Math.Option.{Option, none, some}
use Rattle.finite.specs.Below.{any_below, sum_below}
use Rattle.finite.specs.Lists.{mem, tabulate}
use Rattle.body.specs.Transfers.{last_before, transferred, wrapped}
use Rattle.plan.specs.Limits.{max_ranks, max_regions, max_accesses}
use Rattle.plan.specs.Layout.{ranks_of, tasks_of, rank_of, accesses_of, region_at, is_written, reads_of, body_of}

-- a mask for each access that a plan can have; and with one for each region behind them
abbrev pub plan_masks : ℕ
plan_masks = 1024

abbrev pub all_masks : ℕ
all_masks = 1152

-- bit q of a mask is set
abbrev pub has_rank : ℕ → ℕ → Bool
has_rank mask q = eqb (mask / 2 ^ q % 2) 1

-- 2 ^ q for each rank q that passes a test
abbrev pub mask_of : (ℕ → Bool) → ℕ
mask_of p = sum_below max_ranks (λ q. cond (p q) (2 ^ q) 0)

-- the masks of a test of task, access and rank: for each access, that of the ranks that pass
abbrev pub mask_by : (ℕ → ℕ → ℕ → Bool) → ℕ → ℕ → ℕ
mask_by p i a = mask_of (p i a)

-- at max_accesses i + a
abbrev pub masks_by : (ℕ → ℕ → ℕ → Bool) → List ℕ
masks_by p = tabulate plan_masks (λ k. mask_by p (k / max_accesses) (k % max_accesses))

-- the option is none
abbrev pub absent : Option ℕ → Bool
absent none = true
absent (some i) = false

module _ (w : List ℕ) where
  -- i is a task, a one of its accesses, which writes, q a rank, and there is a transfer of i's word
  -- of that region to q
  unfoldable pub wanted_at : ℕ → ℕ → ℕ → Bool
  wanted_at i a q =
      ltb i (tasks_of w)
      && (ltb a (accesses_of w i)
      && (is_written w i a
      && (ltb q (ranks_of w) && transferred (body_of w) i (region_at w i a) q)))

  -- and that transfer is wrapped
  unfoldable pub wrapped_at : ℕ → ℕ → ℕ → Bool
  wrapped_at i a q = wanted_at i a q && wrapped (body_of w) i (region_at w i a) q

  -- rank q reads region g ahead of its first writer in the body, or g has none: a task on q reads
  -- it, and no task before that one writes it
  unfoldable pub ahead_at : ℕ → ℕ → Bool
  ahead_at g q = any_below (tasks_of w) (λ t. eqb (rank_of w t) q && (mem g (reads_of w t) && absent (last_before (body_of w) t g)))

  -- the masks of all transfers, and of those that are wrapped
  abbrev pub wanted_masks : List ℕ
  wanted_masks = masks_by wanted_at

  abbrev pub wrapped_masks : List ℕ
  wrapped_masks = masks_by wrapped_at

  -- and for each region that of the ranks that read ahead
  abbrev pub ahead_masks : List ℕ
  ahead_masks = tabulate max_regions (λ g. mask_of (ahead_at g))
