-- The turns of the loops that set flags: _none, _more and _done are a loop's, before its first
-- turn, over a turn, and after its last.
use Prim.Native.Nat.{ℕ, ◌+◌, ◌*◌, ◌/◌, ◌<◌}
use mathlib.Core.Path.{◌≡◌, refl, ◌∙◌}
use mathlib.Core.Bool.{Bool, true, false}
use mathlib.Core.List.{List, []}
use native.Mathlib.Numerals.{add-one}
use lib.ListN.{get_or, set}
use Rattle.plan.specs.Layout.{rank_of, accesses_of}
use Rattle.transfers.specs.Search.{reads_in, region_in, Apart, Ready, noted, noted_tasks, claims, claimed, marked, marked_task, marked_tasks}
use Rattle.transfers.proofs.Last.{noted_own}

-- claimed

pub claimed_yes : (reads : Bool) (source q k : ℕ) (flags xs : List ℕ) → claims reads source q ≡ true → k ≡ source / 65536 → xs ≡ set flags (16 * k + q) 1
    → xs ≡ claimed reads source q flags
unfolding claimed
claimed_yes reads source q k flags xs h e f = rw (h, f, e)

pub claimed_no : (reads : Bool) (source q : ℕ) (flags : List ℕ) → claims reads source q ≡ false → flags ≡ claimed reads source q flags
unfolding claimed
claimed_no reads source q flags h = rw h

-- marked

pub marked_none : (row last : List ℕ) (q : ℕ) (flags : List ℕ) → flags ≡ marked row last q 0 flags
unfolding marked
marked_none row last q flags = refl

-- a turn reads the writer of the region g of access a from xs, where the writes of the accesses
-- before are noted
module _ (row last xs : List ℕ) (base n a g : ℕ) (h : Apart row n) (l : a < n) (e : xs ≡ noted row base a last) (k : g ≡ region_in row a) where
  pub marked_more : (q : ℕ) (flags fs ys : List ℕ) → fs ≡ marked row last q a flags → ys ≡ claimed (reads_in row a) (get_or xs g 0) q fs
      → ys ≡ marked row last q (a + 1) flags
  unfolding marked
  marked_more q flags fs ys f m = rw (add-one, m, k, noted_own row base n a last xs h l e, f)

-- what a task marks, of numbers that are known otherwise
pub marked_task_lem : (w : List ℕ) (table : List (List ℕ)) (t rank n : ℕ) (last flags xs : List ℕ) → Ready w table t → rank ≡ rank_of w t → n ≡ accesses_of w t
    → xs ≡ marked (get_or table t []) last rank n flags → xs ≡ marked_task w last t flags
marked_task_lem w table t rank n last flags xs r q e f = f ∙ rw (q, e, r.row)

-- marked_tasks

pub marked_tasks_none : (w last flags : List ℕ) → flags ≡ marked_tasks w last 0 flags
unfolding marked_tasks
marked_tasks_none w last flags = refl

pub marked_tasks_more : (w last : List ℕ) (t : ℕ) (flags ls xs ys : List ℕ) → xs ≡ marked_tasks w last t flags → ls ≡ noted_tasks w t last
    → ys ≡ marked_task w ls t xs → ys ≡ marked_tasks w last (t + 1) flags
unfolding marked_tasks
marked_tasks_more w last t flags ls xs ys h e f = rw (add-one, f, h, e)
