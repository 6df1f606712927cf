-- Adding the codes of a task's accesses, of a task, and of all tasks.
use Prim.Native.Nat.{ℕ, ◌+◌, ◌*◌, ◌≤◌, ◌<◌}
use mathlib.Core.Path.{◌≡◌, sym, ◌∙◌}
use mathlib.Core.List.{List, [], ◌∷◌}
use native.Mathlib.Omega.{arith}
use lib.ListN.{length, get_or}
use Rattle.finite.specs.Lists.{collect}
use Rattle.finite.specs.Put.{Put, Room, Added, RoomAt}
use Rattle.finite.proofs.Puts.{added_none, added_same, added_append, added_put, room_same, room_start, collect_fits, collect_done}
use Rattle.plan.specs.Limits.{max_ranks, max_accesses}
use Rattle.plan.specs.Sizes.{max_items}
use Rattle.plan.specs.Layout.{tasks_of, rank_of, region_at}
use Rattle.plan.specs.Code.{code_from}
use Rattle.items.specs.Codes.{mask_codes, access_codes, task_codes, all_codes, Coded}
use Rattle.items.proofs.Masks.{mask_none}

-- access a of task i
module _ (w masks wraps : List ℕ) (i a mask n : ℕ) (items : List ℕ) (e : mask ≡ get_or masks (max_accesses * i + a) 0) where
  -- no rank wants what it writes
  pub access_none : mask ≡ 0 → Added (access_codes w masks wraps i a) n items n items
  unfolding access_codes
  access_none z = added_same (sym (mask_none _ _ _ _ (sym e ∙ z))) added_none

  module _ (wrapped rank region : ℕ) (d : wrapped ≡ get_or wraps (max_accesses * i + a) 0) (f : rank ≡ rank_of w i) (g : region ≡ region_at w i a) where
    access_is : access_codes w masks wraps i a ≡ mask_codes mask wrapped rank region
    unfolding access_codes
    access_is = rw (e, d, f, g)

    pub access_fits_lem : RoomAt (access_codes w masks wraps i a) n items → RoomAt (mask_codes mask wrapped rank region) n items
    access_fits_lem h = room_same access_is h

    pub access_all : (r : ℕ) (items' : List ℕ) → Added (mask_codes mask wrapped rank region) n items r items' → Added (access_codes w masks wraps i a) n items r items'
    access_all r items' p = added_same (sym access_is) p

module _ (w masks wraps : List ℕ) (i n : ℕ) (items : List ℕ) where
  -- turn a of the loop over the accesses
  pub accesses_fit : (a at : ℕ) (mid : List ℕ) → RoomAt (collect max_accesses (access_codes w masks wraps i)) n items →
      Added (collect a (access_codes w masks wraps i)) n items at mid → a < max_accesses → RoomAt (access_codes w masks wraps i a) at mid
  accesses_fit a at mid h p l = collect_fits (access_codes w masks wraps i) n max_accesses a items at mid h p l

  pub task_fits_lem : (x : ℕ) → RoomAt (task_codes w masks wraps i) n items → RoomAt (x ∷ []) n items
  unfolding task_codes
  task_fits_lem x h = record { fits = omega (arith, h.fits) }

  -- the task's own code is put, and then those of its accesses
  module _ (x at : ℕ) (mid : List ℕ) (p : Added (x ∷ []) n items at mid) where
    pub task_rest : RoomAt (task_codes w masks wraps i) n items → RoomAt (collect max_accesses (access_codes w masks wraps i)) at mid
    unfolding task_codes
    task_rest h = record { fits = omega (arith, h.fits, p.end, p.size) }

    pub task_all : (r : ℕ) (items' : List ℕ) → x ≡ code_from 0 (rank_of w i) 0 i →
        Added (collect max_accesses (access_codes w masks wraps i)) at mid r items' → Added (task_codes w masks wraps i) n items r items'
    unfolding task_codes
    task_all r items' e q = rw (← e) (added_append p q)

-- the loop over the tasks

pub task_rank : (w masks wraps : List ℕ) (i tasks : ℕ) → tasks ≡ tasks_of w → i < tasks → Coded w masks wraps → rank_of w i < max_ranks
task_rank w masks wraps i tasks e l h = h.ranks i (omega arith)

module _ (w masks wraps : List ℕ) (i tasks : ℕ) (items : List ℕ) (at : ℕ) (mid : List ℕ) (p : Added (collect i (task_codes w masks wraps)) 0 items at mid)
    (e : tasks ≡ tasks_of w) (s : length items ≡ max_items) (h : Coded w masks wraps) where
  room : Room (collect (tasks_of w) (task_codes w masks wraps)) items
  unfolding all_codes
  room = omega (arith, h.room)

  pub tasks_fit : i < tasks → RoomAt (task_codes w masks wraps i) at mid
  tasks_fit l = collect_fits (task_codes w masks wraps) 0 (tasks_of w) i items at mid (room_start room) p (omega arith)

  pub tasks_done : tasks ≤ i → i ≤ tasks → Put (all_codes w masks wraps (tasks_of w)) items at mid
  unfolding all_codes
  tasks_done a b = added_put room (collect_done (task_codes w masks wraps) 0 (tasks_of w) i items at mid p (omega arith) (omega arith))
