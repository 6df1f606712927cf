-- An item of a plan in form reads and writes eight places at most, and each lies below the held
-- words.
use Prim.Native.Nat.{ℕ, ◌≤◌, ◌<◌}
use mathlib.Core.Path.{◌≡◌, refl}
use mathlib.Core.Bool.{Bool, true}
use mathlib.Core.List.{List, map}
use native.Mathlib.Omega.{arith}
use lib.ListN.{length, get_or, length-map}
use Rattle.finite.specs.Lists.{gather}
use Rattle.finite.proofs.Below.{count_le}
use Rattle.finite.proofs.Lists.{length_gather}
use Rattle.finite.proofs.Members.{in_mem, at_in}
use Rattle.unroll.specs.System.{reading, writing}
use Rattle.body.specs.Items.{Item, task, send, receive, item_count, item_at}
use Rattle.body.specs.Places.{copy, reads_of, writes_of, system}
use Rattle.body.proofs.Accessed.{Known, item_known}
use Rattle.plan.specs.Limits.{max_accesses}
use Rattle.plan.specs.Layout.{accesses_of, region_at, is_read, is_written, body_of}
use Rattle.plan.specs.Form.{in_form}
use Rattle.plan.proofs.Facts.{formed}
use Rattle.graph.proofs.Small.{form_words}
use Rattle.steps.specs.State.{first_held}
use Rattle.steps.proofs.Placing.{place_below}

module _ (w : List ℕ) (f : in_form w ≡ true) where
  -- the regions that a task's accesses name, among those that p chooses
  named_few : (i : ℕ) (p : ℕ → Bool) (g : ℕ → ℕ) → i < (body_of w).tasks → length (map g (gather (accesses_of w i) p (region_at w i))) ≤ max_accesses
  named_few i p g l =
      omega (
        arith,
        length-map (gather (accesses_of w i) p (region_at w i)) g,
        length_gather (accesses_of w i) p (region_at w i),
        count_le p (accesses_of w i),
        ((formed w (form_words w f)).used i l).accesses_most,
      )

  module _ (a : ℕ) (la : a < item_count (body_of w)) where
    pub reads_few : length ((system (body_of w)).reads a) ≤ max_accesses
    unfolding reads_of
    reads_few = go (item_at (body_of w) a) (item_known (body_of w) a la)
      where
        go : (x : Item) → Known (body_of w) x → length (reads_of (body_of w) a x) ≤ max_accesses
        go (task i) k = named_few i (is_read w i) (copy (body_of w) ((body_of w).rank i)) k
        go (send i g q) k = omega arith
        go (receive i g q) k = omega arith

    pub writes_few : length ((system (body_of w)).writes a) ≤ max_accesses
    unfolding writes_of
    writes_few = go (item_at (body_of w) a) (item_known (body_of w) a la)
      where
        go : (x : Item) → Known (body_of w) x → length (writes_of (body_of w) a x) ≤ max_accesses
        go (task i) k = named_few i (is_written w i) (copy (body_of w) ((body_of w).rank i)) k
        go (send i g q) k = omega arith
        go (receive i g q) k = omega arith

    pub reads_below : (k : ℕ) → k < length ((system (body_of w)).reads a) → get_or ((system (body_of w)).reads a) k 0 < first_held
    reads_below k h =
        let l = (system (body_of w)).reads a in
        place_below w f a (get_or l k 0) la (reading (in_mem (get_or l k 0) l (at_in (get_or l k 0) 0 l k h refl)))

    pub writes_below : (k : ℕ) → k < length ((system (body_of w)).writes a) → get_or ((system (body_of w)).writes a) k 0 < first_held
    writes_below k h =
        let l = (system (body_of w)).writes a in
        place_below w f a (get_or l k 0) la (writing (in_mem (get_or l k 0) l (at_in (get_or l k 0) 0 l k h refl)))
