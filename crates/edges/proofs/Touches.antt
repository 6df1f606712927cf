-- How touch numbers say what the items do with copies.
use Prim.Native.Nat.{ℕ, ◌≤◌, ◌<◌}
use mathlib.Core.Path.{◌≡◌, refl, sym, ◌∙◌}
use mathlib.Core.Bool.{Bool, true, false, cond, ◌&&◌}
use mathlib.Core.Logic.{◌⊎◌, inl, inr, ⊎_elim}
use native.Mathlib.Omega.{arith}
use lib.Dec.{eqb}
use Rattle.finite.specs.Lists.{mem}
use Rattle.finite.proofs.Tests.{not_both}
use Rattle.unroll.specs.System.{Accesses, reading, writing, Writes}
use Rattle.body.specs.Body.{Body, Fits}
use Rattle.body.specs.Items.{Item, task, send, receive, item_count, item_at}
use Rattle.body.specs.Places.{copy, system}
use Rattle.body.proofs.Accessed.{item_known, reads_copy, writes_copy, copy_read, copy_written, named_region}
use Rattle.edges.specs.Touch.{touch, touch_on}
use Rattle.edges.specs.Tests.{rank_at}

-- the touch number of a place that is written or not, read or not
unfoldable touch_from : Bool → Bool → ℕ
touch_from w r = cond w 2 (cond r 1 0)

from_most : (w r : Bool) → touch_from w r ≤ 2
unfolding touch_from
from_most true r = omega arith
from_most false true = omega arith
from_most false false = omega arith

from_two : (w r : Bool) → touch_from w r ≡ 2 → w ≡ true
unfolding touch_from
from_two true r e = refl
from_two false true e = absurd (omega arith)
from_two false false e = absurd (omega arith)

from_one : (w r : Bool) → 1 ≤ touch_from w r → (r ≡ true) ⊎ (w ≡ true)
unfolding touch_from
from_one true r h = inr refl
from_one false true h = inl refl
from_one false false h = absurd (omega arith)

from_written : (r : Bool) → touch_from true r ≡ 2
unfolding touch_from
from_written r = refl

from_read : (w r : Bool) → r ≡ true → 1 ≤ touch_from w r
unfolding touch_from
from_read true r e = omega arith
from_read false true e = omega arith
from_read false false e = absurd (not_both e refl)

module _ (B : Body) where
  touch_from_lem : (y : Item) (g : ℕ) → touch B y g ≡ touch_from (writes_copy B y g) (reads_copy B y g)
  unfolding touch touch_from
  touch_from_lem (task i) g = refl
  touch_from_lem (send i h q) g = refl
  touch_from_lem (receive i h q) g = refl

  pub touch_most : (q a g : ℕ) → touch_on B q a g ≤ 2
  unfolding touch_on
  touch_most q a g = go (eqb (rank_at B a) q)
    where
      go : (b : Bool) → cond b (touch B (item_at B a) g) 0 ≤ 2
      go true = rw (touch_from_lem (item_at B a) g) (from_most _ _)
      go false = omega arith

  module _ (F : Fits B) where
    touch_copy : (q a g : ℕ) → q < B.ranks → a < item_count B → g < B.regions →
        touch_on B q a g ≡ touch_from (mem (copy B q g) ((system B).writes a)) (mem (copy B q g) ((system B).reads a))
    unfolding touch_on touch_from
    touch_copy q a g lq la lg =
        let y = item_at B a in
        rw (copy_written B F q g a lq lg y (item_known B a la), copy_read B F q g a lq lg y (item_known B a la)) (go (eqb (rank_at B a) q))
      where
        go : (b : Bool) → cond b (touch B (item_at B a) g) 0 ≡ touch_from (b && writes_copy B (item_at B a) g) (b && reads_copy B (item_at B a) g)
        go true = touch_from_lem (item_at B a) g
        go false = refl

    pub writes_touch : (q a g : ℕ) → q < B.ranks → a < item_count B → g < B.regions → Writes (system B) a (copy B q g) → touch_on B q a g ≡ 2
    writes_touch q a g lq la lg w = rw (touch_copy q a g lq la lg, w) (from_written _)

    pub touch_writes : (q a g : ℕ) → q < B.ranks → a < item_count B → g < B.regions → touch_on B q a g ≡ 2 → Writes (system B) a (copy B q g)
    touch_writes q a g lq la lg e = from_two _ _ (sym (touch_copy q a g lq la lg) ∙ e)

    pub accesses_touch : (q a g : ℕ) → q < B.ranks → a < item_count B → g < B.regions → Accesses (system B) a (copy B q g) → 1 ≤ touch_on B q a g
    accesses_touch q a g lq la lg (reading h) = rw (touch_copy q a g lq la lg) (from_read _ _ h)
    accesses_touch q a g lq la lg (writing h) = omega (arith, writes_touch q a g lq la lg h)

    pub touch_accesses : (q a g : ℕ) → q < B.ranks → a < item_count B → g < B.regions → 1 ≤ touch_on B q a g → Accesses (system B) a (copy B q g)
    touch_accesses q a g lq la lg h = ⊎_elim reading writing (from_one _ _ (rw (touch_copy q a g lq la lg) at h))

    -- what is touched is a region
    pub touch_region : (q a g : ℕ) → a < item_count B → 1 ≤ touch_on B q a g → g < B.regions
    unfolding touch_on
    touch_region q a g la h = go (eqb (rank_at B a) q) h
      where
        go : (b : Bool) → 1 ≤ cond b (touch B (item_at B a) g) 0 → g < B.regions
        go true u = named_region B F (item_at B a) g (item_known B a la) (from_one _ _ (rw (touch_from_lem (item_at B a) g) at u))
        go false u = absurd (omega arith)
