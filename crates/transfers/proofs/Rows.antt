-- The table of the search: the rows that it has, and what they say of the tasks.
use Prim.Native.Nat.{ℕ, ◌+◌, ◌≤◌, ◌<◌}
use mathlib.Core.Path.{◌≡◌, refl, sym, ◌∙◌, ap}
use mathlib.Core.Bool.{true}
use mathlib.Core.List.{List, []}
use native.Mathlib.Decide.{dec_lt}
use native.Mathlib.Omega.{arith}
use lib.ListN.{length, get_or, set, take}
use lib.Seq.{get_or-take}
use Rattle.finite.specs.Lists.{tabulate}
use Rattle.finite.proofs.Lists.{tabulate_more, get_d_tabulate}
use Rattle.plan.specs.Limits.{max_tasks, max_accesses}
use Rattle.plan.specs.Layout.{tasks_of, accesses_of, access_at, region_at, is_written, writes, access_region}
use Rattle.plan.specs.Form.{words_ok}
use Rattle.transfers.specs.Search.{row_of, Narrow, writes_in, region_in, Rows, Laid, Apart, Ready}
use Rattle.plan.proofs.Facts.{formed}

-- the words of a row
pub row_at : (w : List ℕ) (t a : ℕ) → a < max_accesses → get_or (row_of w t) a 0 ≡ access_at w t a
row_at w t a l = get_d_tabulate (access_at w t) max_accesses a 0 l

pub row_writes : (w : List ℕ) (t a : ℕ) → a < max_accesses → writes_in (row_of w t) a ≡ is_written w t a
row_writes w t a l = ap writes (row_at w t a l)

pub row_region : (w : List ℕ) (t a : ℕ) → a < max_accesses → region_in (row_of w t) a ≡ region_at w t a
row_region w t a l = ap access_region (row_at w t a l)

-- they fit 16 bits
pub narrow : (w : List ℕ) (n t : ℕ) → words_ok w ≡ true → n ≡ tasks_of w → t < n → Narrow w t
narrow w n t ok e l =
    let f = formed w ok in
    let u = f.used t (omega arith) in
    record {
      below = omega (arith, f.tasks_most);
      fits =
          λ a m.
          elim (dec_lt a (accesses_of w t)) [
            | yes k ↦ omega (arith, u.access_below a k)
            | no k ↦ omega (arith, u.rest_zero a (omega arith) m)
          ];
    }

pub row_fits : (w : List ℕ) (t a x : ℕ) → Narrow w t → a < max_accesses → x ≡ access_at w t a → x < 65536
row_fits w t a x n l e = rw e (n.fits a l)

pub row_more : (w : List ℕ) (t a x v : ℕ) (row : List ℕ) → take a row ≡ tabulate a (access_at w t) → a < max_accesses → length row ≡ max_accesses → x ≡ access_at w t a → v ≡ x
    → take (a + 1) (set row a v) ≡ tabulate (a + 1) (access_at w t)
row_more w t a x v row h l size e f = tabulate_more (access_at w t) a v row h (omega arith) (f ∙ e)

-- the table: _none and _more are those of the loop that fills it

pub rows_at : (w : List ℕ) (n t : ℕ) (table : List (List ℕ)) → Rows w n table → t < n → get_or table t [] ≡ row_of w t
unfolding Rows
rows_at w n t table h l = sym (get_or-take n table t [] l) ∙ (ap (λ (l : List (List ℕ)). get_or l t []) h ∙ get_d_tabulate (row_of w) n t [] l)

pub rows_none : (w : List ℕ) (table : List (List ℕ)) → Rows w 0 table
unfolding Rows tabulate
rows_none w table = refl

pub rows_more : (w : List ℕ) (n t : ℕ) (row : List ℕ) (table : List (List ℕ))
    → Rows w t table → t < n → n ≤ max_tasks → length table ≡ max_tasks → row ≡ row_of w t → Rows w (t + 1) (set table t row)
unfolding Rows
rows_more w n t row table h l m size e = tabulate_more (row_of w) t row table h (omega arith) e

pub laid : (w : List ℕ) (table : List (List ℕ)) (n t : ℕ) → words_ok w ≡ true → Rows w t table → n ≤ t → t ≤ n → n ≡ tasks_of w → Laid w table
laid w table n t ok rows p q e = record { ok = ok; rows = let z : tasks_of w ≡ t = omega arith in rw z rows }

-- a task of a loop over the first n
pub ready : (w : List ℕ) (table : List (List ℕ)) (n t : ℕ) → Laid w table → t < n → n ≤ tasks_of w → Ready w table t
unfolding Apart
ready w table n t h l m =
    let f = formed w h.ok in
    let u = f.used t (omega arith) in
    let row : get_or table t [] ≡ row_of w t = rows_at w (tasks_of w) t table h.rows (omega arith) in
    let region : (a : ℕ) → a < accesses_of w t → region_in (get_or table t []) a ≡ region_at w t a =
    λ a k. ap (λ (r : List ℕ). region_in r a) row ∙ row_region w t a (omega (arith, u.accesses_most)) in
    record {
      below = omega (arith, f.tasks_most);
      rank_most = u.rank_most;
      accesses_most = u.accesses_most;
      row = row;
      apart = λ a b k m e. u.apart a b k m (sym (region a k) ∙ (e ∙ region b m));
    }

-- of a number that is known otherwise
