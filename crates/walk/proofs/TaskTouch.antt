-- The loops over the accesses of a task, of which one meets the open places and one notes them.
use Prim.Native.Nat.{ℕ, ◌+◌, ◌≤◌, ◌<◌}
use mathlib.Core.Path.{◌≡◌, sym, ◌∙◌}
use mathlib.Core.Bool.{Bool, false, cond, ◌||◌}
use mathlib.Core.List.{List}
use native.Mathlib.Omega.{arith}
use lib.Dec.{eqb}
use lib.ListN.{set, replicate, length-set, length-replicate, get_or-replicate}
use Rattle.finite.proofs.Update.{set_at}
use Rattle.body.specs.Items.{task}
use Rattle.edges.specs.Touch.{touch}
use Rattle.plan.specs.Limits.{max_regions}
use Rattle.plan.specs.Layout.{writes, access_region, accesses_of, access_at, body_of}
use Rattle.graph.specs.Table.{Task}
use Rattle.graph.proofs.Accesses.{Passed, passed_end, touch_to, touch_none, touch_fresh, touch_next, touch_all}
use Rattle.walk.specs.Rows.{Places, Touches, Meets}
use Rattle.walk.proofs.Meeting.{only, meets_none, meets_ext, meets_more}

module _ (w : List ℕ) (i : ℕ) where
  pub task_none : (l : List ℕ) → Places l → Meets (touch_to w i 0) l l false
  task_none l P = meets_none (touch_to w i 0) l P (λ g h. touch_none w i g)

  pub noted_none : (l : List ℕ) → l ≡ replicate max_regions 0 → Touches (touch_to w i 0) l
  noted_none l e = rw e (record {
    size = length-replicate {A = ℕ} max_regions 0;
    each = λ g h. get_or-replicate {A = ℕ} max_regions g 0 0 h ∙ sym (touch_none w i g);
  })

  -- access k, which touches region g as t says
  module _ (k access g t : ℕ) (T : Task w i) (below : k < accesses_of w i) (word : access ≡ access_at w i k)
      (e : g ≡ access_region access) (f : t ≡ cond (writes access) 2 1) where
    next : (h : ℕ) → cond (eqb h g) t (touch_to w i k h) ≡ touch_to w i (k + 1) h
    next h = rw (e, f) (sym (touch_next w i k access T below word h))

    pub task_more : (l l' l'' : List ℕ) (hit met : Bool) → Places l → Meets (touch_to w i k) l l' hit → Meets (only g t) l' l'' met
        → Meets (touch_to w i (k + 1)) l l'' (hit || met)
    task_more l l' l'' hit met P m n =
        meets_ext (λ h. cond (eqb h g) t (touch_to w i k h)) (touch_to w i (k + 1)) l l'' (hit || met) (λ h b. next h)
        (meets_more (touch_to w i k) g t l l' l'' hit met P (rw e (touch_fresh w i k access T below word)) m n)

    pub noted_more : (l : List ℕ) → Touches (touch_to w i k) l → g < max_regions → Touches (touch_to w i (k + 1)) (set l g t)
    noted_more l m b =
        record {
          size = length-set l g t ∙ m.size;
          each = λ h c. set_at l g h t 0 (omega (arith, m.size)) ∙ (rw (m.each h c) (next h));
        }

  -- all are passed
  module _ (count k : ℕ) (P : Passed w i count k) (end : count ≤ k) where
    whole : (g : ℕ) → touch_to w i k g ≡ touch (body_of w) (task i) g
    whole g = touch_all w i k g (passed_end w i count k P end)

    pub task_done : (l l' : List ℕ) (hit : Bool) → Meets (touch_to w i k) l l' hit → Meets (touch (body_of w) (task i)) l l' hit
    task_done l l' hit m = meets_ext (touch_to w i k) (touch (body_of w) (task i)) l l' hit (λ g b. whole g) m

    pub noted_done : (l : List ℕ) → Touches (touch_to w i k) l → Touches (touch (body_of w) (task i)) l
    noted_done l m = record { size = m.size; each = λ g b. m.each g b ∙ whole g }
