-- The accesses of task i, passed one after another: what a loop over them keeps, the regions that
-- those it has passed name, and how they touch the copies of the task's rank.
use Prim.Native.Nat.{ℕ, ◌+◌, ◌/◌, ◌≤◌, ◌<◌}
use mathlib.Core.Path.{◌≡◌, refl, sym, ◌∙◌}
use mathlib.Core.Bool.{Bool, true, false, cond, ◌&&◌, ◌||◌, and-true, and-false, or-false}
use mathlib.Core.List.{List}
use native.Mathlib.Decide.{ℕ_discrete}
use native.Mathlib.Omega.{arith}
use borrow.Author.Tests.{eqb-true, ne_eqb}
use lib.Dec.{eqb}
use Rattle.finite.specs.Lists.{mem, gather}
use Rattle.finite.proofs.Below.{any_next, any_never}
use Rattle.finite.proofs.Members.{mem_gather}
use Rattle.body.specs.Items.{task}
use Rattle.edges.specs.Touch.{touch}
use Rattle.plan.specs.Layout.{reads, writes, access_region, regions_of, accesses_of, access_at, region_at, is_read, is_written, body_of}
use Rattle.graph.specs.Table.{Task}

-- an access that does not write reads
writes_or_reads : (access : ℕ) → ◌≡◌ {A = ℕ} (cond (writes access) 2 (cond (reads access) 1 0)) (cond (writes access) 2 1)
writes_or_reads access = elim (ℕ_discrete (access / 128) 0) [ yes z ↦ rw z | no z ↦ rw (ne_eqb (access / 128) 0 z) ]

module _ (w : List ℕ) (i : ℕ) where
  -- k of the task's `count` accesses are passed
  pub record Passed (count k : ℕ) : Type 0 where
    pub all : count ≡ accesses_of w i
    pub most : k ≤ count

  pub passed_end : (count k : ℕ) → Passed count k → count ≤ k → k ≡ accesses_of w i
  passed_end count k P h = omega (arith, P.all, P.most)

  -- of the first n accesses one that p chooses names region g
  abbrev pub named : (ℕ → Bool) → ℕ → ℕ → Bool
  named p n g = mem g (gather n p (region_at w i))

  pub named_next : (p : ℕ → Bool) (k g : ℕ) → named p (k + 1) g ≡ (named p k g || (p k && eqb g (region_at w i k)))
  named_next p k g =
      mem_gather (k + 1) p (region_at w i) g
      ∙ (any_next (λ j. p j && eqb g (region_at w i j)) k ∙ rw (sym (mem_gather k p (region_at w i) g)))

  -- the region of access k is new
  pub named_fresh : (p : ℕ → Bool) (k g : ℕ) → Task w i → k < accesses_of w i → g ≡ region_at w i k → named p k g ≡ false
  named_fresh p k g T l e =
      mem_gather k p (region_at w i) g
      ∙ any_never (λ j. p j && eqb g (region_at w i j)) k
      (λ j m. rw (ne_eqb g (region_at w i j) (λ z. other j m (T.apart k j l (omega arith) (sym e ∙ z)))) (and-false (p j)))
    where
      other : (j : ℕ) → j < k → k ≡ j → ⊥
      other j m z = omega arith

  -- how the first n accesses touch region g
  unfoldable pub touch_to : ℕ → ℕ → ℕ
  touch_to n g = cond (named (is_written w i) n g) 2 (cond (named (is_read w i) n g) 1 0)

  pub touch_none : (g : ℕ) → touch_to 0 g ≡ 0
  unfolding touch_to gather mem
  touch_none g = refl

  pub touch_all : (k g : ℕ) → k ≡ accesses_of w i → touch_to k g ≡ touch (body_of w) (task i) g
  unfolding touch_to touch
  touch_all k g e = rw e

  -- access k is passed, whose word is `access`
  module _ (k access : ℕ) (T : Task w i) (below : k < accesses_of w i) (word : access ≡ access_at w i k) where
    pub region_within : access_region access < regions_of w
    region_within = rw word (T.within k below)

    pub touch_fresh : touch_to k (access_region access) ≡ 0
    unfolding touch_to
    touch_fresh = rw (word, named_fresh (is_written w i) k (region_at w i k) T below refl, named_fresh (is_read w i) k (region_at w i k) T below refl)

    pub touch_next : (g : ℕ) → touch_to (k + 1) g ≡ cond (eqb g (access_region access)) (cond (writes access) 2 1) (touch_to k g)
    unfolding touch_to
    touch_next g = rw (named_next (is_written w i) k g, named_next (is_read w i) k g, word) (go (eqb g (region_at w i k)) refl)
      where
        go : (b : Bool) → eqb g (region_at w i k) ≡ b →
            ◌≡◌ {A = ℕ} (cond (named (is_written w i) k g || (is_written w i k && b)) 2 (cond (named (is_read w i) k g || (is_read w i k && b)) 1 0))
            (cond b (cond (is_written w i k) 2 1) (cond (named (is_written w i) k g) 2 (cond (named (is_read w i) k g) 1 0)))
        go true e =
            let z : g ≡ region_at w i k = eqb-true _ _ e in
            rw (named_fresh (is_written w i) k g T below z, named_fresh (is_read w i) k g T below z, and-true (is_written w i k), and-true (is_read w i k))
            (writes_or_reads (access_at w i k))
        go false e =
            rw (and-false (is_written w i k), and-false (is_read w i k), or-false (named (is_written w i) k g), or-false (named (is_read w i) k g))
