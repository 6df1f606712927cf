-- The loop that lowers the numbers of some items, one after another, and what it leaves where no
-- item stands twice among them.
use Prim.Native.Nat.{ℕ, zero, suc, ◌+◌, ◌-◌, ◌≤◌, ◌<◌}
use mathlib.Core.Path.{◌≡◌, refl, sym, ◌∙◌, ap, ap₂, subst}
use mathlib.Core.Bool.{Bool, true, false, cond, ◌&&◌, ◌||◌, and-false}
use mathlib.Core.List.{List, [], ◌∷◌, ◌++◌}
use native.Mathlib.Numerals.{add-one}
use native.Mathlib.Omega.{arith}
use borrow.Author.Tests.{ne_eqb, eqb-true}
use lib.Dec.{eqb, leb}
use lib.ListN.{length, get_or, set, length-append, length-set}
use lib.Seq.{get_or-set_other}
use Rattle.finite.specs.Below.{any_below}
use Rattle.finite.specs.Lists.{gather, mem}
use Rattle.finite.specs.Update.{replaced}
use Rattle.finite.proofs.Tests.{and-true, and_intro, test_ext}
use Rattle.finite.proofs.Members.{mem_gather}
use Rattle.finite.proofs.Below.{any_never, any_at, any_from}
use Rattle.finite.proofs.Replaced.{replaced_at, replaced_nowhere, replaced_not, replaced_set, replaced_where}
use Rattle.waits.proofs.Stored.{from_ext, from_at, from_one}
use Rattle.steps.specs.State.{first_unmet, unmet_by}
use Rattle.prepared.specs.Tables.{sources_in, target_count, target_in}
use Rattle.prepared.specs.Steps.{lowered_by, freed_by, again, freed_in}

one_or_none : (t : Bool) (x : ℕ) → length (cond t (x ∷ []) []) ≤ 1
one_or_none true x = omega arith
one_or_none false x = omega arith

module _ (f : ℕ → ℕ) where
  pub lowered_more : (k at less : ℕ) (l m : List ℕ) → m ≡ lowered_by f k l → at ≡ f k → less ≡ unmet_by m at - 1 →
      set m (first_unmet + at) less ≡ lowered_by f (k + 1) l
  unfolding lowered_by
  lowered_more k at less l m e h v = rw (add-one k, v, h, e)

  -- no more than were lowered
  pub freed_most : (k : ℕ) (l : List ℕ) → length (freed_by f k l) ≤ k
  unfolding freed_by
  freed_most zero l = omega arith
  freed_most (suc k) l = let t = eqb (unmet_by (lowered_by f k l) (f k)) 1 in omega (arith, length-append (freed_by f k l) (cond t (f k ∷ []) []), freed_most k l, one_or_none t (f k))

  pub lowered_length : (k : ℕ) (l : List ℕ) → length (lowered_by f k l) ≡ length l
  unfolding lowered_by
  lowered_length zero l = refl
  lowered_length (suc k) l = length-set (lowered_by f k l) (first_unmet + f k) (unmet_by (lowered_by f k l) (f k) - 1) ∙ lowered_length k l

  -- what stands before the numbers stays
  pub lowered_before : (k : ℕ) (l : List ℕ) (i : ℕ) → i < first_unmet → get_or (lowered_by f k l) i 0 ≡ get_or l i 0
  unfolding lowered_by
  lowered_before zero l i h = refl
  lowered_before (suc k) l i h =
      get_or-set_other (lowered_by f k l) (first_unmet + f k) i (unmet_by (lowered_by f k l) (f k) - 1) 0 (λ e. omega arith) ∙ lowered_before k l i h

  -- item x stands among the first k
  abbrev pub among : ℕ → ℕ → Bool
  among k x = any_below k (λ j. eqb x (f j))

  -- no item stands twice among the first n, and the list has room for the numbers of all
  pub record Apart (n : ℕ) (l : List ℕ) : Type 0 where
    pub room : (j : ℕ) → j < n → first_unmet + f j < length l
    pub differ : (i j : ℕ) → i < j → j < n → f i ≡ f j → ⊥

  apart_less : (n : ℕ) (l : List ℕ) → Apart (suc n) l → Apart n l
  apart_less n l A = record { room = λ j h. A.room j (omega arith); differ = λ i j h k. A.differ i j h (omega arith) }

  next_new : (k n : ℕ) (l : List ℕ) → Apart n l → k < n → among k (f k) ≡ false
  next_new k n l A h = any_never (λ j. eqb (f k) (f j)) k (λ j m. ne_eqb (f k) (f j) (λ e. A.differ j k m h (sym e)))

  pub lowered_where : (k : ℕ) (l : List ℕ) → Apart k l →
      lowered_by f k l ≡ replaced (λ i. leb first_unmet i && among k (i - first_unmet)) (λ i. get_or l i 0 - 1) l
  unfolding lowered_by any_below
  lowered_where zero l A = replaced_nowhere (λ i. leb first_unmet i && false) (λ i. get_or l i 0 - 1) l (λ i m. and-false (leb first_unmet i))
  lowered_where (suc k) l A =
      ap (λ (m : List ℕ). set m (first_unmet + f k) (unmet_by m (f k) - 1)) (lowered_where k l (apart_less k l A))
      ∙ (replaced_set (λ i. leb first_unmet i && among k (i - first_unmet)) (λ i. get_or l i 0 - 1) l (first_unmet + f k) _ (A.room k (omega arith))
      (ap (λ (y : ℕ). y - 1) (replaced_not (λ i. leb first_unmet i && among k (i - first_unmet)) (λ i. get_or l i 0 - 1) l (first_unmet + f k)
      (from_at first_unmet (among k) (f k) ∙ next_new k (suc k) l A (omega arith))))
      ∙ replaced_where (λ i. eqb i (first_unmet + f k) || (leb first_unmet i && among k (i - first_unmet)))
      (λ i. leb first_unmet i && (among k (i - first_unmet) || eqb (i - first_unmet) (f k))) (λ i. get_or l i 0 - 1) l
      (λ i m. from_one first_unmet (among k) (f k) i
      ∙ from_ext first_unmet i (λ x. eqb x (f k) || among k x) (λ x. among k x || eqb x (f k)) (λ x. turned (eqb x (f k)) (among k x))))
    where
      turned : (p q : Bool) → (p || q) ≡ (q || p)
      turned true true = refl
      turned true false = refl
      turned false true = refl
      turned false false = refl

  -- the number of item b
  pub lowered_at : (k : ℕ) (l : List ℕ) (b : ℕ) → Apart k l → first_unmet + b < length l →
      unmet_by (lowered_by f k l) b ≡ cond (among k b) (unmet_by l b - 1) (unmet_by l b)
  lowered_at k l b A h =
      ap (λ (m : List ℕ). unmet_by m b) (lowered_where k l A)
      ∙ (replaced_at (λ i. leb first_unmet i && among k (i - first_unmet)) (λ i. get_or l i 0 - 1) l (first_unmet + b) h
      ∙ ap (λ (t : Bool). cond t (unmet_by l b - 1) (unmet_by l b)) (from_at first_unmet (among k) b))

  -- each number is looked at before it is lowered
  pub lowered_next : (k n : ℕ) (l : List ℕ) → Apart n l → k < n → unmet_by (lowered_by f k l) (f k) ≡ unmet_by l (f k)
  lowered_next k n l A h =
      lowered_at k l (f k) (record { room = λ j m. A.room j (omega arith); differ = λ i j m i'. A.differ i j m (omega arith) }) (A.room k h)
      ∙ ap (λ (t : Bool). cond t (unmet_by l (f k) - 1) (unmet_by l (f k))) (next_new k n l A h)

  -- so the items made ready are those with number 1
  pub freed_is : (k : ℕ) (l : List ℕ) → Apart k l → freed_by f k l ≡ gather k (λ j. eqb (unmet_by l (f j)) 1) f
  unfolding freed_by gather
  freed_is zero l A = refl
  freed_is (suc k) l A =
      ap₂ (λ (r : List ℕ) (x : ℕ). r ++ cond (eqb x 1) (f k ∷ []) []) (freed_is k l (apart_less k l A)) (lowered_next k (suc k) l A (omega arith))

  -- those of the first k items of which p holds
  mem_chosen : (k : ℕ) (p : ℕ → Bool) (x : ℕ) → mem x (gather k (λ j. p (f j)) f) ≡ (among k x && p x)
  mem_chosen k p x =
      mem_gather k (λ j. p (f j)) f x
      ∙ test_ext (any_below k (λ j. p (f j) && eqb x (f j))) (among k x && p x)
      (λ t.
      let r = any_from (λ j. p (f j) && eqb x (f j)) k t in
      let u = and-true (p (f r.0)) (eqb x (f r.0)) r.2 in
      and_intro (among k x) (p x) (any_at (λ j. eqb x (f j)) k r.0 r.1 u.1)
      (subst (λ (y : ℕ). p y ≡ true) (sym (eqb-true x (f r.0) u.1)) u.0))
      (λ t.
      let u = and-true (among k x) (p x) t in
      let r = any_from (λ j. eqb x (f j)) k u.0 in
      any_at (λ j. p (f j) && eqb x (f j)) k r.0 r.1
      (and_intro (p (f r.0)) (eqb x (f r.0)) (subst (λ (y : ℕ). p y ≡ true) (eqb-true x (f r.0) r.2) u.1) r.2))

  pub mem_freed : (k : ℕ) (l : List ℕ) → Apart k l → (x : ℕ) → mem x (freed_by f k l) ≡ (among k x && eqb (unmet_by l x) 1)
  mem_freed k l A x = ap (mem x) (freed_is k l A) ∙ mem_chosen k (λ b. eqb (unmet_by l b) 1) x

-- the items that a finish makes ready: no more than its item's targets and the item itself
pub freed_length : (plan tables counts values : List ℕ) (a : ℕ) → length (freed_in plan tables counts values a) ≤ target_count tables a + 1
unfolding freed_in
freed_length plan tables counts values a =
    let t = again plan tables counts values a && eqb (sources_in tables a) 0 in
    omega (
      arith,
      length-append (freed_by (target_in tables a) (target_count tables a) counts) (cond t (a ∷ []) []),
      freed_most (target_in tables a) (target_count tables a) counts,
      one_or_none t a,
    )
