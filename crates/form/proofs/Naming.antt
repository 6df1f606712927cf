-- Laws of the words that the scan keeps for the regions, and of a scan of one task's accesses:
-- _none, _same, _changed and _done are a loop's, before its first turn, over a turn, and after its
-- last.
use Rattle.std.proofs.Common.{◌≡◌, ℕ, zero, suc, ◌+◌, ◌*◌, ◌%◌, ◌^◌, ◌<◌, ◌≤◌, Bool, true, false, cond, not, ◌&&◌, eqb, ltb, List, get_or, set, sym, refl, ap, ◌∙◌, subst, ⊎_elim, arith, length-set, get_or-set_other, get_or-set_same, le-ltb, lt-ltb, eq-eqb, ne_eqb, Option, Some, None}
use mathlib.Core.Bool.{and-false, or-false}
use mathlib.Core.Option.{none, some}
use native.Mathlib.Decide.{ℕ_discrete}
use Rattle.finite.specs.Below.{all_below, any_below, count_below}
use Rattle.finite.proofs.Tests.{true_or_false, eqb_comm}
use Rattle.finite.proofs.Below.{all_none, all_next, all_fails, all_not, any_next, any_ext, count_none, count_next}
use Rattle.plan.specs.Limits.{max_ranks, max_regions, max_tasks}
use Rattle.plan.specs.Layout.{rank_of, accesses_of, access_at, region_at, access_region, access_end}
use Rattle.form.specs.Changes.{names, last_rank, changed}
use Rattle.form.specs.Scan.{Keeps, mark, kept, kept_in, fresh_ok, fresh_all_ok, changes_of, Ready, Scanned}

-- a word stored at g
pub keeps_set : (f h : ℕ → ℕ) (l : List ℕ) (g v : ℕ) → Keeps f l → g < max_regions → h g ≡ v → ((k : ℕ) → (k ≡ g → ⊥) → h k ≡ f k) → Keeps h (set l g v)
keeps_set f h l g v k b same other =
    record {
      size = length-set l g v ∙ k.size;
      word = λ j m.
          elim (ℕ_discrete j g) [
            | yes e ↦ (subst (λ (n : ℕ). get_or (set l g v) n 0 ≡ h n) (sym e) (get_or-set_same l g v 0 (omega (arith, k.size)) ∙ sym same))
            | no e ↦ (get_or-set_other l g j v 0 e ∙ (k.word j m ∙ sym (other j e)))
          ];
    }

module _ (w : List ℕ) where
  -- the last task before i that names g, and what is kept of it
  pub data Last (i g : ℕ) : Type 0 where
    never : kept w i g ≡ 0 → last_rank w i g ≡ none → Last i g
    by : (j : ℕ) → j < i → kept w i g ≡ mark w j → last_rank w i g ≡ some (rank_of w j) → Last i g

  last_suc : (i g : ℕ) (t : Bool) → names w i g ≡ t → Last i g → Last (suc i) g
  unfolding kept last_rank
  last_suc i g true e l = by i (omega arith) (rw e) (rw e)
  last_suc i g false e (never p q) = never (rw (e, p)) (rw (e, q))
  last_suc i g false e (by j b p q) = by j (omega arith) (rw (e, p)) (rw (e, q))

  pub last_of : (i g : ℕ) → Last i g
  unfolding kept last_rank
  last_of zero g = never refl refl
  last_of (suc i) g = last_suc i g (names w i g) refl (last_of i g)

  -- the accesses of task i up to a name g
  abbrev named_in : ℕ → ℕ → ℕ → Bool
  named_in i a g = any_below a (λ b. eqb g (region_at w i b))

  fresh_named : (i a : ℕ) → fresh_ok w i a ≡ (ltb (access_at w i a) access_end && not (named_in i a (region_at w i a)))
  fresh_named i a =
      ap (λ (t : Bool). ltb (access_at w i a) access_end && t)
      (all_not a (λ b. eqb (region_at w i b) (region_at w i a)) ∙ ap not (any_ext a _ _ (λ b l. eqb_comm (region_at w i b) (region_at w i a))))

  -- what `since` tells, the word kept for the region of access a less 256 times one more than the
  -- rank, modulo 2^64
  data Look (i a since : ℕ) : Type 0 where
    twice : since ≡ i → named_in i a (region_at w i a) ≡ true → Look i a since
    same : since < i → named_in i a (region_at w i a) ≡ false → changed w i a ≡ false → Look i a since
    other : i < since → named_in i a (region_at w i a) ≡ false → changed w i a ≡ true → Look i a since

  module _ (i a since : ℕ) (few : i < max_tasks) (rank : rank_of w i < max_ranks) (ranks : (j : ℕ) → j < i → rank_of w j < max_ranks) (fits : since < 2 ^ 64) where
    look_last : Last i (region_at w i a) → named_in i a (region_at w i a) ≡ false → (since + 256 * (rank_of w i + 1)) % 2 ^ 64 ≡ kept w i (region_at w i a) → Look i a since
    unfolding changed
    look_last (never p q) n e = other (omega arith) n (rw q)
    look_last (by j b p q) n e =
        elim (ℕ_discrete (rank_of w j) (rank_of w i)) [
          | yes k ↦ (same (omega arith) n (rw (q, eq-eqb (rank_of w j) (rank_of w i) k)))
          | no k ↦ (other (omega (arith, ranks j b)) n (rw (q, ne_eqb (rank_of w j) (rank_of w i) k)))
        ]

    look : (since + 256 * (rank_of w i + 1)) % 2 ^ 64 ≡ kept_in w i a (region_at w i a) → Look i a since
    look e =
        ⊎_elim
        (λ n. let k : (since + 256 * (rank_of w i + 1)) % 2 ^ 64 ≡ mark w i = rw n at e in twice (omega arith) n)
        (λ n. look_last (last_of i (region_at w i a)) n (rw n at e))
        (true_or_false (named_in i a (region_at w i a)))

  -- what a scan of the accesses of task i answers
  abbrev Passed : ℕ → Option ℕ → List ℕ → Type 0
  Passed i r l = Scanned (fresh_all_ok w i) (changes_of w i) (kept w (suc i)) r l

  -- before access a of task i: no access was bad, n were changes, and l is up to date
  pub record Naming (i a n : ℕ) (l : List ℕ) : Type 0 where
    pub fresh : true ≡ all_below a (fresh_ok w i)
    pub counts : n ≡ count_below a (changed w i)
    pub keeps : Keeps (kept_in w i a) l

  pub naming_none : (i : ℕ) (l : List ℕ) → Keeps (kept w i) l → Naming i 0 0 l
  unfolding any_below
  naming_none i l k = record { fresh = all_none (fresh_ok w i); counts = count_none (changed w i); keeps = record { size = k.size; word = k.word } }

  pub naming_done : (i a n : ℕ) (l : List ℕ) → Naming i a n l → accesses_of w i ≤ a → a ≤ accesses_of w i → Passed i (Some n) l
  unfolding kept
  naming_done i a n l k p q =
      let e : a ≡ accesses_of w i = omega arith in (
        sym (k.fresh ∙ ap (λ (m : ℕ). all_below m (fresh_ok w i)) e),
        k.counts ∙ ap (λ (m : ℕ). count_below m (changed w i)) e,
        record { size = k.keeps.size; word = λ g m. k.keeps.word g m ∙ ap (λ (b : ℕ). kept_in w i b g) e },
      )

  -- access a is bad
  named_not : (i a : ℕ) (l : List ℕ) → a < accesses_of w i → fresh_ok w i a ≡ false → Passed i None l
  named_not i a l b e = all_fails (fresh_ok w i) (accesses_of w i) a b e

  pub naming_wide : (i a : ℕ) (l : List ℕ) → a < accesses_of w i → access_end ≤ access_at w i a → Passed i None l
  naming_wide i a l b h = named_not i a l b (rw (le-ltb (access_at w i a) access_end h))

  naming_more : (i a n m : ℕ) (l : List ℕ) → Naming i a n l → access_at w i a < access_end → named_in i a (region_at w i a) ≡ false
      → m ≡ n + cond (changed w i a) 1 0 → Naming i (a + 1) m (set l (region_at w i a) (mark w i))
  naming_more i a n m l k h f e =
      record {
        fresh = all_next_true;
        counts = e ∙ (ap (λ (x : ℕ). x + cond (changed w i a) 1 0) k.counts ∙ sym (count_next (changed w i) a));
        keeps = keeps_set (kept_in w i a) (kept_in w i (a + 1)) l (region_at w i a) (mark w i) k.keeps (omega arith) here there;
      }
    where
      all_next_true : true ≡ all_below (a + 1) (fresh_ok w i)
      all_next_true = sym (all_next (fresh_ok w i) a ∙ rw (sym k.fresh, fresh_named i a, lt-ltb (access_at w i a) access_end h, f))

      here : kept_in w i (a + 1) (region_at w i a) ≡ mark w i
      here = rw (any_next, f, eq-eqb (region_at w i a) (region_at w i a) refl)

      there : (g : ℕ) → (g ≡ region_at w i a → ⊥) → kept_in w i (a + 1) g ≡ kept_in w i a g
      there g d = rw (any_next, ne_eqb g (region_at w i a) d, or-false (named_in i a g))

  -- a turn: word is that of access a, g its region, and since what the list l has at g, less base
  module _ (i a n : ℕ) (m l : List ℕ) (g since word base : ℕ) (ready : Ready w i m) (k : Naming i a n l) (u : word ≡ access_at w i a) (v : g ≡ access_region word)
      (x : base ≡ 256 * (rank_of w i + 1)) (e : (since + base) % 2 ^ 64 ≡ get_or l g 0) (fits : since < 2 ^ 64) where
    at_region : g ≡ region_at w i a
    at_region = v ∙ ap access_region u

    looked : Look i a since
    looked =
        look i a since ready.task ready.rank ready.ranks fits
        (ap (λ (b : ℕ). (since + b) % 2 ^ 64) (sym x) ∙ (e ∙ (k.keeps.word g (omega arith) ∙ ap (kept_in w i a) at_region)))

    pub naming_twice : a < accesses_of w i → since ≡ i → Passed i None l
    naming_twice b z =
        elim looked [
          | twice p q ↦ (named_not i a l b (fresh_named i a ∙ rw q (and-false (ltb (access_at w i a) access_end))))
          | same p q r ↦ absurd (omega arith)
          | other p q r ↦ absurd (omega arith)
        ]

    pub naming_same : (c : ℕ) → word < access_end → since < i → c ≡ n → Naming i (a + 1) c (set l g (base + i))
    naming_same c h b z =
        elim looked [
          | twice p q ↦ absurd (omega arith)
          | same p q r ↦ (rw (at_region, x) (naming_more i a n c l k (omega arith) q (rw r (omega arith))))
          | other p q r ↦ absurd (omega arith)
        ]

    pub naming_other : (c : ℕ) → word < access_end → i ≤ since → (since ≡ i → ⊥) → c ≡ n + 1 → Naming i (a + 1) c (set l g (base + i))
    naming_other c h b ne z =
        elim looked [
          | twice p q ↦ absurd (ne p)
          | same p q r ↦ absurd (omega arith)
          | other p q r ↦ (rw (at_region, x) (naming_more i a n c l k (omega arith) q (rw r z)))
        ]
