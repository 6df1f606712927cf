-- Each transfer has an access of its region on its rank, with its writer as the source, at which
-- the region's rank changes.
use mathlib.Core.Option.{some, Option, none, or_else, some-injective, none-ne-some}
use Rattle.std.proofs.Common.{◌≡◌, ℕ, zero, suc, ◌<◌, ◌≤◌, Bool, true, false, cond, ◌&&◌, eqb, List, sym, refl, ap, ◌∙◌, arith, eqb-true}
use native.Mathlib.Decide.{ℕ_discrete}
use borrow.Author.Tests.{not-false}
use Rattle.finite.specs.Lists.{mem}
use Rattle.finite.proofs.Below.{any_at, any_from, below_suc}
use Rattle.finite.proofs.Members.{mem_gather}
use Rattle.finite.proofs.Tests.{and-true, false_of, not_both}
use Rattle.body.specs.Body.{Body}
use Rattle.body.specs.Transfers.{equals, last_before, source}
use Rattle.form.specs.Changes.{changed, last_rank, names}
use Rattle.plan.specs.Layout.{accesses_of, body_of, is_written, rank_of, region_at, tasks_of, writes_of}

pub last_is : (o : Option ℕ) (q : ℕ) → equals o q ≡ true → o ≡ some q
last_is none q h = absurd (not_both h refl)
last_is (some r) q h = ap some (eqb-true r q h)

unchanged : (w : List ℕ) (t a : ℕ) → changed w t a ≡ false → last_rank w t (region_at w t a) ≡ some (rank_of w t)
unfolding changed
unchanged w t a h = last_is (last_rank w t (region_at w t a)) (rank_of w t) (not-false (equals (last_rank w t (region_at w t a)) (rank_of w t)) h)

module _ (w : List ℕ) where
  abbrev B : Body
  B = body_of w

  -- task t' is the last before t that names g
  pub record LastNamer (t g r t' : ℕ) : Type 0 where
    pub below : t' < t
    pub names_it : names w t' g ≡ true
    pub ranked : rank_of w t' ≡ r
    pub since : (k : ℕ) → t' < k → k < t → names w k g ≡ false

  last_namer : (t g r : ℕ) → last_rank w t g ≡ some r → (t' : ℕ) × LastNamer t g r t'
  unfolding last_rank
  last_namer zero g r e = absurd (none-ne-some r e)
  last_namer (suc t) g r e = go (names w t g) refl e (last_namer t g r)
    where
      go : (b : Bool) → names w t g ≡ b → cond b (some (rank_of w t)) (last_rank w t g) ≡ some r →
          (last_rank w t g ≡ some r → (t' : ℕ) × LastNamer t g r t') → (t' : ℕ) × LastNamer (suc t) g r t'
      go true h e ih = (t, record { below = omega arith; names_it = h; ranked = some-injective (rank_of w t) r e; since = λ k l m. absurd (omega arith) })
      go false h e ih =
          let i = ih e in (
            i.0,
            record {
              below = omega (arith, i.1.below);
              names_it = i.1.names_it;
              ranked = i.1.ranked;
              since = λ k l m. below_suc (λ k. i.0 < k → names w k g ≡ false) t (λ k m l. i.1.since k l m) (λ l. h) k m l;
            },
          )

  written_named : (t g : ℕ) → mem g (writes_of w t) ≡ true → names w t g ≡ true
  written_named t g h =
      let r = any_from (λ a. is_written w t a && eqb g (region_at w t a)) (accesses_of w t) (sym (mem_gather (accesses_of w t) (is_written w t) (region_at w t) g) ∙ h) in
      any_at (λ a. eqb g (region_at w t a)) (accesses_of w t) r.0 r.1 (and-true (is_written w t r.0) (eqb g (region_at w t r.0)) r.2).1

  -- no writer since: the same last writer
  last_same : (t' t g : ℕ) → t' ≤ t → ((k : ℕ) → t' ≤ k → k < t → mem g (writes_of w k) ≡ false) → last_before B t g ≡ last_before B t' g
  unfolding last_before
  last_same t' zero g l h = let e : t' ≡ 0 = omega arith in rw e
  last_same t' (suc t) g l h =
      elim (ℕ_discrete t' (suc t)) [
        | yes e ↦ rw e
        | no e ↦ rw (h t (omega arith) (omega arith)) (last_same t' t g (omega arith) (λ k a b. h k a (omega arith)))
      ]

  -- access b of task u names g on rank q, its source is i, and the region's rank changes there
  pub record Traced (i g q u b : ℕ) : Type 0 where
    pub task : u < tasks_of w
    pub access : b < accesses_of w u
    pub region : region_at w u b ≡ g
    pub ranked : rank_of w u ≡ q
    pub sourced : source B u g ≡ some i
    pub changes : changed w u b ≡ true

  -- where the region's rank does not change, an earlier task on that rank names it, with the same
  -- source
  earlier : (t g i q : ℕ) → source B t g ≡ some i → (rank_of w i ≡ q → ⊥) → last_rank w t g ≡ some q →
      (t' : ℕ) × (a' : ℕ) × (t' < t) × (a' < accesses_of w t') × (region_at w t' a' ≡ g) × (rank_of w t' ≡ q) × (source B t' g ≡ some i)
  unfolding source last_before or_else
  earlier t g i q e n l =
      let N = last_namer t g q l in
      let a = any_from (λ a. eqb g (region_at w N.0 a)) (accesses_of w N.0) N.1.names_it in
      (N.0, a.0, N.1.below, a.1, sym (eqb-true g (region_at w N.0 a.0) a.2), N.1.ranked, go N.0 N.1 (mem g (writes_of w N.0)) refl)
    where
      unwritten : (t' : ℕ) → LastNamer t g q t' → (k : ℕ) → suc t' ≤ k → k < t → mem g (writes_of w k) ≡ false
      unwritten t' N k l m = false_of (mem g (writes_of w k)) (λ h. not_both (written_named k g h) (N.since k l m))

      go : (t' : ℕ) → LastNamer t g q t' → (b : Bool) → mem g (writes_of w t') ≡ b → or_else (last_before B t' g) (last_before B (tasks_of w) g) ≡ some i
      go t' N true h =
          let s : last_before B t g ≡ some t' = last_same (suc t') t g N.below (unwritten t' N) ∙ rw h in
          let z : t' ≡ i = some-injective t' i (rw s at e) in
          absurd (n (ap (rank_of w) (sym z) ∙ N.ranked))
      go t' N false h =
          let s : last_before B t g ≡ last_before B t' g = last_same (suc t') t g N.below (unwritten t' N) ∙ rw h in
          rw (← s) e

  pub trace : (m t a i g q : ℕ) → t < m → t < tasks_of w → a < accesses_of w t → region_at w t a ≡ g → rank_of w t ≡ q → source B t g ≡ some i → (rank_of w i ≡ q → ⊥) →
      (u : ℕ) × (b : ℕ) × Traced i g q u b
  trace zero t a i g q f l k r h e n = absurd (omega arith)
  trace (suc m) t a i g q f l k r h e n = go (changed w t a) refl (trace m)
    where
      go : (b : Bool) → changed w t a ≡ b →
          ((t a i g q : ℕ) → t < m → t < tasks_of w → a < accesses_of w t → region_at w t a ≡ g → rank_of w t ≡ q → source B t g ≡ some i → (rank_of w i ≡ q → ⊥) → (u : ℕ) × (b : ℕ) × Traced i g q u b) →
          (u : ℕ) × (b : ℕ) × Traced i g q u b
      go true c ih = (t, a, record { task = l; access = k; region = r; ranked = h; sourced = e; changes = c })
      go false c ih =
          let x = earlier t g i q e n (rw (r, h) at (unchanged w t a c)) in
          ih x.0 x.1 i g q (omega (arith, x.2)) (omega (arith, x.2)) x.3 x.4 x.5 x.6 n
