-- Whose word a region holds at a point of the loop, and on which ranks its copy is up to date.
use Prim.Native.Nat.{ℕ, zero, suc, ◌<◌}
use mathlib.Core.Path.{◌≡◌, refl, sym, ap}
use mathlib.Core.Bool.{Bool, true, false, ◌||◌, or-true}
use mathlib.Core.Logic.{◌⊎◌, inl, inr}
use mathlib.Core.Option.{Option, none, some, or_else}
use native.Mathlib.Decide.{ℕ_discrete}
use borrow.Author.Tests.{eq-eqb, ne_eqb}
use lib.Dec.{eqb}
use Rattle.finite.specs.Lists.{mem}
use Rattle.body.specs.Body.{Body}
use Rattle.body.specs.Transfers.{last_before, source, wanted, transferred}
use Rattle.body.proofs.Writers.{last_wrote, last_kept, reader_wanted, wanted_transferred}

or_else_self : (o : Option ℕ) → or_else o o ≡ o
unfolding or_else
or_else_self (some i) = refl
or_else_self none = refl

module _ (B : Body) where
  -- the last writer of g before task t in pass p, of this pass or of the one before
  unfoldable pub holder : ℕ → ℕ → ℕ → Option ℕ
  holder zero t g = last_before B t g
  holder (suc p) t g = source B t g

  -- rank q's copy of g is up to date, where g holds the word of the task given
  abbrev pub up_to_date : Option ℕ → ℕ → ℕ → Bool
  up_to_date none q g = true
  up_to_date (some j) q g = eqb q (B.rank j) || wanted B j g q

  pub holder_wrote : (p t g : ℕ) → mem g (B.writes t) ≡ true → holder p (suc t) g ≡ some t
  unfolding holder source or_else
  holder_wrote zero t g h = last_wrote B t g h
  holder_wrote (suc p) t g h = rw (last_wrote B t g h)

  pub holder_kept : (p t g : ℕ) → mem g (B.writes t) ≡ false → holder p (suc t) g ≡ holder p t g
  unfolding holder source
  holder_kept zero t g h = last_kept B t g h
  holder_kept (suc p) t g h = rw (last_kept B t g h)

  pub holder_pass : (p g : ℕ) → holder (suc p) 0 g ≡ holder p B.tasks g
  unfolding holder source or_else last_before
  holder_pass zero g = refl
  holder_pass (suc p) g = sym (or_else_self (last_before B B.tasks g))

  -- at the start of a pass: nobody, or the last writer in the body
  pub holder_start : (p g : ℕ) → (holder p 0 g ≡ none) ⊎ (holder p 0 g ≡ last_before B B.tasks g)
  unfolding holder source or_else last_before
  holder_start zero g = inl refl
  holder_start (suc p) g = inr refl

  holder_source : (p t g j : ℕ) → holder p t g ≡ some j → source B t g ≡ some j
  unfolding holder source or_else
  holder_source zero t g j e = ap (λ (o : Option ℕ). or_else o (last_before B B.tasks g)) e
  holder_source (suc p) t g j e = e

  -- a task reads copies that are up to date
  pub read_up_to_date : (p t g : ℕ) → t < B.tasks → mem g (B.reads t) ≡ true → up_to_date (holder p t g) (B.rank t) g ≡ true
  read_up_to_date p t g l m = go (holder p t g) refl
    where
      go : (o : Option ℕ) → holder p t g ≡ o → up_to_date o (B.rank t) g ≡ true
      go none e = refl
      go (some j) e =
          rw (reader_wanted B j g (B.rank t) t (record { below = l; placed = refl; reads = m; sourced = holder_source p t g j e })) (or-true (eqb (B.rank t) (B.rank j)))

  -- the copy of the task's own rank, or one that its word is sent to
  pub up_to_date_some : (j q g : ℕ) → up_to_date (some j) q g ≡ true → (q ≡ B.rank j) ⊎ (transferred B j g q ≡ true)
  up_to_date_some j q g h =
      elim (ℕ_discrete q (B.rank j)) [
        | yes e ↦ inl e
        | no f ↦ inr (wanted_transferred B j g q f (rw (ne_eqb q (B.rank j) f) at h))
      ]

  pub up_to_date_own : (j g : ℕ) → up_to_date (some j) (B.rank j) g ≡ true
  up_to_date_own j g = rw (eq-eqb (B.rank j) (B.rank j) refl)
