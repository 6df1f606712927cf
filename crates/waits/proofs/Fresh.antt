-- Fresh counts stay fresh over a finish, and say of a start what the waits say.
use Prim.Native.Nat.{ℕ, suc, ◌+◌, ◌-◌, ◌<◌}
use mathlib.Core.Path.{◌≡◌, refl, sym, ◌∙◌}
use mathlib.Core.Bool.{Bool, true, false, cond}
use mathlib.Core.Logic.{◌↔◌}
use native.Mathlib.Omega.{arith}
use Rattle.finite.specs.Below.{count_below}
use Rattle.finite.specs.Update.{update}
use Rattle.finite.proofs.Tests.{false_of, not_both, test_ext}
use Rattle.finite.proofs.Below.{count_ext, count_never}
use Rattle.finite.proofs.Sums.{count_some}
use Rattle.finite.proofs.Update.{update_ind}
use Rattle.unroll.specs.System.{System}
use Rattle.unroll.specs.Edges.{Edge}
use Rattle.unroll.specs.Machine.{State, Met, CanStart}
use Rattle.unroll.proofs.Edges.{edge_from}
use Rattle.unroll.proofs.Decide.{dec_met}
use Rattle.waits.specs.Waits.{Unmet, Tells, is_unmet, fresh_count, meets, lowered, numbers_after, Fresh}
use Rattle.waits.proofs.Unmet.{meets_parts, meets_of, count_left, count_met, count_kept, unmet_exactly}

module _ (S : System) (edge : ℕ → ℕ → Bool) where
  -- the number of another item
  lowered_fresh : (fin number : ℕ → ℕ) (b a : ℕ) → (a ≡ b → ⊥) → b < S.items → fin b < S.passes b →
      number a ≡ fresh_count S edge fin a → lowered S edge fin b number a ≡ fresh_count S edge (update fin b (suc (fin b))) a
  unfolding lowered
  lowered_fresh fin number b a other lb made f = go (meets S edge fin b a) refl
    where
      go : (m : Bool) → meets S edge fin b a ≡ m → cond m (number a - 1) (number a) ≡ fresh_count S edge (update fin b (suc (fin b))) a
      go true e = omega (arith, f, count_met S edge fin b a other lb made (meets_parts S edge fin b a e))
      go false e = f ∙ count_kept S edge fin b a other (λ h. not_both (meets_of S edge fin b a h) e)

  pub finish_fresh : (fin number : ℕ → ℕ) (b : ℕ) → b < S.items → fin b < S.passes b → Fresh S edge fin number →
      Fresh S edge (update fin b (suc (fin b))) (numbers_after S edge fin b number)
  unfolding numbers_after
  finish_fresh fin number b lb made f a la =
      update_ind (λ a n. a < S.items → n ≡ fresh_count S edge (update fin b (suc (fin b))) a) (lowered S edge fin b number) b _
      (λ l. refl)
      (λ a other l. lowered_fresh fin number b a other lb made (f a l))
      a la

module _ (S : System) (edge : ℕ → ℕ → Bool) (T : Tells S edge) (s : State) (a : ℕ) (la : a < S.items) where
  pub counted : (t : ℕ → Bool) → s.finished a < S.passes a → ((b : ℕ) → b < S.items → (t b ≡ true) ↔ Unmet S s a b) →
      fresh_count S edge s.finished a ≡ count_below S.items t
  counted t l h =
      count_left S edge s.finished a l
      ∙ count_ext S.items (is_unmet S edge s.finished a) t
      (λ b lb. test_ext (is_unmet S edge s.finished a b) (t b)
      (λ e. (h b lb).1 ((unmet_exactly S edge T s a b la lb).0 e))
      (λ e. (unmet_exactly S edge T s a b la lb).1 ((h b lb).0 e)))

  -- no number, no unmet wait
  zero_met : (b d p : ℕ) → s.finished a < S.passes a → fresh_count S edge s.finished a ≡ 0 → Edge S b a d → p + d ≡ s.finished a → Met S s b p
  zero_met b d p l z e h =
      elim (dec_met S s b p) [
        | yes m ↦ m
        | no m ↦ absurd (
            let lb : b < S.items = edge_from S b a d e in
            let u = (unmet_exactly S edge T s a b la lb).1 (record { d = d; p = p; edge = e; source = h; unmet = m }) in
            omega (arith, count_some S.items (is_unmet S edge s.finished a) b lb u, count_left S edge s.finished a l, z))
      ]

  met_zero : CanStart S s a → fresh_count S edge s.finished a ≡ 0
  met_zero c =
      count_left S edge s.finished a c.left
      ∙ count_never S.items (is_unmet S edge s.finished a)
      (λ b lb. false_of (is_unmet S edge s.finished a b) (λ h.
      let u = (unmet_exactly S edge T s a b la lb).0 h in
      u.unmet (c.ready b u.d u.p u.edge (u.source ∙ sym c.idle))))

  pub zero_starts : s.finished a < S.passes a → s.started a ≡ s.finished a → (fresh_count S edge s.finished a ≡ 0) ↔ CanStart S s a
  zero_starts l e = (
    λ z. record { in_range = la; left = l; idle = e; ready = λ b d p f q. zero_met b d p l z f (q ∙ e) },
    met_zero,
  )
