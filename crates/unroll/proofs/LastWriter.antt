-- The last writer of a place strictly between two instances, where there is one.
use Prim.Native.Nat.{ℕ, zero, suc, ◌-◌, ◌≤◌, ◌<◌}
use mathlib.Core.Path.{◌≡◌, refl}
use mathlib.Core.Bool.{false}
use mathlib.Core.Logic.{◌⊎◌, inl, inr, ⊎_elim}
use native.Mathlib.Decide.{dec_lt}
use native.Mathlib.Omega.{arith}
use Rattle.finite.specs.Lists.{mem}
use Rattle.finite.proofs.Tests.{true_or_false, not_both}
use Rattle.finite.proofs.Below.{below_suc}
use Rattle.unroll.specs.Instances.{Before, earlier, within}
use Rattle.unroll.specs.System.{System, Writes}
use Rattle.unroll.specs.Edges.{Unwritten}
use Rattle.unroll.proofs.Instances.{between_same, between_next}

module _ (S : System) (x : ℕ) where
  -- the last writer among the items lo .. hi-1
  pub data Scan (lo hi : ℕ) : Type 0 where
    none : ((c : ℕ) → lo ≤ c → c < hi → Writes S c x → ⊥) → Scan lo hi
    last : (c : ℕ) → lo ≤ c → c < hi → Writes S c x → ((e : ℕ) → c < e → e < hi → Writes S e x → ⊥) → Scan lo hi

  unfoldable pub scan_suc : (lo hi : ℕ) → Scan lo hi → (Writes S hi x) ⊎ (mem x (S.writes hi) ≡ false) → Dec (hi < lo) → Scan lo (suc hi)
  scan_suc lo hi s w (yes k) = none (λ c u v. absurd (omega arith))
  scan_suc lo hi s (inl w) (no k) = last hi (omega arith) (omega arith) w (λ e u v. absurd (omega arith))
  scan_suc lo hi (none f) (inr w) (no k) = none (λ c u v. below_suc (λ c. lo ≤ c → Writes S c x → ⊥) hi (λ c l u. f c u l) (λ u t. not_both t w) c v u)
  scan_suc lo hi (last c l h t f) (inr w) (no k) =
      last c l (omega arith) t (λ e u v. below_suc (λ e. c < e → Writes S e x → ⊥) hi (λ e l u. f e u l) (λ u t. not_both t w) e v u)

  unfoldable pub scan : (lo hi : ℕ) → Scan lo hi
  scan lo zero = none (λ c u v. absurd (omega arith))
  scan lo (suc hi) = scan_suc lo hi (scan lo hi) (true_or_false (mem x (S.writes hi))) (dec_lt hi lo)

  pub unwritten_same : (p a q b : ℕ) → p ≡ q → ((c : ℕ) → a < c → c < b → Writes S c x → ⊥) → Unwritten S x p a q b
  unwritten_same p a q b e f r c l u v = let h : (a < c) × (c < b) = between_same p a q b r c e u v in f c h.0 h.1

  pub unwritten_next : (p a q b : ℕ) → q ≡ suc p → ((c : ℕ) → a < c → c < S.items → Writes S c x → ⊥) → ((c : ℕ) → 0 ≤ c → c < b → Writes S c x → ⊥) → Unwritten S x p a q b
  unwritten_next p a q b e f g r c l u v = ⊎_elim (λ h. f c h.1 l) (λ h. g c (omega arith) h.1) (between_next p a q b r c e u v)

  pub data Last (p a q b : ℕ) : Type 0 where
    clear : Unwritten S x p a q b → Last p a q b
    writer : (r c : ℕ) → c < S.items → Before p a r c → Before r c q b → Writes S c x → Unwritten S x r c q b → Last p a q b

  -- the two in one pass
  unfoldable pub last_same : (p a q b : ℕ) → p ≡ q → b ≤ S.items → Scan (suc a) b → Last p a q b
  last_same p a q b e lb (none f) = clear (unwritten_same p a q b e f)
  last_same p a q b e lb (last c l h t f) = writer q c (omega arith) (within e l) (within refl h) t (unwritten_same q c q b refl f)

  -- the two in a pass and the next
  unfoldable pub last_next : (p a q b : ℕ) → q ≡ suc p → b ≤ S.items → Scan 0 b → Scan (suc a) S.items → Last p a q b
  last_next p a q b e lb (last c l h t f) s = writer q c (omega arith) (earlier (omega arith)) (within refl h) t (unwritten_same q c q b refl f)
  last_next p a q b e lb (none f) (none g) = clear (unwritten_next p a q b e g f)
  last_next p a q b e lb (none f) (last c l h t g) = writer p c h (within refl l) (earlier (omega arith)) t (unwritten_next p c q b e g f)

  -- a pass or more between the two
  unfoldable pub last_far : (p a r q b : ℕ) → q ≡ suc r → p < r → b ≤ S.items → Scan 0 b → Scan 0 S.items → Last p a q b
  last_far p a r q b e h lb (last c l k t f) s = writer q c (omega arith) (earlier (omega arith)) (within refl k) t (unwritten_same q c q b refl f)
  last_far p a r q b e h lb (none f) (none g) = clear (λ s c l u v. g c (omega arith) l)
  last_far p a r q b e h lb (none f) (last c l k t g) = writer r c k (earlier h) (earlier (omega arith)) t (unwritten_next r c q b e g f)

  unfoldable pub last_writer : (p a q b : ℕ) → b ≤ S.items → Before p a q b → Last p a q b
  last_writer p a q b lb (within e h) = last_same p a q b e lb (scan (suc a) b)
  last_writer p a q b lb (earlier h) =
      elim (dec_lt (suc p) q) [
        | yes k ↦ last_far p a (q - 1) q b (omega arith) (omega arith) lb (scan 0 b) (scan 0 S.items)
        | no k ↦ last_next p a q b (omega arith) lb (scan 0 b) (scan (suc a) S.items)
      ]
