-- Laws of the order of instances.
use Prim.Native.Nat.{ℕ, zero, suc, ◌+◌, ◌≤◌, ◌<◌}
use mathlib.Core.Path.{◌≡◌, refl, sym}
use mathlib.Core.Logic.{◌⊎◌, inl, inr}
use native.Mathlib.Decide.{dec_lt}
use native.Mathlib.Omega.{arith}
use Rattle.unroll.specs.Instances.{Before, earlier, within}

pub before_pass : (p a q b : ℕ) → Before p a q b → p ≤ q
before_pass p a q b (earlier h) = omega arith
before_pass p a q b (within e h) = omega arith

pub before_item : (p a q b : ℕ) → Before p a q b → q ≤ p → a < b
before_item p a q b (earlier h) k = absurd (omega arith)
before_item p a q b (within e h) k = h

pub before_first : (q b : ℕ) → Before 0 0 q (suc b)
before_first zero b = within refl (omega arith)
before_first (suc q) b = earlier (omega arith)

-- (p, a) is before (q, b + 1): it is before (q, b), or is (q, b)
pub before_suc_cases : (p a q b : ℕ) → Before p a q (suc b) → Before p a q b ⊎ ((p ≡ q) × (a ≡ b))
before_suc_cases p a q b (earlier h) = inl (earlier h)
before_suc_cases p a q b (within e h) = elim (dec_lt a b) [ yes k ↦ inl (within e k) | no k ↦ inr (e, omega arith) ]

pub before_or_after : (p a q b : ℕ) → Before p a q b ⊎ Before q b p (suc a)
before_or_after p a q b =
    elim (dec_lt p q) [
      | yes h ↦ inl (earlier h)
      | no h ↦ elim (dec_lt q p) [
        | yes k ↦ inr (earlier k)
        | no k ↦ elim (dec_lt a b) [ yes l ↦ inl (within (omega arith) l) | no l ↦ inr (within (omega arith) (omega arith)) ]
      ]
    ]

pub before_suc : (p a q b : ℕ) → Before p a q b → Before p (suc a) q (suc b)
before_suc p a q b (earlier h) = earlier h
before_suc p a q b (within e h) = within e (omega arith)

pub before_pred : (p a q b : ℕ) → Before p (suc a) q (suc b) → Before p a q b
before_pred p a q b (earlier h) = earlier h
before_pred p a q b (within e h) = within e (omega arith)

-- at or before (p, k) where neither number is larger
pub before_le : (p a q b : ℕ) → p ≤ q → a ≤ b → Before p a q (suc b)
before_le p a q b h l = elim (dec_lt p q) [ yes k ↦ earlier k | no k ↦ within (omega arith) (omega arith) ]

pub before_later : (k p a q b : ℕ) → Before p a q b → Before (k + p) a (k + q) b
before_later k p a q b (earlier h) = earlier (omega arith)
before_later k p a q b (within e h) = within (omega arith) h

pub before_sooner : (k p a q b : ℕ) → Before (k + p) a (k + q) b → Before p a q b
before_sooner k p a q b (earlier h) = earlier (omega arith)
before_sooner k p a q b (within e h) = within (omega arith) h

-- strictly between two instances of one pass
pub between_same : (p a q b r c : ℕ) → p ≡ q → Before p a r c → Before r c q b → (a < c) × (c < b)
between_same p a q b r c e u v =
    let h : p ≤ r = before_pass p a r c u in
    let k : r ≤ q = before_pass r c q b v in
    (before_item p a r c u (omega arith), before_item r c q b v (omega arith))

-- strictly between an instance of a pass and one of the next
pub between_next : (p a q b r c : ℕ) → q ≡ suc p → Before p a r c → Before r c q b → ((p ≡ r) × (a < c)) ⊎ ((q ≡ r) × (c < b))
between_next p a q b r c z (earlier h) (earlier k) = absurd (omega arith)
between_next p a q b r c z (earlier h) (within e k) = inr (sym e, k)
between_next p a q b r c z (within e h) (earlier k) = inl (e, h)
between_next p a q b r c z (within e h) (within d k) = absurd (omega arith)
