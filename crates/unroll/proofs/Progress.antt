-- While an item has a pass left, some call is accepted: of the items with a pass left, the first one by its next pass, then by its number.
use Prim.Native.Nat.{ℕ, zero, suc, ◌+◌, ◌≤◌, ◌<◌}
use mathlib.Core.Path.{◌≡◌, refl}
use mathlib.Core.Logic.{◌⊎◌, inl, inr}
use native.Mathlib.Decide.{dec_lt, dec_le}
use native.Mathlib.Omega.{arith}
use Rattle.finite.proofs.Below.{below_suc}
use Rattle.unroll.specs.Instances.{Before, earlier, within}
use Rattle.unroll.specs.System.{System}
use Rattle.unroll.specs.Edges.{Edge}
use Rattle.unroll.specs.Machine.{State, Call, start, finish, Met, Can}
use Rattle.unroll.specs.AnyOrder.{End}
use Rattle.unroll.proofs.Instances.{before_pass, before_item, before_le}
use Rattle.unroll.proofs.Edges.{edge_from, edge_within}
use Rattle.unroll.proofs.Invariant.{Invariant}

module _ (S : System) (s : State) where
  abbrev Left : ℕ → Type 0
  Left b = s.finished b < S.passes b

  -- a comes first among the items below k that have a pass left
  abbrev First : ℕ → ℕ → Type 0
  First k a = (b : ℕ) → b < k → Left b → Before (s.finished a) a (s.finished b) (suc b)

  data Search (k : ℕ) : Type 0 where
    none : ((b : ℕ) → b < k → S.passes b ≤ s.finished b) → Search k
    first : (a : ℕ) → a < k → Left a → First k a → Search k

  search_suc : (k : ℕ) → Search k → Dec (Left k) → Search (suc k)
  search_suc k (none f) (no h) = none (below_suc (λ b. S.passes b ≤ s.finished b) k f (omega arith))
  search_suc k (none f) (yes h) =
      first k (omega arith) h
      (below_suc (λ b. Left b → Before (s.finished k) k (s.finished b) (suc b)) k (λ b l m. absurd (omega (arith, f b l))) (λ m. within refl (omega arith)))
  search_suc k (first a l m f) (no h) =
      first a (omega arith) m (below_suc (λ b. Left b → Before (s.finished a) a (s.finished b) (suc b)) k f (λ m. absurd (h m)))
  search_suc k (first a l m f) (yes h) =
      elim (dec_lt (s.finished k) (s.finished a)) [
        | yes u ↦ first k (omega arith) h
            (below_suc (λ b. Left b → Before (s.finished k) k (s.finished b) (suc b)) k
            (λ b v w. earlier (omega (arith, before_pass (s.finished a) a (s.finished b) (suc b) (f b v w)))) (λ m. within refl (omega arith)))
        | no u ↦ first a (omega arith) m
            (below_suc (λ b. Left b → Before (s.finished a) a (s.finished b) (suc b)) k f (λ m. before_le (s.finished a) a (s.finished k) k (omega arith) (omega arith)))
      ]

  find : (k : ℕ) → Search k
  find zero = none (λ b l. absurd (omega arith))
  find (suc k) = search_suc k (find k) (dec_lt (s.finished k) (S.passes k))

  -- the source of an edge into the first item has its pass finished, or does not make it
  first_met : (a b d p : ℕ) → First S.items a → Edge S b a d → p + d ≡ s.finished a → Met S s b p
  first_met a b d p f e h =
      elim (dec_lt p (s.finished b)) [
        | yes k ↦ inl k
        | no k ↦ elim (dec_le (S.passes b) p) [
          | yes l ↦ inr l
          | no l ↦ absurd (clash (f b (edge_from S b a d e) (omega arith)) (omega arith))
        ]
      ]
    where
      clash : Before (s.finished a) a (s.finished b) (suc b) → s.finished b ≤ p → ⊥
      clash u l =
          let g : s.finished a ≤ s.finished b = before_pass (s.finished a) a (s.finished b) (suc b) u in
          omega (arith, before_item (s.finished a) a (s.finished b) (suc b) u (omega arith), edge_within S b a d e (omega arith))

  first_can : (a : ℕ) → a < S.items → Left a → First S.items a → Invariant S s → (c : Call) × Can S s c
  first_can a la m f i =
      elim (dec_lt (s.finished a) (s.started a)) [
        | yes h ↦ (finish a, record { in_range = la; running = omega (arith, i.high a) })
        | no h ↦ (start a, record { in_range = la; left = m; idle = omega (arith, i.low a); ready = λ b d p e k. first_met a b d p f e (omega (arith, i.low a)) })
      ]

  -- no item has a pass left, or a call can be accepted
  pub end_or_can : Invariant S s → End S s ⊎ ((c : Call) × Can S s c)
  end_or_can i = go (find S.items)
    where
      go : Search S.items → End S s ⊎ ((c : Call) × Can S s c)
      go (none f) = inl (λ b lb. omega (arith, f b lb, i.low b, i.most b))
      go (first a la m f) = inr (first_can a la m f i)
