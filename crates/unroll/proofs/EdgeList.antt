-- The list of all edges, computed.
use Prim.Native.Nat.{ℕ, ◌<◌}
use mathlib.Core.Path.{◌≡◌, sym, subst}
use mathlib.Core.Bool.{true, decide, decide_iff}
use mathlib.Core.Logic.{◌↔◌}
use mathlib.Core.List.{List, flat_map, Memᴰ as In}
use native.Mathlib.Omega.{arith}
use Rattle.finite.specs.Lists.{range, gather}
use Rattle.finite.proofs.Lists.{in_range, in_gather, in_gather_from}
use Rattle.finite.proofs.Members.{in_flat_map, in_flat_map_from}
use Rattle.unroll.specs.System.{System}
use Rattle.unroll.specs.Edges.{Edge}
use Rattle.unroll.proofs.Edges.{edge_distance, edge_from, edge_to}
use Rattle.unroll.proofs.Decide.{dec_edge}

module _ (S : System) where
  -- all edges, in the order from, to, distance
  unfoldable pub edges_between : ℕ → ℕ → List (ℕ × ℕ × ℕ)
  edges_between a b = gather 2 (λ d. decide (dec_edge S a b d)) (λ d. (a, b, d))

  unfoldable pub edges : List (ℕ × ℕ × ℕ)
  edges = flat_map (λ a. flat_map (λ b. edges_between a b) (range 0 S.items)) (range 0 S.items)

  between_edge : (a b d a' b' : ℕ) → In (a, b, d) (edges_between a' b') → Edge S a b d
  unfolding edges_between
  between_edge a b d a' b' h = go (in_gather_from 2 (λ d. decide (dec_edge S a' b' d)) (λ d. (a', b', d)) (a, b, d) h)
    where
      go : (k : ℕ) × (k < 2) × (decide (dec_edge S a' b' k) ≡ true) × (◌≡◌ {A = ℕ × ℕ × ℕ} (a, b, d) (a', b', k)) → Edge S a b d
      go (k, l, t, e) = subst (λ (x : ℕ × ℕ × ℕ). Edge S x.0 x.1 x.2) (sym e) ((decide_iff (dec_edge S a' b' k)).0 t)

  edges_from_lem : (a b d : ℕ) → In (a, b, d) edges → Edge S a b d
  unfolding edges
  edges_from_lem a b d h = go (in_flat_map_from (λ a'. flat_map (λ b'. edges_between a' b') (range 0 S.items)) (a, b, d) (range 0 S.items) h)
    where
      last : (a' : ℕ) → (b' : ℕ) × In b' (range 0 S.items) × In (a, b, d) (edges_between a' b') → Edge S a b d
      last a' (b', u, v) = between_edge a b d a' b' v

      go : (a' : ℕ) × In a' (range 0 S.items) × In (a, b, d) (flat_map (λ b'. edges_between a' b') (range 0 S.items)) → Edge S a b d
      go (a', u, v) = last a' (in_flat_map_from (λ b'. edges_between a' b') (a, b, d) (range 0 S.items) v)

  edges_in : (a b d : ℕ) → Edge S a b d → In (a, b, d) edges
  unfolding edges edges_between
  edges_in a b d e =
      in_flat_map (λ a'. flat_map (λ b'. edges_between a' b') (range 0 S.items)) (a, b, d) a (range 0 S.items) (in_range a 0 S.items (omega arith) (omega (arith, edge_from S a b d e)))
      (in_flat_map (λ b'. edges_between a b') (a, b, d) b (range 0 S.items) (in_range b 0 S.items (omega arith) (omega (arith, edge_to S a b d e)))
      (in_gather 2 (λ k. decide (dec_edge S a b k)) (λ k. (a, b, k)) d (omega (arith, edge_distance S a b d e)) ((decide_iff (dec_edge S a b d)).1 e)))

  pub edges_exactly : (a b d : ℕ) → In (a, b, d) edges ↔ Edge S a b d
  edges_exactly a b d = (edges_from_lem a b d, edges_in a b d)
