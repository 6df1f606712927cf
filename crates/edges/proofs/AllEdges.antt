-- The list by the test is the list of all edges, and there is no other.
use Prim.Native.Nat.{ℕ, ◌+◌, ◌≤◌, ◌<◌}
use mathlib.Core.Path.{◌≡◌, refl, sym, ap, subst}
use mathlib.Core.Bool.{true}
use mathlib.Core.Logic.{inl, inr}
use mathlib.Core.List.{List, Memᴰ as In}
use native.Mathlib.Omega.{arith}
use Rattle.finite.specs.Lists.{range}
use Rattle.finite.proofs.Lists.{in_range, in_range_from, in_gather, in_gather_from}
use Rattle.finite.proofs.Members.{in_flat_map, in_flat_map_from}
use Rattle.finite.proofs.Sorted.{Sorted, sorted_at, sorted_from, sorted_unique, sorted_flat_map, sorted_gather, sorted_range}
use Rattle.unroll.specs.Edges.{Edge}
use Rattle.unroll.proofs.Edges.{edge_from, edge_to}
use Rattle.body.specs.Body.{Body, Fits}
use Rattle.body.specs.Items.{item_count}
use Rattle.body.specs.Places.{system}
use Rattle.edges.specs.Rule.{Triple, Ahead, AllEdges}
use Rattle.edges.specs.Tests.{distance, edge_test}
use Rattle.edges.specs.EdgeList.{edges_from, edge_list}
use Rattle.edges.proofs.Decided.{edge_distance_is, edge_test_lem, test_edge}

ahead_one_way : (x y : Triple) → Ahead x y → Ahead y x → ⊥
ahead_one_way (a, b, d) (a', b', d') (inl h) (inl k) = omega arith
ahead_one_way (a, b, d) (a', b', d') (inl h) (inr k) = omega (arith, k.0)
ahead_one_way (a, b, d) (a', b', d') (inr h) (inl k) = omega (arith, h.0)
ahead_one_way (a, b, d) (a', b', d') (inr (e, inl h)) (inr (f, inl k)) = omega arith
ahead_one_way (a, b, d) (a', b', d') (inr (e, inl h)) (inr (f, inr k)) = omega (arith, k.0)
ahead_one_way (a, b, d) (a', b', d') (inr (e, inr h)) (inr (f, inl k)) = omega (arith, h.0)
ahead_one_way (a, b, d) (a', b', d') (inr (e, inr h)) (inr (f, inr k)) = omega (arith, h.1, k.1)

module _ (B : Body) where
  edges_in : (a : ℕ) (x : Triple) → In x (edges_from B a) → (b : ℕ) × (b < item_count B) × (edge_test B a b ≡ true) × (x ≡ (a, b, distance a b))
  unfolding edges_from
  edges_in a x m = in_gather_from (item_count B) (edge_test B a) (λ b. (a, b, distance a b)) x m

  edges_sorted : Sorted Ahead (edge_list B)
  unfolding edge_list edges_from
  edges_sorted =
      sorted_flat_map (λ (j k : ℕ). j < k) Ahead (edges_from B) (range 0 (item_count B)) (sorted_range 0 (item_count B))
      (λ a m. sorted_gather Ahead (item_count B) (edge_test B a) (λ b. (a, b, distance a b)) (λ j k s. inr (refl, inl s)))
      (λ a a' m m' s x y u v. later a a' s x y (edges_in a x u).3 (edges_in a' y v).3)
    where
      later : (a a' : ℕ) → a < a' → (x y : Triple) {b b' d d' : ℕ} → x ≡ (a, b, d) → y ≡ (a', b', d') → Ahead x y
      later a a' s x y e f = inl (omega (arith, ap (λ (t : Triple). t.0) e, ap (λ (t : Triple). t.0) f))

  module _ (F : Fits B) where
    listed_edge : (a b d : ℕ) → In (a, b, d) (edge_list B) → Edge (system B) a b d
    unfolding edge_list
    listed_edge a b d h = go (in_flat_map_from (edges_from B) (a, b, d) (range 0 (item_count B)) h)
      where
        one : (a' : ℕ) → a' < item_count B → (k : ℕ) × (k < item_count B) × (edge_test B a' k ≡ true) × (◌≡◌ {A = Triple} (a, b, d) (a', k, distance a' k)) → Edge (system B) a b d
        one a' la (k, l, t, e) = subst (λ (x : Triple). Edge (system B) x.0 x.1 x.2) (sym e) (test_edge B F a' k la l t)

        go : (a' : ℕ) × In a' (range 0 (item_count B)) × In (a, b, d) (edges_from B a') → Edge (system B) a b d
        go (a', u, v) = let r : (0 ≤ a') × (a' < 0 + item_count B) = in_range_from a' 0 (item_count B) u in one a' (omega arith) (edges_in a' (a, b, d) v)

    edge_listed : B.regions ≤ 128 → (a b d : ℕ) → Edge (system B) a b d → In (a, b, d) (edge_list B)
    unfolding edge_list edges_from
    edge_listed few a b d e =
        let la : a < item_count B = edge_from (system B) a b d e in
        let lb : b < item_count B = edge_to (system B) a b d e in
        subst (λ (k : ℕ). In (a, b, k) (edge_list B)) (sym (edge_distance_is (system B) a b d e))
        (in_flat_map (edges_from B) (a, b, distance a b) a (range 0 (item_count B)) (in_range a 0 (item_count B) (omega arith) (omega arith))
        (in_gather (item_count B) (edge_test B a) (λ b. (a, b, distance a b)) b lb (edge_test_lem B F few a b d e)))

pub all_edges : (B : Body) → Fits B → B.regions ≤ 128 → AllEdges B (edge_list B)
all_edges B F few =
    record {
      exactly = λ a b d. (listed_edge B F a b d, edge_listed B F few a b d);
      ordered = sorted_at Ahead (0, 0, 0) (edge_list B) (edges_sorted B);
    }

pub edges_unique : (B : Body) (l k : List Triple) → AllEdges B l → AllEdges B k → l ≡ k
edges_unique B l k u v =
    sorted_unique Ahead ahead_one_way l k (sorted_from Ahead (0, 0, 0) l u.ordered) (sorted_from Ahead (0, 0, 0) k v.ordered)
    (λ (a, b, d) m. (v.exactly a b d).1 ((u.exactly a b d).0 m))
    (λ (a, b, d) m. (u.exactly a b d).1 ((v.exactly a b d).0 m))
