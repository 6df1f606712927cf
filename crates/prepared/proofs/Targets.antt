-- The targets of an item: which they are, that they rise, and how many all items have.
use Prim.Native.Nat.{ℕ, ◌+◌, ◌≤◌, ◌<◌}
use mathlib.Core.Path.{◌≡◌, refl, sym, ap, subst}
use mathlib.Core.Bool.{Bool, true, false, cond, not, ◌&&◌, ◌||◌, and-false, or-false}
use native.Mathlib.Omega.{arith}
use borrow.Author.Tests.{eq-eqb, ne_eqb}
use lib.Dec.{eqb}
use lib.ListN.{length, get_or, length-append}
use Rattle.finite.specs.Below.{count_below}
use Rattle.finite.specs.Lists.{collect}
use Rattle.finite.proofs.Below.{count_sum, count_suc, count_le, sum_le}
use Rattle.finite.proofs.Lists.{length_gather, in_gather, in_gather_from, length_flat_map_range}
use Rattle.finite.proofs.Collect.{collect_next, collect_range, collect_room}
use Rattle.finite.proofs.Members.{in_at, at_in}
use Rattle.finite.proofs.Sorted.{sorted_gather, sorted_at}
use Rattle.body.specs.Body.{Body, Fits}
use Rattle.body.specs.Items.{item_count}
use Rattle.body.specs.Places.{system}
use Rattle.edges.specs.Rule.{Triple}
use Rattle.edges.specs.Tests.{distance, edge_test}
use Rattle.edges.specs.EdgeList.{Small, edges_from, edge_list}
use Rattle.edges.proofs.Bound.{edges_bounded}
use Rattle.waits.specs.InStep.{sources_of}
use Rattle.plan.specs.Sizes.{max_edges}
use Rattle.prepared.specs.Tables.{leads, targets_of, targets_before}
use Rattle.prepared.proofs.Parts.{collect_at}

-- a test that fails of a number below n holds of fewer than n
count_fewer : (n : ℕ) (p : ℕ → Bool) (a : ℕ) → a < n → p a ≡ false → count_below n p < n
count_fewer n p a l f =
    omega (
      arith,
      count_suc n p (λ b. p b || eqb b a) a l f (rw f (eq-eqb a a refl)) (λ b ne. rw (ne_eqb b a ne) (or-false (p b))),
      count_le (λ b. p b || eqb b a) n,
    )

module _ (B : Body) where
  leads_self : (a : ℕ) → leads B a a ≡ false
  unfolding leads
  leads_self a = rw (eq-eqb a a refl) (and-false (edge_test B a a))

  -- the targets of item a
  module _ (a : ℕ) where
    pub target_leads : (k : ℕ) → k < length (targets_of B a) → (get_or (targets_of B a) k 0 < item_count B) × (leads B a (get_or (targets_of B a) k 0) ≡ true)
    unfolding targets_of
    target_leads k h =
        let r = in_gather_from (item_count B) (leads B a) (λ b. b) (get_or (targets_of B a) k 0) (at_in (get_or (targets_of B a) k 0) 0 (targets_of B a) k h refl) in
        (omega (arith, r.1, r.3), subst (λ (b : ℕ). leads B a b ≡ true) (sym r.3) r.2)

    pub target_there : (b : ℕ) → b < item_count B → leads B a b ≡ true → (k : ℕ) × (k < length (targets_of B a)) × (get_or (targets_of B a) k 0 ≡ b)
    unfolding targets_of
    target_there b h e = in_at b 0 (targets_of B a) (in_gather (item_count B) (leads B a) (λ c. c) b h e)

    pub targets_rise : (i j : ℕ) → i < j → j < length (targets_of B a) → get_or (targets_of B a) i 0 < get_or (targets_of B a) j 0
    unfolding targets_of
    targets_rise = sorted_at (λ (j k : ℕ). j < k) 0 (targets_of B a) (sorted_gather (λ (j k : ℕ). j < k) (item_count B) (leads B a) (λ c. c) (λ j k s. s))

    -- fewer than items
    pub targets_fewer : a < item_count B → length (targets_of B a) < item_count B
    unfolding targets_of
    targets_fewer l = omega (arith, length_gather (item_count B) (leads B a) (λ b. b), count_fewer (item_count B) (leads B a) a l (leads_self a))

    pub sources_fewer : a < item_count B → sources_of (system B) (edge_test B) a < item_count B
    unfolding sources_of
    sources_fewer l = count_fewer (item_count B) (λ b. edge_test B b a && not (eqb b a)) a l (rw (eq-eqb a a refl) (and-false (edge_test B a a)))

  -- the targets of all items

  pub starts_next : (a : ℕ) → length (targets_before B (a + 1)) ≡ length (targets_before B a) + length (targets_of B a)
  unfolding targets_before
  starts_next a = rw (collect_next (targets_of B) a) (length-append (collect a (targets_of B)) (targets_of B a))

  pub starts_most : (a : ℕ) → a < item_count B → length (targets_before B a) + length (targets_of B a) ≤ length (targets_before B (item_count B))
  unfolding targets_before
  starts_most a l = collect_room (item_count B) a (targets_of B) l

  pub target_at : (a k : ℕ) → a < item_count B → k < length (targets_of B a) →
      get_or (targets_before B (item_count B)) (length (targets_before B a) + k) 0 ≡ get_or (targets_of B a) k 0
  unfolding targets_before
  target_at a k l m = collect_at (targets_of B) (item_count B) a k l m

  -- no more than edges
  targets_edges : (a : ℕ) → length (targets_of B a) ≤ length (edges_from B a)
  unfolding targets_of edges_from leads
  targets_edges a =
      omega (
        arith,
        length_gather (item_count B) (leads B a) (λ b. b),
        length_gather {X = Triple} (item_count B) (edge_test B a) (λ b. (a, b, distance a b)),
        count_sum (item_count B) (leads B a),
        count_sum (item_count B) (edge_test B a),
        sum_le (item_count B) (λ b. cond (leads B a b) 1 0) (λ b. cond (edge_test B a b) 1 0) (λ b l. one (edge_test B a b) _),
      )
    where
      one : (t u : Bool) → ◌≤◌ (cond (t && u) 1 0) (cond t 1 0)
      one true true = omega arith
      one true false = omega arith
      one false u = omega arith

  pub targets_most : Fits B → Small B → length (targets_before B (item_count B)) ≤ max_edges
  unfolding targets_before edge_list
  targets_most F small =
      omega (
        arith,
        ap length (collect_range (item_count B) (targets_of B)),
        length_flat_map_range (targets_of B) (item_count B),
        length_flat_map_range (edges_from B) (item_count B),
        sum_le (item_count B) (λ a. length (targets_of B a)) (λ a. length (edges_from B a)) (λ a l. targets_edges a),
        edges_bounded B F small,
      )
