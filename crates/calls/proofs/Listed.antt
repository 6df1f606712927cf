-- The numbers that are put are those of all edges.
use Prim.Native.Nat.{ℕ, ◌*◌, ◌/◌}
use mathlib.Core.Path.{◌≡◌, ◌∙◌, ap, ap₂}
use mathlib.Core.List.{List, ◌++◌, flat_map}
use native.Mathlib.Omega.{arith}
use lib.ListN.{length, drop}
use Rattle.finite.specs.Lists.{collect}
use Rattle.finite.specs.Put.{Put}
use Rattle.edges.specs.EdgeList.{edge_list}
use Rattle.edges.proofs.AllEdges.{all_edges}
use Rattle.plan.specs.Layout.{body_of}
use Rattle.graph.specs.Table.{Graph}
use Rattle.graph.specs.Answers.{three}
use Rattle.walk.specs.Listing.{numbers_from}
use Rattle.graph.proofs.Lookup.{form, body_fits}
use Rattle.walk.proofs.Listing.{numbers_all, length_three}
use Rattle.calls.specs.Drawn.{Drawn}

pub drawn : (w table : List ℕ) (n : ℕ) → Graph w table n → (list list' : List ℕ) (r : ℕ) → Put (collect n (numbers_from (body_of w))) list r list' → Drawn w list (r / 3) list'
drawn w table n G list list' r P =
    record {
      edges = edge_list (body_of w);
      all = all_edges (body_of w) (body_fits w table n G) (form w table n G).regions_most;
      count = omega (arith, P.count, size);
      put = P.begins ∙ ap₂ (λ (l : List ℕ) (k : ℕ). l ++ drop k list) numbers thirds;
    }
  where
    numbers : collect n (numbers_from (body_of w)) ≡ flat_map three (edge_list (body_of w))
    numbers = numbers_all (body_of w) n G.count

    size : length (collect n (numbers_from (body_of w))) ≡ 3 * length (edge_list (body_of w))
    size = ap length numbers ∙ length_three (edge_list (body_of w))

    thirds : length (collect n (numbers_from (body_of w))) ≡ 3 * (r / 3)
    thirds = omega (arith, P.count, size)
