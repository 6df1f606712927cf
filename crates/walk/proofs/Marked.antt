-- A mark tells whether there is an edge.
use Prim.Native.Nat.{ℕ, ◌<◌}
use mathlib.Core.Path.{◌≡◌, refl, ◌∙◌, ap}
use mathlib.Core.Bool.{Bool, true, false, cond}
use mathlib.Core.List.{List}
use lib.Dec.{eqb}
use lib.ListN.{get_or}
use Rattle.body.specs.Body.{Body}
use Rattle.edges.specs.Tests.{edge_test}
use Rattle.walk.specs.Rows.{Marks}

mark_test : (t : Bool) → eqb (cond t 1 0) 1 ≡ t
mark_test true = refl
mark_test false = refl

pub edge_marked : (B : Body) (n a : ℕ) (back : Bool) (marks : List ℕ) → Marks B n a back marks → (b : ℕ) → b < n
    → eqb (get_or marks b 0) 1 ≡ cond back (edge_test B b a) (edge_test B a b)
edge_marked B n a back marks M b l = ap (λ (m : ℕ). eqb m 1) (M.each b l) ∙ mark_test (cond back (edge_test B b a) (edge_test B a b))
