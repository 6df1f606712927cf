-- Instances, and their order in the item list unrolled over passes without end (paper 01, "Edges"). Instance (p, a) is item a in
-- pass p; it is made if p is below the passes of item a.
use Rattle.std.specs.Prelude.{ℕ, ◌<◌, ◌≡◌}

-- (p, a) comes before (q, b): in an earlier pass, or in the same pass as an earlier item
pub data Before (p a q b : ℕ) : Type 0 where
  earlier : p < q → Before p a q b
  within : p ≡ q → a < b → Before p a q b
