-- All edges of the words w, put into a list. It serves the contracts of inner functions: nothing
-- here need be believed.
use Rattle.std.specs.Prelude.{ℕ, ◌*◌, ◌≡◌, length, drop}
use mathlib.Core.List.{List, ◌++◌, flat_map}
use Rattle.edges.specs.Rule.{Triple, AllEdges}
use Rattle.plan.specs.Layout.{body_of}
use Rattle.graph.specs.Answers.{three}

pub record Drawn (w list : List ℕ) (m : ℕ) (list' : List ℕ) : Type 0 where
  pub edges : List Triple
  pub all : AllEdges (body_of w) edges
  pub count : m ≡ length edges
  pub put : list' ≡ flat_map three edges ++ drop (3 * m) list
