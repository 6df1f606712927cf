-- What the answers of the graph rest on besides (proved in proofs/Theorems.antt).
use Rattle.std.specs.Prelude.{ℕ, ◌*◌, ◌≤◌, ◌≡◌, true, List, length}
use Rattle.body.specs.Body.{Body}
use Rattle.body.specs.Items.{item_count}
use Rattle.edges.specs.Rule.{Triple, AllEdges}
use Rattle.plan.specs.Layout.{body_of}
use Rattle.plan.specs.Form.{in_form}
use Rattle.graph.specs.Answers.{edge_words, max_items}

pub record Laws : Type 0 where
  -- there is one list of all edges
  pub unique : (B : Body) (l k : List Triple) → AllEdges B l → AllEdges B k → l ≡ k
  -- the sizes are enough for every plan
  pub room : (w : List ℕ) → in_form w ≡ true → (l : List Triple) → AllEdges (body_of w) l → 3 * length l ≤ edge_words
  pub items : (w : List ℕ) → in_form w ≡ true → item_count (body_of w) ≤ max_items
