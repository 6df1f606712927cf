-- What the inner functions are lent of a plan. Nothing here need be believed.
use Rattle.std.specs.Prelude.{ℕ, ◌<◌, ◌≡◌, true, List, [], ◌∷◌, length}
use Rattle.body.specs.Body.{Body}
use Rattle.body.specs.Items.{Item, task, send, receive, item_count, item_at}
use Rattle.plan.specs.Layout.{plan_words, body_of}
use Rattle.plan.specs.Form.{in_form}
use Rattle.graph.specs.Table.{code_of}

-- a plan in form
pub record Formed (w : List ℕ) : Type 0 where
  pub long : length w ≡ plan_words
  pub formed : in_form w ≡ true

-- one of its items, and the item's number in the item table
pub record Found (w : List ℕ) (a code : ℕ) : Type 0 where
  pub plan : Formed w
  pub below : a < item_count (body_of w)
  pub coded : code ≡ code_of (body_of w) (item_at (body_of w) a)

-- the regions whose copies an item writes, on its own rank
unfoldable pub regions_written : Body → Item → List ℕ
regions_written B (task i) = B.writes i
regions_written B (send i g q) = []
regions_written B (receive i g q) = g ∷ []
