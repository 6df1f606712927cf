-- What a lent plan is asked for and answers: its items, its edges and its total of steps (paper 01,
-- "Transfers and items", "Edges", and 11 to 13 of "Refusals that come from the state"; paper 02,
-- card 2). Refusal 0 is none. Of 12 only the plan is looked at: no count of a state is judged here.
-- w are the words of the lent plan.
use Rattle.std.specs.Prelude.{ℕ, ◌*◌, ◌≡◌, Bool, true, cond, ◌&&◌, ltb, leb, length, take, drop}
use mathlib.Core.List.{List, [], ◌∷◌, ◌++◌, flat_map}
use Rattle.body.specs.Body.{Body}
use Rattle.body.specs.Items.{item_count, total_steps}
use Rattle.edges.specs.Rule.{Triple, AllEdges}
pub use Rattle.plan.specs.Sizes.{max_items, edge_words}
use Rattle.plan.specs.Layout.{plan_words, body_of}
use Rattle.plan.specs.Form.{form_within, in_form}
use Rattle.graph.specs.declared.Number.{Number}
use Rattle.graph.specs.Table.{table_of}

-- the first that holds: 11 a slice too short, 12 a plan not in form, 13 a number too large
abbrev pub refusal_of : Bool → Bool → Bool → ℕ
refusal_of long formed within = cond long (cond formed (cond within 0 13) 12) 11

module _ (w : List ℕ) where
  abbrev pub long_plan : Bool
  long_plan = leb plan_words (length w)

  abbrev pub formed_plan : Bool
  formed_plan = in_form (take plan_words w)

  -- the same with the limit `most` on passes
  abbrev pub formed_within : ℕ → Bool
  formed_within most = form_within (take plan_words w) most

  -- the body that the plan holds
  abbrev pub plan_body : Body
  plan_body = body_of (take plan_words w)

  abbrev pub is_item : ℕ → Bool
  is_item a = ltb a (item_count plan_body)

-- the numbers of all items in the lent slice `table`, and how many they are; what lies behind them
-- stays
pub record ItemsAnswer (w table : List ℕ) (r : Number) (table' : List ℕ) : Type 0 where
  pub refusal : r.refusal ≡ refusal_of (long_plan w && leb max_items (length table)) (formed_plan w) true
  pub listed : r.refusal ≡ 0 → (r.number ≡ item_count (plan_body w)) × (table' ≡ table_of (plan_body w) ++ drop (item_count (plan_body w)) table)
  pub refused : (r.refusal ≡ 0 → ⊥) → (r.number ≡ 0) × (table' ≡ table)

-- from, to and distance of an edge
abbrev pub three : Triple → List ℕ
three (a, b, d) = a ∷ b ∷ d ∷ []

-- all edges in order in the lent slice `list`, and their number; what lies behind them stays. There
-- is one list l (graph/specs/Laws.antt, `unique`)
pub record EdgesAnswer (w list : List ℕ) (r : Number) (list' : List ℕ) : Type 0 where
  pub refusal : r.refusal ≡ refusal_of (long_plan w && leb edge_words (length list)) (formed_plan w) true
  pub listed : r.refusal ≡ 0 → (l : List Triple) × AllEdges (plan_body w) l × (r.number ≡ length l)
      × (list' ≡ flat_map three l ++ drop (3 * length l) list)
  pub refused : (r.refusal ≡ 0 → ⊥) → (r.number ≡ 0) × (list' ≡ list)

-- the total of steps
pub record TotalAnswer (w : List ℕ) (r : Number) : Type 0 where
  pub refusal : r.refusal ≡ refusal_of (long_plan w) (formed_plan w) true
  pub total : r.refusal ≡ 0 → r.number ≡ total_steps (plan_body w)
  pub refused : (r.refusal ≡ 0 → ⊥) → r.number ≡ 0
