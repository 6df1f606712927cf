-- What C gets from `taskiter_items`, `taskiter_edges` and `taskiter_total`, part of demand 2, and
-- from `taskiter_write`, part of demand 1, for every lent plan of 64-bit words and every lent
-- slice: r is the answer, and a prime marks the slice at exit.
use Rattle.std.specs.Prelude.{ℕ, ◌+◌, ◌*◌, ◌≤◌, ◌<◌, ◌≡◌, ◌↔◌, ◌⊎◌, List, length, get_or, take}
use Rattle.finite.specs.Lists.{tabulate}
use Rattle.body.specs.Body.{Body}
use Rattle.body.specs.Items.{Item, kind_of, item_rank, fewer, item_count, item_at, total_steps}
use Rattle.edges.specs.Rule.{Triple, AllEdges}
use Rattle.plan.specs.Sizes.{max_items, edge_words, text_bytes}
use Rattle.plan.specs.Layout.{plan_words}
use Rattle.plan.specs.Code.{code_fewer, code_rank, code_kind, code_subject}
use Rattle.reading.specs.Plan.{Plan}
use Rattle.reading.specs.Reading.{read_of, accepted as read_to}
use Rattle.reading.specs.Written.{Rising}
use Rattle.reading.specs.Laws.{Says}
use Rattle.graph.specs.declared.Number.{Number}
use Rattle.graph.specs.Table.{subject_of}
use Rattle.graph.specs.Answers.{plan_body}
use Rattle.writer.specs.Answer.{plan_text}

-- the plan is what reading leaves for some text
abbrev pub FromText : List ℕ → Type 0
FromText plan = (text : List ℕ) × (read_of text ≡ read_to (take plan_words plan))

-- the plan is too short, or the lent slice has fewer than n elements
abbrev pub ShortOf : ℕ → List ℕ → List ℕ → Type 0
ShortOf n plan slice = (length plan < plan_words) ⊎ (length slice < n)

-- both calls: each refusal is given exactly when its condition holds. Refused, the number is 0 and
-- the slice is unchanged. The slice keeps its length, and its elements from `end` on stay
pub record GraphGiven (n : ℕ) (plan slice : List ℕ) (r : Number) (slice' : List ℕ) (end : ℕ) : Type 0 where
  pub refusal_11 : (r.refusal ≡ 11) ↔ ShortOf n plan slice
  pub refusal_12 : (r.refusal ≡ 12) ↔ ((ShortOf n plan slice → ⊥) × (FromText plan → ⊥))
  pub refusal_0 : (r.refusal ≡ 0) ↔ ((ShortOf n plan slice → ⊥) × FromText plan)
  pub refused : (r.refusal ≡ 0 → ⊥) → (r.number ≡ 0) × (slice' ≡ slice)
  pub size : length slice' ≡ length slice
  pub behind : (i : ℕ) → end ≤ i → get_or slice' i 0 ≡ get_or slice i 0

-- a number of the table says an item of the paper: its rank (n / 512 % 16), its kind (n / 128 % 4),
-- its task or region (n % 128), and whether it is of a wrapped transfer (n / 8192)
pub record SaysItem (B : Body) (x : Item) (n : ℕ) : Type 0 where
  pub rank : code_rank n ≡ item_rank B x
  pub kind : code_kind n ≡ kind_of x
  pub subject : code_subject n ≡ subject_of x
  pub fewer_passes : code_fewer n ≡ fewer B x

-- accepted, the number is that of the plan's items, and entry a of the table says item a
pub record ItemsGiven (plan table : List ℕ) (r : Number) (table' : List ℕ) : Type 0 where
  pub graph : GraphGiven max_items plan table r table' r.number
  pub number : r.refusal ≡ 0 → r.number ≡ item_count (plan_body plan)
  pub entries : r.refusal ≡ 0 → (a : ℕ) → a < r.number →
      SaysItem (plan_body plan) (item_at (plan_body plan) a) (get_or table' a 0)

-- from, to and distance of edge k, as they stand in a list of numbers
abbrev pub edge_at : List ℕ → ℕ → Triple
edge_at list k = (get_or list (3 * k) 0, get_or list (3 * k + 1) 0, get_or list (3 * k + 2) 0)

-- accepted, the numbers are three for each edge: all edges of the rule, in order, and no others
pub record EdgesGiven (plan list : List ℕ) (r : Number) (list' : List ℕ) : Type 0 where
  pub graph : GraphGiven edge_words plan list r list' (3 * r.number)
  pub edges : r.refusal ≡ 0 → AllEdges (plan_body plan) (tabulate r.number (edge_at list'))

-- the plan is long enough, and what reading leaves for some text
abbrev pub GoodPlan : List ℕ → Type 0
GoodPlan plan = (plan_words ≤ length plan) × FromText plan

-- each refusal is given exactly when its condition holds, and then the number is 0. Accepted, it is
-- the total of steps
pub record TotalGiven (plan : List ℕ) (r : Number) : Type 0 where
  pub refusal_11 : (r.refusal ≡ 11) ↔ (length plan < plan_words)
  pub refusal_12 : (r.refusal ≡ 12) ↔ ((plan_words ≤ length plan) × (FromText plan → ⊥))
  pub refusal_0 : (r.refusal ≡ 0) ↔ GoodPlan plan
  pub refused : (r.refusal ≡ 0 → ⊥) → r.number ≡ 0
  pub total : r.refusal ≡ 0 → r.number ≡ total_steps (plan_body plan)

-- each refusal is given exactly when its condition holds and no earlier one does. Refused, the number
-- is 0 and the slice is unchanged. The slice keeps its length, and its bytes behind the text stay
pub record TextGiven (plan text : List ℕ) (r : Number) (text' : List ℕ) : Type 0 where
  pub refusal_11 : (r.refusal ≡ 11) ↔ (length plan < plan_words)
  pub refusal_12 : (r.refusal ≡ 12) ↔ ((plan_words ≤ length plan) × (FromText plan → ⊥))
  pub refusal_19 : (r.refusal ≡ 19) ↔ (GoodPlan plan × (length text < length (plan_text plan)))
  pub refusal_0 : (r.refusal ≡ 0) ↔ (GoodPlan plan × (length (plan_text plan) ≤ length text))
  pub refused : (r.refusal ≡ 0 → ⊥) → (r.number ≡ 0) × (text' ≡ text)
  pub size : length text' ≡ length text
  pub behind : (i : ℕ) → r.number ≤ i → get_or text' i 0 ≡ get_or text i 0
  -- accepted, the slice begins with the written text: it is read back to the plan, and its `start`
  -- records rise and have no value 0
  pub begins : r.refusal ≡ 0 → take r.number text' ≡ plan_text plan
  pub reads_back : r.refusal ≡ 0 → read_of (take r.number text') ≡ read_to (take plan_words plan)
  pub rises : r.refusal ≡ 0 → (P : Plan) × Says (take r.number text') P × Rising 0 P.starts
  -- a slice of so many bytes is long enough for every plan
  pub enough : text_bytes ≤ length text → r.refusal ≡ 19 → ⊥
