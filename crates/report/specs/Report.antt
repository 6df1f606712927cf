-- What the run program prints for a text (paper 01, "The run program"), as bytes.
use Rattle.std.specs.Prelude.{ℕ, zero, suc, ◌+◌, ◌*◌, ◌≤◌, ◌<◌, ◌≡◌, Bool, cond, length, drop, replicate}
use mathlib.Core.List.{List, [], ◌∷◌, ◌++◌, flat_map}
use Rattle.std.proofs.Math.Option.{Option, none, some, map, or_else}
use Rattle.finite.specs.Lists.{collect}
use Rattle.body.specs.Body.{Body}
use Rattle.body.specs.Items.{kind_of, item_rank, item_count, item_at}
use Rattle.edges.specs.EdgeList.{edge_list}
use Rattle.plan.specs.Limits.{max_passes, max_regions}
use Rattle.plan.specs.Sizes.{max_edges, max_items, count_words, value_words}
use Rattle.plan.specs.Layout.{body_of}
use Rattle.reading.specs.Reading.{Reading, accepted as read_to, refused, read_of}
use Rattle.graph.specs.declared.Number.{Number}
use Rattle.graph.specs.Answers.{plan_body}
use Rattle.steps.specs.Answers.{open_of, result_of}
use Rattle.steps.specs.Calls.{Call, start, finish, is_step, Lent, lent_by}
use Rattle.steps.specs.Calls.{call, is_accepted, play, accepted}
use Rattle.lines.specs.Lines.{item_line, edge_line, steps_line, value_line, refused_line}

-- the lowest number below n that t picks, if there is one
unfoldable pub lowest : ℕ → (ℕ → Bool) → Option ℕ
lowest zero t = none
lowest (suc n) t = or_else (lowest n t) (cond (t n) (some n) none)

module _ (plan : List ℕ) where
  -- the lowest item whose call is accepted in the state s
  abbrev pub lowest_of : Lent → (ℕ → Call) → Option ℕ
  lowest_of s call_on = lowest (item_count (plan_body plan)) (λ a. is_accepted plan s (call_on a))

  -- the step that comes next: the lowest item's finish or, with none accepted, the lowest's start
  unfoldable pub next_step : Lent → Option Call
  next_step s = or_else (map finish (lowest_of s finish)) (map start (lowest_of s start))

  -- a step, if there is one, and what follows it
  abbrev pub followed : Lent → (Lent → List Call) → Option Call → List Call
  followed s rest none = []
  followed s rest (some c) = c ∷ rest (lent_by (call plan s c))

  -- the steps from the state s, each the one that comes next, until none does; at most n
  unfoldable pub steps_from : ℕ → Lent → List Call
  steps_from zero s = []
  steps_from (suc n) s = followed s (steps_from n) (next_step s)

  -- the state that the opening leaves of lent zeros
  abbrev pub open_state : Lent
  open_state = lent_by (open_of plan (replicate count_words 0) (replicate value_words 0))

-- the items by number, and the edges in their order
unfoldable pub graph_lines : Body → List ℕ
graph_lines B =
    collect (item_count B) (λ a. item_line a (kind_of (item_at B a)) (item_rank B (item_at B a)))
    ++ flat_map edge_line (edge_list B)

-- of the calls l from the state s: how many steps are accepted, and after l the result of each
-- region by number
unfoldable pub end_lines : List ℕ → Lent → List Call → List ℕ
end_lines plan s l =
    let t = play plan s l in
    steps_line (accepted plan is_step s l)
    ++ collect (plan_body plan).regions
    (λ g. value_line g (result_of plan t.counts t.values g).word)

-- no plan takes more steps: two for each pass of each item (Laws.accepted)
abbrev pub most_steps : ℕ
most_steps = 2 * (max_passes * max_items)

-- the lines of a plan with the words w
unfoldable pub plan_lines : List ℕ → List ℕ
plan_lines w =
    let s = open_state w in graph_lines (body_of w) ++ end_lines w s (steps_from w most_steps s)

-- the lines of a text, by what reading it answers
abbrev pub reading_lines : Reading → List ℕ
reading_lines (read_to w) = plan_lines w
reading_lines (refused n line) = refused_line n line

-- the lines of a text
unfoldable pub lines_of : List ℕ → List ℕ
lines_of text = reading_lines (read_of text)

-- room for the lines of every text: of an item at most 20 bytes, of an edge 15, of the steps 27, of
-- a value 31
abbrev pub report_bytes : ℕ
report_bytes = max_items * 20 + (max_edges * 15 + (27 + max_regions * 31))

-- the text, the lent output at entry, the answer, and the output at exit
pub record Reports (text out : List ℕ) (r : Number) (out' : List ℕ) : Type 0 where
  -- an output too short is refused with nothing changed
  pub short : length out < report_bytes → (r ≡ record { refusal = 11; number = 0 }) × (out' ≡ out)
  -- else it begins with the lines, and what lies behind them is as it was; the answer is how many
  -- bytes they are
  pub answer : report_bytes ≤ length out → r ≡ record { refusal = 0; number = length (lines_of text) }
  pub lines : report_bytes ≤ length out → out' ≡ lines_of text ++ drop (length (lines_of text)) out
