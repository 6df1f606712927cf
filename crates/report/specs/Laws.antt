-- What the lines of a text say (proved in proofs/Theorems.antt).
use Rattle.std.specs.Prelude.{ℕ, ◌≤◌, ◌≡◌, List, length}
use Rattle.body.specs.Items.{total_steps}
use Rattle.edges.specs.Rule.{AllEdges}
use Rattle.edges.specs.EdgeList.{edge_list}
use Rattle.plan.specs.Layout.{body_of}
use Rattle.reading.specs.Reading.{read_of, accepted as read_to}
use Rattle.steps.specs.Calls.{Call, is_step, Lent, play, accepted}
use Rattle.taskiter.specs.Run.{Run}
use Rattle.report.specs.Report.{open_state, steps_from, most_steps, lines_of, report_bytes}

-- the words w of an accepted text: its edges are all edges by the rule, and its steps l are those of
-- a run from the state s to the end, in the order of the run program
pub record Lined (w : List ℕ) (s : Lent) (l : List Call) : Type 0 where
  pub edges : AllEdges (body_of w) (edge_list (body_of w))
  pub run : Run w s (play w s l) (accepted w is_step s l)
  pub steps : run.calls ≡ l

pub record Laws : Type 0 where
  -- what the lines of an accepted text rest on
  pub accepted : (text w : List ℕ) → read_of text ≡ read_to w →
      let s = open_state w in
      let l = steps_from w most_steps s in
      Lined w s l
  -- `most_steps` does not show: every bound that is enough for the plan gives the same steps. Else the
  -- lines name the limit on passes through reading and the form of a plan alone, of which `Kept` speaks
  pub any_bound : (text w : List ℕ) (bound : ℕ) → read_of text ≡ read_to w → total_steps (body_of w) ≤ bound →
      steps_from w bound (open_state w) ≡ steps_from w most_steps (open_state w)
  -- the room is enough for every text
  pub room : (text : List ℕ) → length (lines_of text) ≤ report_bytes
