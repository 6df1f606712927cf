-- What the run program prints for the paper's example and for the text of card 2: items and edges
-- computed, steps and values by the laws of the lines.
use Prim.Native.Nat.{ℕ}
use mathlib.Core.Path.{◌≡◌, refl, ◌∙◌, ap, ap₂}
use mathlib.Core.List.{List, ◌++◌, flat_map}
use mathlib.Core.Option.{or_else}
use native.Mathlib.Omega.{arith}
use Rattle.finite.specs.Below.{any_below}
use Rattle.finite.specs.Lists.{mem, gather, range, collect}
use Rattle.text.specs.Ascii.{ascii}
use Rattle.body.specs.Transfers.{last_before, source, wanted, transferred, transfers_of}
use Rattle.body.specs.Loop.{loop_final}
use Rattle.body.specs.Items.{item_list, item_at, total_steps}
use Rattle.edges.specs.Touch.{touch, touch_on}
use Rattle.edges.specs.Tests.{written, written_between as between, crossed, paired, copy_edge, edge_test}
use Rattle.edges.specs.EdgeList.{edges_from, edge_list}
use Rattle.plan.specs.Layout.{body_of}
use Rattle.reading.specs.Reading.{read_of, accepted as read_to}
use Rattle.graph.specs.Answers.{plan_body}
use Rattle.steps.specs.Answers.{result_of}
use Rattle.steps.specs.Calls.{Call, is_step, Lent, play, accepted}
use Rattle.lines.specs.Lines.{field, kind_field, item_line, edge_line, steps_line, value_line}
use Rattle.report.specs.Report.{open_state, steps_from, most_steps, graph_lines, end_lines, plan_lines, reading_lines, lines_of}
use Rattle.report.specs.Laws.{Lined}
use Rattle.report.proofs.Theorems.{laws}
use Rattle.tried.specs.Table.{example, example_words, ahead, ahead_words}
use Rattle.tried.proofs.Read.{example_read, ahead_read}
use Rattle.tried.proofs.Cases.{two_ranks_list}
use Rattle.tried.proofs.Drawn.{example_total, final_two, ahead_total, ahead_final}

graph_lines_lem : graph_lines (body_of (example_words 2)) ≡
    ascii "item 0 task 0\nitem 1 send 0\nitem 2 receive 1\nitem 3 task 1\n"
    ++ (ascii "edge 0 0 1\nedge 0 1 0\nedge 1 0 1\nedge 1 1 1\nedge 1 2 0\nedge 2 1 1\nedge 2 2 1\nedge 2 3 0\n"
    ++ ascii "edge 3 2 1\nedge 3 3 1\n")
unfolding graph_lines collect item_line edge_line field kind_field item_list item_at flat_map range gather transfers_of transferred wanted any_below source or_else last_before mem
graph_lines_lem = rw two_ranks_list

-- of a plan with two regions: its steps and the results after them
two_values : (plan : List ℕ) (s : Lent) (l : List Call) (n v u : ℕ) → (plan_body plan).regions ≡ 2 → accepted plan is_step s l ≡ n →
    (result_of plan (play plan s l).counts (play plan s l).values 0).word ≡ v →
    (result_of plan (play plan s l).counts (play plan s l).values 1).word ≡ u →
    end_lines plan s l ≡ steps_line n ++ (value_line 0 v ++ value_line 1 u)
unfolding end_lines collect
two_values plan s l n v u regions steps first second = rw (regions, steps, first, second)

-- of an accepted text with two regions, by its total and the final numbers of the loop
module _ (text w : List ℕ) (read : read_of text ≡ read_to w) where
  abbrev s : Lent
  s = open_state w

  abbrev l : List Call
  l = steps_from w most_steps s

  lined : Lined w s l
  lined = laws.accepted text w read

  end_lines_lem : (n v u : ℕ) → (plan_body w).regions ≡ 2 → total_steps (plan_body w) ≡ n → loop_final (plan_body w) 0 ≡ v → loop_final (plan_body w) 1 ≡ u →
      end_lines w s l ≡ steps_line n ++ (value_line 0 v ++ value_line 1 u)
  end_lines_lem n v u regions total first second =
      two_values w s l n v u regions (lined.run.total ∙ total)
      ((lined.run.results 0 (omega (arith, regions))).1 ∙ first) ((lined.run.results 1 (omega (arith, regions))).1 ∙ second)

pub printed : lines_of example ≡
    ascii "item 0 task 0\nitem 1 send 0\nitem 2 receive 1\nitem 3 task 1\n"
    ++ (ascii "edge 0 0 1\nedge 0 1 0\nedge 1 0 1\nedge 1 1 1\nedge 1 2 0\nedge 2 1 1\nedge 2 2 1\nedge 2 3 0\n"
    ++ ascii "edge 3 2 1\nedge 3 3 1\nsteps 16\nvalue 0 7\nvalue 1 13\n")
unfolding lines_of plan_lines steps_line value_line field
printed =
    ap reading_lines example_read
    ∙ ap₂ ◌++◌ graph_lines_lem (end_lines_lem example (example_words 2) example_read 16 7 13 refl (example_total 2) final_two.0 final_two.1)

-- card 2
ahead_graph : graph_lines (body_of ahead_words) ≡
    ascii "item 0 task 0\nitem 1 task 1\nitem 2 send 1\nitem 3 receive 0\n"
    ++ (ascii "edge 0 0 1\nedge 0 3 0\nedge 1 1 1\nedge 1 2 0\nedge 2 1 1\nedge 2 2 1\nedge 2 3 0\nedge 3 0 1\n"
    ++ ascii "edge 3 2 1\nedge 3 3 1\n")
unfolding graph_lines collect item_line edge_line field kind_field item_list item_at flat_map range gather transfers_of transferred wanted any_below source or_else last_before mem touch touch_on written between crossed paired copy_edge edge_test edges_from edge_list
ahead_graph = refl

pub ahead_printed : lines_of ahead ≡
    ascii "item 0 task 0\nitem 1 task 1\nitem 2 send 1\nitem 3 receive 0\n"
    ++ (ascii "edge 0 0 1\nedge 0 3 0\nedge 1 1 1\nedge 1 2 0\nedge 2 1 1\nedge 2 2 1\nedge 2 3 0\nedge 3 0 1\n"
    ++ ascii "edge 3 2 1\nedge 3 3 1\nsteps 12\nvalue 0 7\nvalue 1 11\n")
unfolding lines_of plan_lines steps_line value_line field
ahead_printed =
    ap reading_lines ahead_read ∙ ap₂ ◌++◌ ahead_graph (end_lines_lem ahead ahead_words ahead_read 12 7 11 refl ahead_total ahead_final.0 ahead_final.1)
