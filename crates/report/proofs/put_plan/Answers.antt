use Prim.Native.Nat.{ℕ, ◌*◌, ◌≤◌}
use mathlib.Core.Path.{◌≡◌, refl}
use mathlib.Core.List.{List, ◌++◌}
use lib.ListN.{length, length-replicate}
use Rattle.finite.specs.Put.{Room}
use Rattle.finite.proofs.Puts.{room_behind, put_behind}
use Rattle.plan.specs.Layout.{regions_of}
use Rattle.plan.specs.Sizes.{max_items, edge_words, result_words}
use Rattle.lines.specs.Lines.{steps_line}
use Rattle.lines.specs.Tables.{table_lines, list_lines, word_lines}
use Rattle.report.specs.Report.{plan_lines}
use Rattle.report.proofs.Shown.{lines_shown}
use Rattle.report.proofs.Joined.{put_as, part_start, room_first}
use Rattle.report.proofs.put_plan.Goals as goal
use Rattle.report.proofs.put_plan.Goals.{After-run-ran}

-- the lines of the graph and of the end, once the plan has run
abbrev graph-bytes : After-run-ran → List ℕ
graph-bytes c =
    let run = c.run-ran in
    table_lines run.new.table c.run-ran.result.items ++ list_lines run.new.list c.run-ran.result.edges

abbrev end-bytes : After-run-ran → List ℕ
end-bytes c =
    let run = c.run-ran in
    steps_line run.result.steps ++ word_lines run.new.results (regions_of c.args.plan.now)

shown : (c : After-run-ran) →
    (c.run-ran.result.items ≤ length c.run-ran.new.table) × (3 * c.run-ran.result.edges ≤ length c.run-ran.new.list)
    × (regions_of c.args.plan.now ≤ length c.run-ran.new.results) × Room (graph-bytes c ++ end-bytes c) c.args.out.now
    × (graph-bytes c ++ end-bytes c ≡ plan_lines c.args.plan.now)
shown c =
    lines_shown c.args.plan.now c.requires.0 c.requires.1 _ _ _ (length-replicate {A = ℕ} max_items 0) (length-replicate {A = ℕ} edge_words 0) (length-replicate {A = ℕ} result_words 0)
    _ _ _ _ _ _ c.run-ran.ensures _ _ _ refl refl refl c.args.out.now c.requires.2

pub put_graph-at-requires : goal.put_graph-at-requires
put_graph-at-requires c =
    let h = shown (goal.at.put_graph-at-requires c).After-run-ran in
    (h.0, h.1, room_first (graph-bytes (goal.at.put_graph-at-requires c).After-run-ran) (end-bytes (goal.at.put_graph-at-requires c).After-run-ran) c.args.out.now h.3)

pub slice_bounds-put_end-count : goal.slice_bounds-put_end-count
slice_bounds-put_end-count c = part_start _ _ _ _ c.put_graph-at.ensures

pub put_end-requires : goal.put_end-requires
put_end-requires c =
    ((shown (goal.at.put_end-requires c).After-run-ran).2, room_behind (graph-bytes (goal.at.put_end-requires c).After-run-ran) (end-bytes (goal.at.put_end-requires c).After-run-ran) _ _ _ c.put_graph-at.ensures (shown (goal.at.put_end-requires c).After-run-ran).3)

pub returns : goal.returns
returns c =
    put_as (shown (goal.at.returns c).After-run-ran).4 (put_behind (graph-bytes (goal.at.returns c).After-run-ran) (end-bytes (goal.at.returns c).After-run-ran) _ _ _ c.put_graph-at.ensures _ _ c.put_end.ensures)
