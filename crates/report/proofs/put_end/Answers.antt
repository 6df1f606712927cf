use native.Mathlib.Omega.{arith}
use Rattle.finite.proofs.Puts.{room_behind, put_behind}
use Rattle.lines.specs.Lines.{steps_line}
use Rattle.lines.specs.Tables.{word_lines}
use Rattle.report.proofs.Joined.{part_start, room_first, sum_most}
use Rattle.report.proofs.put_end.Goals as goal

pub put_steps-at-requires : goal.put_steps-at-requires
put_steps-at-requires c =
    room_first (steps_line c.args.steps) (word_lines c.args.results.now c.args.regions) c.args.out.now c.requires.1

pub slice_bounds-put_values-count : goal.slice_bounds-put_values-count
slice_bounds-put_values-count c = part_start _ _ _ _ c.put_steps-at.ensures

pub put_values-requires : goal.put_values-requires
put_values-requires c =
    (c.requires.0, room_behind _ (word_lines c.args.results.now c.args.regions) _ _ _ c.put_steps-at.ensures c.requires.1)

pub overflow_add-result : goal.overflow_add-result
overflow_add-result c =
    omega (arith, sum_most _ _ c.args.out.now c.requires.1 _ _ c.put_steps-at.ensures _ _ c.put_values.ensures)

pub returns : goal.returns
returns c =
    put_behind _ _ _ _ _ c.put_steps-at.ensures _ _ c.put_values.ensures
