use mathlib.Core.Path.{sym, ap}
use borrow.Author.Rules.{rules}
use Rattle.finite.proofs.Puts.{added_same, room_same, collect_none, collect_fits, collect_more}
use Rattle.writer.specs.Parts.{access_line, access_line_at}
use Rattle.writer.proofs.lines.put_accesses.Goals as goal

pub loop-a-init : goal.loop-a-init
loop-a-init c = search (rules, collect_none)

pub put_access-end-requires : goal.put_access-end-requires
unfolding access_line_at
put_access-end-requires c =
    room_same (ap access_line (sym c.access.ensures))
    (collect_fits (access_line_at c.args.plan.now c.args.i) _ _ _ _ _ _ c.requires.2 c.loop-a.invariant (search rules))

pub loop-a-preserved : goal.loop-a-preserved
unfolding access_line_at
loop-a-preserved c =
    collect_more (access_line_at c.args.plan.now c.args.i) _ _ _ _ _ _ _ c.loop-a.invariant (added_same (ap access_line c.access.ensures) c.put_access-end.ensures)
