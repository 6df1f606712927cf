use borrow.Author.Rules.{rules}
use Rattle.finite.proofs.Puts.{collect_none}
use Rattle.walk.proofs.Listing.{row_fits, row_more, row_other, row_done}
use Rattle.walk.proofs.list.put_row.Goals as goal
use Rattle.walk.proofs.list.put_row.Goals.{then-marks-b-eq1, else-marks-b-eq1}

pub loop-b-init : goal.loop-b-init
loop-b-init c = search (rules, collect_none)

pub put_edge-end-requires : goal.put_edge-end-requires
put_edge-end-requires c = search (rules, row_fits)

pub returns : goal.returns
returns c = search (rules, row_done)

pub loop-b-preserved : goal.loop-b-preserved
loop-b-preserved c =
    elim c.if-marks-b-eq1.branch [
      | then-marks-b-eq1 w ↦ rw (w.edges-is, w.end-is) (search (rules, row_more))
      | else-marks-b-eq1 w ↦ rw (w.edges-is, w.end-is) (search (rules, row_other))
    ]
