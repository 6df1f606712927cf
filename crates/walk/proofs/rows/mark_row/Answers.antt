use native.Mathlib.Omega.{arith}
use borrow.Author.Rules.{rules}
use lib.ListN.{length-set}
use Rattle.plan.specs.Sizes.{max_items}
use Rattle.walk.proofs.RowMarks.{zeros_length, row_receive, row_partner, row_marks}
use Rattle.walk.proofs.rows.mark_row.Goals as goal

pub bounds-marks-a : goal.bounds-marks-a
bounds-marks-a c =
    omega (arith, c.mark_copies.ensures.room, zeros_length max_items _ c.requires.1)

pub partner_of-requires : goal.partner_of-requires
partner_of-requires c =
    let G = c.args.items.now.drawn in
    let pre = c.requires in
    (search rules, row_receive _ _ _ G _ pre.0 _ _ c.from.ensures c.item_kind-kind.ensures)

pub bounds-marks-partner_of : goal.bounds-marks-partner_of
bounds-marks-partner_of c =
    let G = c.args.items.now.drawn in
    let pre = c.requires in
    simp length-set (omega (
      arith,
      c.mark_copies.ensures.room,
      zeros_length max_items _ pre.1,
      row_partner _ _ _ G _ pre.0 _ _ c.from.ensures c.item_kind-kind.ensures _ c.partner_of.ensures,
    ))

pub returns : goal.returns
returns c =
    let G = c.args.items.now.drawn in
    let pre = c.requires in
    row_marks _ _ _ G _ pre.0 _ _ c.from.ensures c.item_kind-kind.ensures
    _ _ _ _ pre.1 c.mark_copies.ensures c.partner_of.ensures
