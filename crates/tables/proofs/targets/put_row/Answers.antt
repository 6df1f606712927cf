use native.Mathlib.Omega.{arith}
use borrow.Author.Rules.{rules}
use Rattle.tables.proofs.Targeted.{row_none, row_fits, row_few, row_more, row_skip, row_done}
use Rattle.tables.proofs.targets.put_row.Goals as goal

pub loop-b-init : goal.loop-b-init
loop-b-init c = search (rules, row_none)

pub put_target-end-requires : goal.put_target-end-requires
put_target-end-requires c =
    let next = c.in-Some.ensures in
    let row = row_skip _ _ _ _ c.loop-b.passed _ _ _ c.loop-b.invariant.1 _ _ next.0 in (
      row_fits _ _ _ _ c.in-Some.b _ _ _ row _ next.1 next.2 c.requires.0,
      omega (arith, next.1, c.requires.1),
      omega (arith, next.1, c.requires.1, c.requires.2.size, row.counted.size),
      row_few _ _ _ _ c.in-Some.b _ _ _ row c.requires.2,
    )

pub loop-b-preserved : goal.loop-b-preserved
loop-b-preserved c =
    let next = c.in-Some.ensures in
    let row = row_skip _ _ _ _ c.loop-b.passed _ _ _ c.loop-b.invariant.1 _ _ next.0 in
    let put = c.put_target-end.ensures in (
      omega (arith, next.1),
      row_more _ _ _ _ c.in-Some.b _ _ _ row _ _ _ next.2 (omega (arith, next.1, c.requires.1, c.requires.2.size)) put.0 put.1,
    )

pub returns : goal.returns
returns c =
    let row = row_skip _ _ _ _ c.loop-b.passed _ _ _ c.loop-b.invariant.1 _ _ c.in_default.ensures in
    row_done _ _ _ _ _ _ _ _ row _ (omega arith) (omega arith)
