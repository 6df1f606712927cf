use Prim.Native.Nat.{◌<◌}
use mathlib.Core.Path.{refl}
use native.Mathlib.Omega.{arith}
use lib.ListN.{length-set}
use Rattle.plan.specs.Sizes.{first_held}
use Rattle.prepared.specs.Tables.{first_write}
use Rattle.engine.proofs.Rows.{place_read, place_small, written_none, written_more, written_done}
use Rattle.engine.proofs.finishes.write_word.Goals as goal
use Rattle.engine.proofs.finishes.write_word.Goals.{After-from}

pub loop-k-init : goal.loop-k-init
loop-k-init c = (
  refl,
  place_read c.args.tables.now first_write c.args.a 8 _ c.from-count.ensures,
  omega arith,
  refl,
  written_none c.args.tables.now first_write c.args.a c.args.word c.args.values.now,
)

pub bounds-tables-row-in-loop-k : goal.bounds-tables-row-in-loop-k
bounds-tables-row-in-loop-k c =
    omega (arith, c.requires.2.few)

-- the place that a turn writes
below : (c : After-from) → c.from.result < first_held
below c =
    let l = c.loop-k in
    place_small c.args.tables.now first_write c.args.a c.requires.2 l.k _ (omega (arith, l.invariant.1, c.loop-k-test.true)) c.from.ensures

pub offset_bounds-values-from : goal.offset_bounds-values-from
offset_bounds-values-from c = omega (arith, below (goal.at.offset_bounds-values-from c).After-from)

pub bounds-values-from : goal.bounds-values-from
bounds-values-from c =
    let l = c.loop-k in
    omega (arith, l.invariant.3, c.requires.3, below (goal.at.bounds-values-from c).After-from)

pub loop-k-preserved : goal.loop-k-preserved
loop-k-preserved c =
    let l = c.loop-k in
    let t = c.args.tables.now in (
      l.invariant.0,
      l.invariant.1,
      omega (arith, c.loop-k-test.true),
      simp length-set l.invariant.3,
      written_more t first_write c.args.a c.args.word c.args.values.now l.values l.k _ l.invariant.4
          (place_read t first_write c.args.a l.k _ c.from.ensures)
          (omega (arith, c.requires.3, below (goal.at.loop-k-preserved c).After-from)),
    )

pub returns : goal.returns
returns c =
    let l = c.loop-k in
    written_done c.args.tables.now first_write c.args.a c.args.word c.args.values.now _ l.k l.invariant.4
    (omega (arith, l.invariant.1, l.invariant.2, c.loop-k-test.false))
