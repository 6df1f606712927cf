use Prim.Native.Nat.{◌+◌, ◌≤◌}
use mathlib.Core.Path.{◌≡◌, refl, sym, ◌∙◌}
use mathlib.Core.Bool.{Bool, true, false, cond}
use mir.Val.{bool_byte}
use native.Mathlib.Omega.{arith}
use borrow.Author.Rules.{rules}
use lib.ListN.{length}
use lib.Seq.{length-take-le}
use Rattle.text.proofs.LineLaws.{line_found}
use Rattle.plan.proofs.Refusals.{number_above}
use Rattle.steps.specs.Calls.{lent}
use Rattle.checker.proofs.Lining.{lines_unended, lines_stop, lines_more, lines_done}
use Rattle.checker.proofs.check_lines.Goals as goal
use Rattle.checker.proofs.check_lines.Goals.{Else-size-eq0}

as_number : (b : Bool) → bool_byte b ≡ cond b 1 0
as_number true = refl
as_number false = refl

-- a line lies within the journal
inside : (c : Else-size-eq0) →
    (1 ≤ length c.line_from-line.result.now) × (c.loop-at.at + length c.line_from-line.result.now ≤ length c.args.journal.now)
inside c =
    let size : 1 ≤ length c.line_from-line.result.now = omega (arith, c.if-size-eq0.false) in
    (size, (line_found _ _ _ c.line_from-line.ensures size).1)

pub loop-at-init : goal.loop-at-init
loop-at-init c = (refl, search rules, search rules, refl, refl)

pub returns-then-size-eq0 : goal.returns-then-size-eq0
returns-then-size-eq0 c =
    lines_unended c.args.plan.now c.args.tables.now c.args.journal.now _ _ _ _ c.loop-at.invariant.0 _ c.line_from-line.ensures c.loop-at-test.true c.if-size-eq0.true _ c.refused_behind.ensures

pub slice_bounds-entry_of-length : goal.slice_bounds-entry_of-length
slice_bounds-entry_of-length c = sym (length-take-le _ _ (omega arith))

pub returns-in-Err : goal.returns-in-Err
returns-in-Err c =
    lines_stop c.args.plan.now c.args.tables.now c.args.journal.now _ (lent c.loop-at.counts c.loop-at.values) c.loop-at.at c.loop-at.held c.loop-at.invariant.0 _ c.line_from-line.ensures (inside (goal.at.returns-in-Err c).Else-size-eq0).0 _ _ _ c.entry_of-entry.ensures c.in-Err.ensures (number_above _) _
    c.refused_behind-in-Err.ensures

pub overflow_add-at : goal.overflow_add-at
overflow_add-at c = omega (arith, (inside (goal.at.overflow_add-at c).Else-size-eq0).1)

pub loop-at-smaller : goal.loop-at-smaller
loop-at-smaller c = omega (arith, inside (goal.at.loop-at-smaller c).Else-size-eq0)

pub loop-at-preserved : goal.loop-at-preserved
loop-at-preserved c =
    let k = inside (goal.at.loop-at-preserved c).Else-size-eq0 in
    let r = c.in_default.ensures.room in (
      lines_more c.args.plan.now c.args.tables.now c.args.journal.now _ _ _ _ c.loop-at.invariant.0 _ c.line_from-line.ensures k.0 _ _ _ c.entry_of-entry.ensures
          c.in_default.ensures refl,
      k.1,
      omega (arith, k.0, c.loop-at.invariant.2),
      r.counts ∙ c.loop-at.invariant.3,
      r.values ∙ c.loop-at.invariant.4,
    )

pub returns : goal.returns
returns c =
    lines_done c.args.plan.now c.args.tables.now c.args.journal.now _ _ _ _ _ c.loop-at.invariant.0 c.loop-at-test.false _ _ _ c.args.items.now.drawn c.requires.1
    _ c.is_complete.ensures _ (c.from.ensures ∙ as_number _)
