use Prim.Native.Nat.{ℕ, ◌+◌, ◌-◌}
use mathlib.Core.Path.{◌≡◌, ◌∙◌, ap}
use native.Mathlib.Omega.{arith}
use lib.ListN.{get_or}
use Rattle.finite.proofs.Below.{all_none}
use Rattle.prepared.specs.Tables.{first_target}
use Rattle.ranges.proofs.Stopping.{below_more, below_stop}
use Rattle.ranges.proofs.are_items.Goals as goal
use Rattle.ranges.proofs.are_items.Goals.{In-loop-j}

pub loop-j-init : goal.loop-j-init
loop-j-init c =
    let e : c.args.from - c.args.from ≡ 0 = omega arith in
    (omega arith, rw e (all_none _))

-- target j, counted from the first
here : (c : In-loop-j) → c.loop-j.j ≡ c.args.from + (c.loop-j.j - c.args.from)
here c = omega (arith, c.loop-j.auto.j)

pub returns-then-items-from : goal.returns-then-items-from
returns-then-items-from c =
    let e = here (goal.at.returns-then-items-from c).In-loop-j in
    below_stop (λ k. get_or c.args.tables.now (first_target + (c.args.from + k)) 0) c.args.items (c.loop-j.j - c.args.from) _
    (c.from.ensures ∙ ap (λ (x : ℕ). get_or c.args.tables.now (first_target + x) 0) e) c.if-items-from.true _ (omega (arith, c.loop-j-test.true, c.loop-j.auto.j))

pub loop-j-preserved : goal.loop-j-preserved
loop-j-preserved c =
    let e = here (goal.at.loop-j-preserved c).In-loop-j in
    let n : c.loop-j.j + 1 - c.args.from ≡ c.loop-j.j - c.args.from + 1 = omega (arith, c.loop-j.auto.j) in (
      omega (arith, c.loop-j-test.true, c.loop-j.auto.j),
      rw n
          (below_more (λ k. get_or c.args.tables.now (first_target + (c.args.from + k)) 0) c.args.items (c.loop-j.j - c.args.from) _
          (c.from.ensures ∙ ap (λ (x : ℕ). get_or c.args.tables.now (first_target + x) 0) e) c.if-items-from.false c.loop-j.invariant.1),
    )
