use Prim.Native.Nat.{◌*◌, ◌≤◌}
use mathlib.Core.Path.{◌≡◌}
use Rattle.finite.specs.Below.{sum_below}
use Rattle.body.specs.Items.{item_passes}
use Rattle.plan.specs.Limits.{max_passes}
use Rattle.plan.specs.Layout.{body_of}
use Rattle.calls.proofs.totals.total_steps.Given as goal

abbrev pub invariant-loop-a : goal.invariant-loop-a
invariant-loop-a l =
    (l.steps ≤ 2 * max_passes * l.a) × (l.steps ≡ sum_below l.a (λ a'. 2 * item_passes (body_of l.items.plan.now) a'))
