use Prim.Native.Nat.{◌*◌, ◌≤◌}
use mathlib.Core.Path.{ap₂}
use native.Mathlib.Omega.{arith}
use Rattle.body.specs.Body.{first_slot}
use Rattle.plan.specs.Layout.{body_of}
use Rattle.graph.proofs.Small.{plan_fits}
use Rattle.values.proofs.openings.copy_count.Goals as goal
use Rattle.values.proofs.openings.copy_count.Goals.{Start}

room : (c : Start) → (body_of c.args.plan.now).ranks * (body_of c.args.plan.now).regions ≤ first_slot
room c = (plan_fits c.args.plan.now c.requires.formed).room

pub overflow_mul-result : goal.overflow_mul-result
overflow_mul-result c = omega (arith, room (goal.at.overflow_mul-result c).Start, ap₂ ◌*◌ c.ranks.ensures c.regions.ensures)

pub returns : goal.returns
returns c =
    let e = ap₂ ◌*◌ c.ranks.ensures c.regions.ensures in
    (e, omega (arith, room (goal.at.returns c).Start, e))
