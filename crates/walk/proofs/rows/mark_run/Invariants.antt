use mathlib.Core.Path.{◌≡◌}
use mathlib.Core.Bool.{false}
use lib.ListN.{length}
use Rattle.edges.specs.Touch.{touch_on}
use Rattle.plan.specs.Layout.{body_of}
use Rattle.walk.specs.Rows.{Places, Shut, Passes}
use Rattle.walk.proofs.Runs.{first_of}
use Rattle.walk.proofs.rows.mark_run.Given as goal

abbrev pub invariant-loop-k : goal.invariant-loop-k
invariant-loop-k l =
    Places l.places × (l.left ≡ false → Shut l.places) × Passes (length l.items.codes.now) (touch_on (body_of l.items.plan.now) l.q) (first_of l.lo l.count l.back l.k) l.k l.back l.initial.places l.places l.initial.marks l.marks
