use mathlib.Core.Path.{◌≡◌}
use lib.ListN.{length, take}
use Rattle.finite.specs.Lists.{tabulate}
use Rattle.plan.specs.Limits.{max_accesses}
use Rattle.plan.specs.Layout.{access_at}
use Rattle.transfers.proofs.row_of.Given as goal

abbrev pub invariant-loop-a : goal.invariant-loop-a
invariant-loop-a l = (length l.row ≡ max_accesses) × (take l.a l.row ≡ tabulate l.a (access_at l.plan l.t))
