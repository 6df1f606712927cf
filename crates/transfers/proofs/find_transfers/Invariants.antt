use Prim.Native.Nat.{◌≤◌}
use mathlib.Core.Path.{◌≡◌}
use lib.ListN.{length}
use Rattle.plan.specs.Limits.{max_tasks}
use Rattle.transfers.specs.Search.{Rows}
use Rattle.transfers.proofs.find_transfers.Given as goal

abbrev pub invariant-loop-t : goal.invariant-loop-t
invariant-loop-t l = (l.tasks ≤ max_tasks) × (length l.table ≡ max_tasks) × Rows l.plan l.t l.table
