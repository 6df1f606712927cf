use mathlib.Core.Path.{◌≡◌}
use lib.ListN.{length}
use Rattle.plan.specs.Limits.{max_regions}
use Rattle.transfers.specs.Search.{no_writers}
use Rattle.transfers.proofs.name_unwritten.Given as goal

abbrev pub invariant-loop-g : goal.invariant-loop-g
invariant-loop-g l = (length l.last ≡ max_regions) × (l.last ≡ no_writers l.g)
