use mathlib.Core.Path.{◌≡◌}
use Rattle.transfers.specs.Search.{Closed}
use Rattle.transfers.proofs.Search.close_regions.Given as goal

abbrev pub invariant-loop-closed : goal.invariant-loop-closed
invariant-loop-closed l =
    (l.self.masks.ghost_name ≡ l.initial.self.masks.ghost_name) × (l.self.last.now ≡ l.initial.self.last.now) × (l.self.ahead.now ≡ l.initial.self.ahead.now) × Closed l.plan l.closed l.self.masks.now l.wrapped l.self.total
