use mathlib.Core.Path.{◌≡◌}
use Rattle.transfers.specs.Search.{noted, marked}
use Rattle.transfers.specs.State.{flags}
use Rattle.transfers.proofs.Search.visit_row.Given as goal

abbrev pub invariant-loop-a : goal.invariant-loop-a
invariant-loop-a l =
    (l.self.masks.ghost_name ≡ l.initial.self.masks.ghost_name) × (l.self.last.now ≡ noted l.row l.base l.a l.initial.self.last.now) × (flags l.self ≡ marked l.row l.initial.self.last.now l.rank l.a (flags l.initial.self))
