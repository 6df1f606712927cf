use mathlib.Core.Path.{◌≡◌}
use Rattle.transfers.specs.Search.{noted_tasks, marked_tasks}
use Rattle.transfers.specs.State.{flags}
use Rattle.transfers.proofs.Search.visit_tasks.Given as goal

abbrev pub invariant-loop-t : goal.invariant-loop-t
invariant-loop-t l =
    (l.self.masks.ghost_name ≡ l.initial.self.masks.ghost_name) × (l.self.last.now ≡ noted_tasks l.plan l.t l.initial.self.last.now) × (flags l.self ≡ marked_tasks l.plan l.initial.self.last.now l.t (flags l.initial.self))
