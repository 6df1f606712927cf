use Prim.Native.Nat.{◌+◌}
use mathlib.Core.Path.{◌≡◌}
use lib.ListN.{length, take}
use Rattle.finite.specs.Lists.{tabulate, collect}
use Rattle.finite.specs.Put.{Added}
use Rattle.plan.specs.Sizes.{max_items}
use Rattle.plan.specs.Layout.{body_of}
use Rattle.prepared.specs.Tables.{targets_of, targets_before}
use Rattle.tables.specs.Targets.{SourcesBefore}
use Rattle.tables.proofs.targets.list_targets.Given as goal

abbrev pub invariant-loop-a : goal.invariant-loop-a
invariant-loop-a l =
    Added (collect l.a (targets_of (body_of l.items.plan.now))) 0 l.initial.targets l.at l.targets
    × (length l.starts ≡ max_items + 1)
    × (take l.a l.starts ≡ tabulate l.a (λ b. length (targets_before (body_of l.items.plan.now) b)))
    × SourcesBefore (body_of l.items.plan.now) (length l.items.codes.now) l.a l.sources
