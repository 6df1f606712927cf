use mathlib.Core.Path.{◌≡◌}
use lib.ListN.{length}
use Rattle.finite.specs.Update.{replaced}
use Rattle.finite.proofs.Within.{within}
use Rattle.plan.specs.Sizes.{first_unmet}
use Rattle.plan.specs.Layout.{body_of}
use Rattle.steps.specs.Answers.{open_count}
use Rattle.open_waits.specs.Sources.{ItemsPassed}
use Rattle.open_waits.proofs.open_numbers.Given as goal

abbrev pub invariant-loop-a : goal.invariant-loop-a
invariant-loop-a l =
    (length l.counts ≡ length l.initial.counts) × (l.counts ≡ replaced (within first_unmet l.a) (open_count (body_of l.items.plan.now)) l.initial.counts)
    × ItemsPassed (body_of l.items.plan.now) l.a l.heads l.writers l.nexts l.seen
