use Rattle.std.proofs.Common.{◌≡◌, ◌≤◌}
use Rattle.finite.specs.Below.{count_below}
use Rattle.plan.specs.Layout.{is_read}
use Rattle.plan.proofs.words.Plan.read_count.Given as goal

abbrev pub invariant-loop-a : goal.invariant-loop-a
invariant-loop-a l = (l.count ≤ l.a) × (l.count ≡ count_below l.a (is_read l.self l.i))
