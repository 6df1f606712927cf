use Rattle.std.proofs.Common.{◌≡◌, ◌+◌, ◌*◌, ◌≤◌}
use Rattle.plan.specs.Layout.{rank_of}
use Rattle.form.proofs.Naming.{Naming}
use Rattle.form.proofs.words.name_all.Given as goal

abbrev pub invariant-loop-a : goal.invariant-loop-a
invariant-loop-a l =
    (l.base ≡ 256 * (rank_of l.plan l.i + 1)) × (l.own ≡ l.i) × (l.changes ≤ l.a) × Naming l.plan l.i l.a l.changes l.last
