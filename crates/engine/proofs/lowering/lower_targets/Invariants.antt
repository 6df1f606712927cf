use mathlib.Core.Path.{◌≡◌}
use Rattle.prepared.specs.Tables.{start_in, target_count, target_in}
use Rattle.engine.proofs.Lowered.{Lowered}
use Rattle.engine.proofs.lowering.lower_targets.Given as goal

abbrev pub invariant-loop-k : goal.invariant-loop-k
invariant-loop-k g l =
    (l.from ≡ start_in l.tables l.a) × (l.count ≡ target_count l.tables l.a)
    × Lowered _ g.F.Freed.puts (target_in l.tables l.a) l.initial.counts l.initial.freed l.k l.counts l.freed
