use Prim.Native.Nat.{◌+◌, ◌*◌, ◌≤◌}
use mathlib.Core.Path.{◌≡◌}
use lib.ListN.{length, get_or, take}
use Rattle.finite.specs.Lists.{tabulate}
use Rattle.plan.specs.Limits.{max_accesses}
use Rattle.prepared.specs.Tables.{first_read, place_count, place_in}
use Rattle.engine.proofs.starts.gather_words.Given as goal

abbrev pub invariant-loop-k : goal.invariant-loop-k
invariant-loop-k l =
    (l.row ≡ first_read + 9 * l.a) × (l.count ≡ place_count l.tables first_read l.a) × (l.k ≤ l.count) × (length l.words ≡ max_accesses)
    × (take l.k l.words ≡ tabulate l.k (λ j. get_or l.values (place_in l.tables first_read l.a j) 0))
