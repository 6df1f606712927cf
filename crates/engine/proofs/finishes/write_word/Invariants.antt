use Prim.Native.Nat.{◌+◌, ◌*◌, ◌≤◌}
use mathlib.Core.Path.{◌≡◌}
use lib.ListN.{length}
use Rattle.finite.specs.Lists.{mem, tabulate}
use Rattle.finite.specs.Update.{replaced}
use Rattle.prepared.specs.Tables.{first_write, place_count, place_in}
use Rattle.engine.proofs.finishes.write_word.Given as goal

abbrev pub invariant-loop-k : goal.invariant-loop-k
invariant-loop-k l =
    (l.row ≡ first_write + 9 * l.a) × (l.count ≡ place_count l.tables first_write l.a) × (l.k ≤ l.count) × (length l.values ≡ length l.initial.values)
    × (l.values ≡ replaced (λ x. mem x (tabulate l.k (place_in l.tables first_write l.a))) (λ x. l.word) l.initial.values)
