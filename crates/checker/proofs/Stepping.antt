-- Steps of item a by tables in code, where n is what refuses them: what the engine asks for, what a
-- refused step answers, and what an accepted one does.
use Prim.Native.Nat.{ℕ}
use mathlib.Core.Path.{◌≡◌, sym, ◌∙◌}
use mathlib.Core.List.{List}
use borrow.Author.Tests.{eq-eqb, ne_eqb}
use lib.ListN.{length}
use Rattle.steps.specs.Answers.{refused}
use Rattle.prepared.specs.Steps.{started_in, start_prepared, finished_in, finish_prepared}
use Rattle.engine.specs.Usable.{Startable, Finishable}
use Rattle.ranges.specs.Judged.{start_refusal, finish_refusal}
use Rattle.ranges.proofs.Clear.{start_is, finish_is, start_clear, finish_clear}

module _ (P T C W : List ℕ) (a n : ℕ) where
  module _ (is : n ≡ start_refusal P T C (length W) a) where
    pub startable : n ≡ 0 → Startable T C W a
    startable z =
        let k = start_clear P T C (length W) a (sym is ∙ z) in
        record {
          sized = record { long_tables = k.long_tables; long_counts = k.long_counts; long_values = k.long_values; below = k.below };
          row = record { few = k.few; below = k.places };
          small = k.small;
        }

    pub start_refused : (n ≡ 0 → ⊥) → refused P C W n ≡ start_prepared P T C W a
    start_refused h = sym (start_is P T C W a ∙ rw (← is, ne_eqb n 0 h))

    pub start_made : n ≡ 0 → started_in P T C W a ≡ start_prepared P T C W a
    start_made z = sym (start_is P T C W a ∙ rw (← is, eq-eqb n 0 z))

  module _ (is : n ≡ finish_refusal P T C (length W) a) where
    pub finishable : n ≡ 0 → Finishable T C W a
    finishable z =
        let k = finish_clear P T C (length W) a (sym is ∙ z) in
        record {
          sized = record { long_tables = k.long_tables; long_counts = k.long_counts; long_values = k.long_values; below = k.below };
          row = record { few = k.few; below = k.places };
          targets = record { ends = k.ends; few = k.target_few; below = k.targets };
          small = k.small;
        }

    pub finish_refused : (n ≡ 0 → ⊥) → refused P C W n ≡ finish_prepared P T C W a
    finish_refused h = sym (finish_is P T C W a ∙ rw (← is, ne_eqb n 0 h))

    pub finish_made : n ≡ 0 → finished_in P T C W a ≡ finish_prepared P T C W a
    finish_made z = sym (finish_is P T C W a ∙ rw (← is, eq-eqb n 0 z))
