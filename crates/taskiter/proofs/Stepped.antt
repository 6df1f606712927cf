-- Preparing, and a finish by tables that lists what it makes ready, in code: what a refused call
-- leaves, and what an accepted one does.
use Prim.Native.Nat.{ℕ, ◌+◌, ◌≤◌, ◌<◌}
use mathlib.Core.Path.{◌≡◌, refl, sym, ◌∙◌}
use mathlib.Core.List.{List, ◌∷◌, ◌++◌}
use native.Mathlib.Omega.{arith}
use borrow.Author.Tests.{lt-ltb, le-ltb, le-leb}
use lib.Dec.{leb}
use lib.ListN.{length, take, drop}
use Rattle.std.specs.Prelude.{Err}
use Rattle.plan.specs.declared.refusal.Refusal.{Refusal}
use Rattle.plan.specs.Layout.{plan_words, body_of}
use Rattle.plan.specs.Sizes.{max_items}
use Rattle.graph.specs.Table.{Graph}
use Rattle.steps.specs.Answers.{Left}
use Rattle.prepared.specs.Tables.{prepared_words, tables_of, PrepareAnswer}
use Rattle.prepared.specs.Steps.{finished_in, freed_in, FreeingAnswer}
use Rattle.ranges.specs.Judged.{finish_refusal}
use Rattle.checker.proofs.Stepping.{finish_refused, finish_made}
use Rattle.doors.specs.Doors.{ByPlan}
use Rattle.plan.proofs.Refusals.{number_above}
use Rattle.taskiter.specs.Told.{number_told}

-- preparing
module _ (P T : List ℕ) where
  pub prepare_refused : (table table' : List ℕ) (e : Refusal) → ByPlan P (leb prepared_words (length T)) table (Err e) table' → PrepareAnswer P T (number_told (Err e)) T
  prepare_refused table table' e B = record { refusal = B.refusal; made = λ z. absurd (number_above e z); refused = λ z. (refl, refl) }

  pub prepare_made : (table : List ℕ) (n : ℕ) → Graph (take plan_words P) table n → plan_words ≤ length P → prepared_words ≤ length T → (T' : List ℕ) →
      T' ≡ tables_of (body_of (take plan_words P)) ++ drop prepared_words T → PrepareAnswer P T (record { refusal = 0; number = n }) T'
  prepare_made table n G p l T' e =
      record {
        refusal = rw (le-leb plan_words (length P) p, le-leb prepared_words (length T) l, G.formed);
        made = λ z. (G.count, e);
        refused = λ z. absurd (z refl);
      }

-- a finish of item a that lists what it makes ready
module _ (P T C W : List ℕ) (a : ℕ) (F : List ℕ) where
  pub freeing_short : length F < max_items + 1 → FreeingAnswer P T C W F a (record { refusal = 11; word = 0; counts = C; values = W }) F
  freeing_short h =
      record {
        finished = sym (rw (le-ltb max_items (length F) (omega arith)));
        listed = λ z. absurd (omega arith);
        refused = λ z. refl;
      }

  pub freeing_refused : max_items < length F → (n : ℕ) → n ≡ finish_refusal P T C (length W) a → (n ≡ 0 → ⊥) →
      FreeingAnswer P T C W F a (record { refusal = n; word = 0; counts = C; values = W }) F
  freeing_refused l n e h =
      record {
        finished = rw (lt-ltb max_items (length F) l) (finish_refused P T C W a n e h);
        listed = λ z. absurd (h z);
        refused = λ z. refl;
      }

  pub freeing_made : max_items < length F → (n : ℕ) → n ≡ finish_refusal P T C (length W) a → n ≡ 0 → (word : ℕ) (C' W' F' : List ℕ) →
      ◌≡◌ {A = Left} (record { refusal = 0; word = word; counts = C'; values = W' }) (finished_in P T C W a) →
      F' ≡ (length (freed_in P T C W a) ∷ freed_in P T C W a) ++ drop (1 + length (freed_in P T C W a)) F →
      FreeingAnswer P T C W F a (record { refusal = 0; word = word; counts = C'; values = W' }) F'
  freeing_made l n is z word C' W' F' e f =
      record {
        finished = rw (lt-ltb max_items (length F) l) (e ∙ finish_made P T C W a n is z);
        listed = λ h. f;
        refused = λ h. absurd (h refl);
      }
