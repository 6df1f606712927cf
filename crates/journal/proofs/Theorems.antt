-- The laws of the check of journals: `Laws` of specs/Laws.antt.
use Prim.Native.Nat.{ℕ}
use mathlib.Core.Path.{◌≡◌, ◌∙◌, ap, ap₂}
use mathlib.Core.Bool.{true}
use mathlib.Core.List.{List, []}
use borrow.Author.Tests.{ne_eqb}
use Rattle.steps.specs.Answers.{Left, call_refusal, refused, open_of}
use Rattle.steps.specs.Calls.{Call, Lent, lent_by, play}
use Rattle.steps.proofs.Accepting.{open_unchanged}
use Rattle.journal.specs.Checking.{check_of, check_more_of}
use Rattle.journal.specs.Laws.{Words, Checks, Completes, Laws}
use Rattle.journal.proofs.Lines.{line_says}
use Rattle.journal.proofs.Completing.{after_checks, after_completes}
use Rattle.journal.proofs.Reaching.{check_opened, more_opened}

module _ (plan counts values : List ℕ) where
  -- an answer that has these parts
  same : (r : Left) → r.word ≡ 0 → r.counts ≡ counts → r.values ≡ values → r ≡ refused plan counts values r.refusal
  same r p q t =
      ap {B = Left} (λ (w : ℕ). record { refusal = r.refusal; word = w; counts = r.counts; values = r.values }) p
      ∙ ap₂ {C = Left} (λ (c v : List ℕ). record { refusal = r.refusal; word = 0; counts = c; values = v }) q t

  closed : (journal : List ℕ) → ((open_of plan counts values).refusal ≡ 0 → ⊥) → check_of plan counts values journal ≡ refused plan counts values (open_of plan counts values).refusal
  unfolding check_of
  closed journal n =
      let u = open_unchanged plan counts values n in
      rw (ne_eqb (open_of plan counts values).refusal 0 n) (same (open_of plan counts values) u.0 u.1 u.2)

  barred : (journal : List ℕ) → (call_refusal plan counts values true ≡ 0 → ⊥) → check_more_of plan counts values journal ≡ refused plan counts values (call_refusal plan counts values true)
  unfolding check_more_of
  barred journal n = rw (ne_eqb (call_refusal plan counts values true) 0 n)

  module _ (plan_words_lem : Words plan) (value-words : Words values) (z : (open_of plan counts values).refusal ≡ 0) where
    abbrev first : Lent
    first = lent_by (open_of plan counts values)

    opens : Checks plan first (check_of plan counts values) × Completes plan first [] (check_of plan counts values)
    unfolding play
    opens = (
      after_checks plan counts values plan_words_lem value-words z [] (check_of plan counts values) (check_opened plan counts values z),
      after_completes plan counts values plan_words_lem value-words z [] (check_of plan counts values) (check_opened plan counts values z),
    )

    resumes : (l : List Call) → let t = play plan first l in
        Checks plan t (check_more_of plan t.counts t.values) × Completes plan first l (check_more_of plan t.counts t.values)
    resumes l = (
      after_checks plan counts values plan_words_lem value-words z l _ (more_opened plan counts values z l),
      after_completes plan counts values plan_words_lem value-words z l _ (more_opened plan counts values z l),
    )

pub laws : Laws
laws =
    record {
      says = line_says;
      closed = closed;
      barred = barred;
      opens = opens;
      resumes = resumes;
    }
