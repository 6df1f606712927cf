-- Demand 1: what C gets from `taskiter_write` (specs/Given.antt).
use Prim.Native.Nat.{ℕ, ◌≤◌, ◌<◌}
use mathlib.Core.Path.{◌≡◌, refl, ◌∙◌, ap}
use mathlib.Core.Bool.{true}
use mathlib.Core.Logic.{◌↔◌}
use mathlib.Core.List.{List}
use native.Mathlib.Decide.{ℕ_discrete}
use native.Mathlib.Omega.{arith}
use borrow.Author.Tests.{le-leb, lt-leb, leb-true, leb-false}
use lib.Dec.{leb}
use lib.ListN.{length, get_or, take, drop}
use lib.Seq.{take-append_seam}
use Rattle.plan.specs.Limits.{max_word}
use Rattle.plan.specs.Layout.{plan_words}
use Rattle.reading.specs.Plan.{Plan}
use Rattle.reading.specs.Reading.{read_of, accepted as read_to}
use Rattle.reading.specs.Written.{Rising, text_of}
use Rattle.reading.specs.Laws.{Says}
use Rattle.reading.proofs.Theorems.{laws, text_laws}
use Rattle.graph.specs.declared.Number.{Number}
use Rattle.graph.specs.Answers.{long_plan, formed_plan}
use Rattle.writer.specs.Answer.{WriteAnswer, plan_text}
use Rattle.taskiter.specs.Given.{GoodPlan, TextGiven}
use Rattle.taskiter.proofs.Giving.{Tests, refusal_tests, good_plan, plan_11, plan_12}
use Rattle.taskiter.proofs.Parts.{length_behind, get_d_behind}
use Rattle.taskiter.proofs.Readiness.{cut_words, read_formed}

module _ (plan text : List ℕ) (r : Number) (text' : List ℕ) (words : (i : ℕ) → get_or plan i 0 ≤ max_word) (A : WriteAnswer plan text r text') where
  tests : Tests (long_plan plan) (formed_plan plan) (leb (length (plan_text plan)) (length text)) r.refusal
  tests = refusal_tests (long_plan plan) (formed_plan plan) (leb (length (plan_text plan)) (length text)) r.refusal A.refusal

  good : ((long_plan plan ≡ true) × (formed_plan plan ≡ true)) ↔ GoodPlan plan
  good = good_plan plan words

  accepted : r.refusal ≡ 0 → GoodPlan plan × (length (plan_text plan) ≤ length text)
  accepted z = let h = tests.3.0 z in (good.0 h.0, leb-true _ _ h.1)

  begins : r.refusal ≡ 0 → take r.number text' ≡ plan_text plan
  begins z =
      let k = A.written z in
      ap (λ (n : ℕ). take n text') k.0 ∙ ap (take (length (plan_text plan))) k.1 ∙ take-append_seam (plan_text plan) (drop (length (plan_text plan)) text)

  reads_back : r.refusal ≡ 0 → read_of (take r.number text') ≡ read_to (take plan_words plan)
  reads_back z =
      let h = (accepted z).0 in
      ap read_of (begins z) ∙ text_laws.reads_back (take plan_words plan) (cut_words plan words h.0) (read_formed plan h.1)

  -- the plan that the text says: the text is the written one of its words
  rises : r.refusal ≡ 0 → (P : Plan) × Says (take r.number text') P × Rising 0 P.starts
  rises z =
      let p = (laws.accepts (take r.number text') (take plan_words plan)).0 (reads_back z) in
      (p.0, p.1, (text_laws.written (take r.number text') p.0 p.1).0 (begins z ∙ ap text_of p.2))

  pub text_given : TextGiven plan text r text'
  text_given =
      record {
        refusal_11 = plan_11 plan words _ _ tests;
        refusal_12 = plan_12 plan words _ _ tests;
        refusal_19 = (
          λ e. let h = tests.2.0 e in (good.0 h.0, leb-false _ _ h.1),
          λ h. tests.2.1 (good.1 h.0, lt-leb (length (plan_text plan)) (length text) h.1),
        );
        refusal_0 = (accepted, λ h. tests.3.1 (good.1 h.0, le-leb (length (plan_text plan)) (length text) h.1));
        refused = A.refused;
        size =
            elim (ℕ_discrete r.refusal 0) [
              | yes z ↦ ap length (A.written z).1 ∙ length_behind (plan_text plan) text (length (plan_text plan)) refl (accepted z).1
              | no f ↦ ap length (A.refused f).1
            ];
        behind = λ i l.
            elim (ℕ_discrete r.refusal 0) [
              | yes z ↦ let k = A.written z in ap (λ (x : List ℕ). get_or x i 0) k.1 ∙ get_d_behind (plan_text plan) text (length (plan_text plan)) refl i (omega (arith, k.0))
              | no f ↦ ap (λ (x : List ℕ). get_or x i 0) (A.refused f).1
            ];
        begins = begins;
        reads_back = reads_back;
        rises = rises;
        enough = λ l e.
            let h = tests.2.0 e in
            let k = good.0 h.0 in
            let s : length text < length (plan_text plan) = leb-false _ _ h.1 in
            omega (arith, text_laws.longest (take plan_words plan) (cut_words plan words k.0) h.0.1);
      }
