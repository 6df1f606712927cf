-- The lines of a text, from what reading it answers and leaves, and what a report answers.
use Prim.Native.Nat.{ℕ, ◌≤◌, ◌<◌}
use mathlib.Core.Path.{◌≡◌, refl, sym, ◌∙◌, ap}
use mathlib.Core.Bool.{true}
use mathlib.Core.List.{List, [], ◌++◌, append-nil}
use native.Mathlib.Decide.{dec_lt}
use native.Mathlib.Omega.{arith}
use lib.ListN.{length, drop, length-append}
use lib.Seq.{drop-length}
use Rattle.finite.specs.Put.{Put}
use Rattle.plan.specs.Layout.{plan_words}
use Rattle.plan.specs.Form.{in_form}
use Rattle.reading.specs.Reading.{Reading, read_of, accepted as read_to, refused}
use Rattle.reading.proofs.Theorems.{laws as reading-laws}
use Rattle.reader.specs.declared.Answer.{Answer}
use Rattle.reader.specs.Answer.{answer_of, left_in, Reads}
use Rattle.graph.specs.declared.Number.{Number}
use Rattle.lines.specs.Lines.{refused_line}
use Rattle.report.specs.Report.{plan_lines, reading_lines, lines_of, report_bytes, Reports}

-- a plan slice of its size, and what reading makes of it
module _ (text plan : List ℕ) (long : length plan ≡ plan_words) (r : Answer) (left : List ℕ) (R : Reads text plan r left) where
  answered : (a : Reading) → read_of text ≡ a → r ≡ answer_of a
  answered a e = R.answer (omega (arith, long)) ∙ ap answer_of e

  pub refused_lines : (r.refusal ≡ 0 → ⊥) → refused_line r.refusal r.line ≡ lines_of text
  unfolding lines_of
  refused_lines f = go (read_of text) refl
    where
      go : (a : Reading) → read_of text ≡ a → refused_line r.refusal r.line ≡ reading_lines a
      go (read_to w) e = absurd (f (ap (λ (x : Answer). x.refusal) (answered (read_to w) e)))
      go (refused n line) e = ap (λ (x : Answer). refused_line x.refusal x.line) (answered (refused n line) e)

  pub plan_lines_lem : r.refusal ≡ 0 → (length left ≡ plan_words) × (in_form left ≡ true) × (plan_lines left ≡ lines_of text)
  unfolding lines_of
  plan_lines_lem z = go (read_of text) refl
    where
      go : (a : Reading) → read_of text ≡ a → (length left ≡ plan_words) × (in_form left ≡ true) × (plan_lines left ≡ reading_lines a)
      go (read_to w) e =
          let none : drop plan_words plan ≡ [] = ap (λ (n : ℕ). drop n plan) (sym long) ∙ drop-length plan in
          let same : left ≡ w = R.leaves (omega (arith, long)) ∙ (ap (left_in plan) e ∙ (ap (λ (l : List ℕ). w ++ l) none ∙ append-nil w)) in
          rw same ((reading-laws.words text w e).size, reading-laws.in_form_lem text w e, refl)
      go (refused n line) e = absurd (omega (arith, z, ap (λ (x : Answer). x.refusal) (answered (refused n line) e), (reading-laws.numbers text n line e).0))

pub report_short : (text out : List ℕ) → length out < report_bytes → Reports text out (record { refusal = 11; number = 0 }) out
report_short text out h = record { short = λ l. (refl, refl); answer = λ l. absurd (omega (arith, h, l)); lines = λ l. absurd (omega (arith, h, l)) }

pub report_put : (text out : List ℕ) (n r : ℕ) (out' : List ℕ) → report_bytes ≤ length out → n ≡ r → Put (lines_of text) out r out' →
    Reports text out (record { refusal = 0; number = n }) out'
report_put text out n r out' h e P =
    record {
      short = λ l. absurd (omega (arith, h, l));
      answer = λ l. ap (λ (k : ℕ). record { refusal = 0; number = k }) (e ∙ P.count);
      lines = λ l. P.begins;
    }

-- the answered bytes stand in the output
pub number_most : (text out : List ℕ) (r : Number) (out' : List ℕ) → Reports text out r out' → r.number ≤ length out'
number_most text out r out' R =
    elim (dec_lt (length out) report_bytes) [
      | yes l ↦ (let e = ap (λ (x : Number). x.number) (R.short l).0 in omega (arith, e))
      | no l ↦ (let h : report_bytes ≤ length out = omega (arith, l) in
          omega (arith, ap (λ (x : Number). x.number) (R.answer h), ap length (R.lines h), length-append (lines_of text) (drop (length (lines_of text)) out)))
    ]
