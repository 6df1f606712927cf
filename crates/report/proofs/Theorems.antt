-- The laws of the lines.
use Prim.Native.Nat.{ℕ, ◌≤◌}
use mathlib.Core.Path.{◌≡◌, refl, sym, ◌∙◌, ap, subst}
use mathlib.Core.Bool.{true}
use mathlib.Core.List.{List}
use native.Mathlib.Omega.{arith}
use lib.ListN.{length, replicate, length-replicate}
use Rattle.body.specs.Items.{total_steps}
use Rattle.plan.specs.Layout.{plan_words, body_of}
use Rattle.plan.specs.Form.{in_form}
use Rattle.reading.specs.Reading.{Reading, read_of, accepted as read_to, refused}
use Rattle.reading.proofs.Theorems.{laws as reading-laws}
use Rattle.steps.specs.State.{count_words, value_words}
use Rattle.steps.specs.Answers.{open_of}
use Rattle.steps.proofs.Accepting.{long_slices_lem, open_accepted}
use Rattle.report.specs.Report.{open_state, steps_from, most_steps, reading_lines, lines_of, report_bytes}
use Rattle.report.specs.Laws.{Lined, Laws}
use Rattle.report.proofs.Steps.{steps_run, steps_calls, steps_same}
use Rattle.report.proofs.Sizes.{refused_most}
use Rattle.report.proofs.Room.{whole, edges_all, plan_room}

-- the words of a plan in form
module _ (w : List ℕ) (size : length w ≡ plan_words) (form : in_form w ≡ true) where
  abbrev counts : List ℕ
  counts = replicate count_words 0

  abbrev values : List ℕ
  values = replicate value_words 0

  pub opens : (open_of w counts values).refusal ≡ 0
  opens =
      (open_accepted w counts values).1 (
        (long_slices_lem w counts values).1 (omega (arith, size), omega (arith, length-replicate {A = ℕ} count_words 0), omega (arith, length-replicate {A = ℕ} value_words 0)),
        ap in_form (whole w size form) ∙ form,
      )

  lined : Lined w (open_state w) (steps_from w most_steps (open_state w))
  lined = record { edges = edges_all w size form; run = steps_run w counts values opens; steps = steps_calls w counts values opens }

  same : (bound : ℕ) → total_steps (body_of w) ≤ bound → steps_from w bound (open_state w) ≡ steps_from w most_steps (open_state w)
  same bound h = steps_same w counts values opens bound (subst (λ (v : List ℕ). total_steps (body_of v) ≤ bound) (sym (whole w size form)) h)

room : (text : List ℕ) → length (lines_of text) ≤ report_bytes
unfolding lines_of
room text = go (read_of text) refl
  where
    go : (r : Reading) → read_of text ≡ r → length (reading_lines r) ≤ report_bytes
    go (read_to w) e = plan_room w (reading-laws.words text w e).size (reading-laws.in_form_lem text w e)
    go (refused n line) e = omega (arith, refused_most n line)

pub laws : Laws
laws =
    record {
      accepted = λ text w e. lined w (reading-laws.words text w e).size (reading-laws.in_form_lem text w e);
      any_bound = λ text w bound e. same w (reading-laws.words text w e).size (reading-laws.in_form_lem text w e) bound;
      room = room;
    }
