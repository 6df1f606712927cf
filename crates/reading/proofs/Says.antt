-- A text is accepted exactly if it is the text of a plan's records.
use mathlib.Core.Path.{refl, sym, subst, ◌≡◌, ◌∙◌}
use borrow.Author.Tests.{leb-true, le-leb}
use lib.ListN.{length}
use lib.Dec.{leb}
use mathlib.Core.Bool.{Bool, true, false, cond}
use mathlib.Core.List.{List, []}
use native.Mathlib.Decide.{dec_lt}
use native.Mathlib.Omega.{arith}
use Prim.Native.Nat.{ℕ, ◌≤◌}
use Rattle.body.specs.Transfers.{transfer_count}
use Rattle.text.specs.Records.{split}
use Rattle.plan.specs.Layout.{body_of}
use Rattle.plan.specs.Limits.{max_bytes, max_transfers}
use Rattle.reading.specs.Laws.{Answers, Says}
use Rattle.reading.specs.Plan.{Plan, words_of}
use Rattle.reading.specs.Reading.{accepted, read_of, refused}
use Rattle.reading.specs.Refusals.{Fit, fit, fit_from, no_fit}
use Rattle.reading.proofs.FirstFit.{read_answers, too_long}
use Rattle.reading.proofs.Limits.{limits}
use Rattle.reading.proofs.Round.{text_read}

pub not_accepted : {X : Type 0} (n m : ℕ) (w : List ℕ) → refused n m ≡ accepted w → X
not_accepted n m w e = let z : ◌≡◌ {A = ℕ} 0 1 = cc in absurd (omega arith)

pub accepted_same : (v w : List ℕ) → accepted w ≡ accepted v → w ≡ v
accepted_same v w e = cc

-- where the words are the answer no refusal fits, and the transfers are few
answers_says : (text w : List ℕ) (f : Fit) → length text ≤ max_bytes → Answers text (accepted w) f → (P : Plan) × Says text P × (w ≡ words_of P)
answers_says text w (fit n l) h A = not_accepted n l w (sym A)
answers_says text w (no_fit l) h (P, lines, within, some, e) = go (leb (transfer_count (body_of (words_of P))) max_transfers) refl e
  where
    go : (b : Bool) → leb (transfer_count (body_of (words_of P))) max_transfers ≡ b → accepted w ≡ cond b (accepted (words_of P)) (refused 10 l) → (P : Plan) × Says text P × (w ≡ words_of P)
    go true t e = (P, record { lines = lines; size = h; within = within; some = some; transfers = leb-true _ _ t }, accepted_same (words_of P) w e)
    go false t e = not_accepted 10 l w (sym e)

pub accepted_says : (text w : List ℕ) → read_of text ≡ accepted w → (P : Plan) × Says text P × (w ≡ words_of P)
accepted_says text w e =
    elim (dec_lt max_bytes (length text)) [
      | yes k ↦ not_accepted 10 0 w (sym (too_long text k) ∙ e)
      | no k ↦
          let h : length text ≤ max_bytes = omega arith in
          answers_says text w (fit_from 1 [] (split 10 text)) h (subst (λ r. Answers text r (fit_from 1 [] (split 10 text))) e (read_answers text h))
    ]

pub says_accepted : (text : List ℕ) (P : Plan) → Says text P → read_of text ≡ accepted (words_of P)
says_accepted text P s =
    rw s.lines
    (text_read P (limits P s.within) (rw s.lines at s.size) (le-leb 1 (length P.tasks) s.some) (le-leb _ max_transfers s.transfers))
