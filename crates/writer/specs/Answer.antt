-- What writing a lent plan into a lent text answers and leaves (card 1; 11 and 12 of paper 01,
-- "Refusals that come from the state"). Refusal 0 is none.
use Rattle.std.specs.Prelude.{ℕ, ◌≡◌, cond, List, ◌++◌, leb, length, take, drop}
use Rattle.plan.specs.Layout.{plan_words}
use Rattle.reading.specs.Written.{text_of}
use Rattle.graph.specs.declared.Number.{Number}
use Rattle.graph.specs.Answers.{long_plan, formed_plan}

-- the written text of a lent plan
abbrev pub plan_text : List ℕ → List ℕ
plan_text plan = text_of (take plan_words plan)

-- the first that holds: 11 the plan is too short, 12 it is not in form, 19 the text slice is too
-- short for this text
abbrev pub write_refusal : List ℕ → List ℕ → ℕ
write_refusal plan text =
    cond (long_plan plan) (cond (formed_plan plan) (cond (leb (length (plan_text plan)) (length text)) 0 19) 12) 11

-- the slice begins with the text, and the number is its length; bytes behind it stay
pub record WriteAnswer (plan text : List ℕ) (r : Number) (text' : List ℕ) : Type 0 where
  pub refusal : r.refusal ≡ write_refusal plan text
  pub written : r.refusal ≡ 0 → (r.number ≡ length (plan_text plan)) × (text' ≡ plan_text plan ++ drop (length (plan_text plan)) text)
  pub refused : (r.refusal ≡ 0 → ⊥) → (r.number ≡ 0) × (text' ≡ text)
