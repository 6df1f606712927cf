-- A start by the tables of the plan leaves what the ordinary one does.
use Prim.Native.Nat.{ℕ, suc, ◌+◌, ◌≤◌, ◌<◌}
use mathlib.Core.Path.{◌≡◌, ◌∙◌, ap}
use mathlib.Core.Bool.{true}
use mathlib.Core.List.{List, map}
use lib.ListN.{length, get_or, set}
use Rattle.unroll.specs.Sequential.{word_on}
use Rattle.body.specs.Items.{item_count}
use Rattle.body.specs.Places.{system}
use Rattle.plan.specs.Layout.{plan_words}
use Rattle.graph.specs.Answers.{formed_plan, plan_body}
use Rattle.steps.specs.State.{first_held, state_of}
use Rattle.steps.specs.Answers.{Left, word_now, started}
use Rattle.prepared.specs.Tables.{first_read, code_in, places_in}
use Rattle.prepared.specs.Steps.{word_in, started_in}
use Rattle.prepared.specs.Laws.{Prepared}
use Rattle.prepared.proofs.Coded.{coded_word}

module _ (plan tables counts values : List ℕ) (long : plan_words ≤ length plan) (formed : formed_plan plan ≡ true) (P : Prepared plan tables)
    (a : ℕ) (la : a < item_count (plan_body plan)) where
  pub word_same : word_in plan tables counts values a ≡ word_now plan counts values a
  unfolding word_in word_on
  word_same =
      coded_word plan long formed a la (code_in tables a) (P.codes a la) (map (state_of counts values).places (places_in tables first_read a))
      ∙ ap (λ (l : List ℕ). (system (plan_body plan)).compute a (map (state_of counts values).places l)) (P.reads a la)

  pub started_same : started_in plan tables counts values a ≡ started plan counts values a
  unfolding started_in
  started_same = ap left word_same
    where
      left : ℕ → Left
      left v = record { refusal = 0; word = v; counts = set counts a (suc (get_or counts a 0)); values = set values (first_held + a) v }
