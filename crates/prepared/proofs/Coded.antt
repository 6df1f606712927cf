-- What the number of an item says of it: its passes, and the word that it computes.
use Prim.Native.Nat.{ℕ, ◌-◌, ◌≤◌, ◌<◌}
use mathlib.Core.Path.{◌≡◌, refl, sym, ◌∙◌}
use mathlib.Core.Bool.{true, cond}
use mathlib.Core.List.{List}
use lib.Dec.{eqb}
use lib.ListN.{length, get_or, take}
use lib.Seq.{length-take-le}
use Rattle.finite.proofs.Collect.{get_d_map}
use Rattle.body.specs.Items.{Item, task, send, receive, kind_of, item_list, item_count, item_at, item_passes}
use Rattle.body.specs.Places.{compute_of, system}
use Rattle.edges.specs.Tests.{kind_at}
use Rattle.plan.specs.Limits.{max_passes}
use Rattle.plan.specs.Layout.{plan_words}
use Rattle.plan.specs.Code.{code_fewer, code_kind, code_subject}
use Rattle.graph.specs.Table.{subject_of, code_of, table_of, Graph}
use Rattle.graph.specs.Answers.{formed_plan, plan_body}
use Rattle.graph.proofs.Lookup.{passes_most, code_passes, code_kind_lem, code_subject_lem}
use Rattle.steps.proofs.Placing.{items_few}

module _ (plan : List ℕ) (long : plan_words ≤ length plan) (formed : formed_plan plan ≡ true) where
  abbrev w : List ℕ
  w = take plan_words plan

  graph : Graph w (table_of (plan_body plan)) (item_count (plan_body plan))
  unfolding item_at
  graph =
      record {
        long = length-take-le plan_words plan long;
        formed = formed;
        count = refl;
        most = items_few w formed;
        each = λ b l. get_d_map (code_of (plan_body plan)) (item_list (plan_body plan)) b (task 0) 0 l;
      }

  pub passes_few : (plan_body plan).passes ≤ max_passes
  passes_few = passes_most w (table_of (plan_body plan)) (item_count (plan_body plan)) graph

  module _ (a : ℕ) (la : a < item_count (plan_body plan)) (code : ℕ) (e : code ≡ code_of (plan_body plan) (item_at (plan_body plan) a)) where
    in_table : code ≡ get_or (table_of (plan_body plan)) a 0
    in_table = e ∙ sym (graph.each a la)

    pub coded_passes : (plan_body plan).passes - code_fewer code ≡ item_passes (plan_body plan) a
    coded_passes = code_passes w (table_of (plan_body plan)) (item_count (plan_body plan)) graph a la code in_table

    pub coded_kind : code_kind code ≡ kind_at (plan_body plan) a
    coded_kind = code_kind_lem w (table_of (plan_body plan)) (item_count (plan_body plan)) graph a la code in_table

    pub coded_subject : code_subject code ≡ subject_of (item_at (plan_body plan) a)
    coded_subject = code_subject_lem w (table_of (plan_body plan)) (item_count (plan_body plan)) graph a la code in_table

    -- from the words that it reads
    pub coded_word : (words : List ℕ) →
        cond (eqb (code_kind code) 0) ((plan_body plan).compute (code_subject code) words) (get_or words 0 0) ≡ (system (plan_body plan)).compute a words
    unfolding compute_of
    coded_word words = rw (coded_kind, coded_subject) (go (item_at (plan_body plan) a))
      where
        go : (x : Item) → cond (eqb (kind_of x) 0) ((plan_body plan).compute (subject_of x) words) (get_or words 0 0) ≡ compute_of (plan_body plan) x words
        go (task i) = refl
        go (send i g q) = refl
        go (receive i g q) = refl
