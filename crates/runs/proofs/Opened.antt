-- A plan that is lent with the table of its items, opened and run.
use Prim.Native.Nat.{ℕ, ◌≤◌}
use mathlib.Core.Path.{◌≡◌, sym, ◌∙◌, ap, subst}
use mathlib.Core.List.{List, ◌++◌}
use lib.ListN.{length}
use Rattle.body.specs.Body.{Body}
use Rattle.plan.specs.Layout.{body_of}
use Rattle.plan.specs.Sizes.{count_words, value_words}
use Rattle.graph.specs.Table.{Graph}
use Rattle.steps.specs.Answers.{open_of}
use Rattle.steps.specs.Calls.{Lent, lent, lent_by}
use Rattle.steps.specs.Turns.{Going}
use Rattle.steps.proofs.Accepting.{long_slices_lem, open_opened}
use Rattle.prepared.specs.Tables.{tables_of}
use Rattle.prepared.specs.Laws.{Prepared}
use Rattle.prepared.proofs.Preparing.{prepares}
use Rattle.values.proofs.Plans.{plan_long, plan_body_lem, plan_formed}
use Rattle.calls.specs.Told.{told_opening}
use Rattle.calls.proofs.Behind.{graph_formed}
use Rattle.runs.specs.Turns.{Opened}

-- the tables made for it
pub tables_made : (w table : List ℕ) (n : ℕ) → Graph w table n → (behind tables : List ℕ) → tables ≡ tables_of (body_of w) ++ behind → Prepared w tables
tables_made w table n G behind tables e =
    let F = graph_formed w table n G in
    subst (Prepared w) (ap (λ (B : Body). tables_of B ++ behind) (plan_body_lem w F) ∙ sym e) (prepares w behind (plan_formed w F))

module _ (w table : List ℕ) (n : ℕ) (G : Graph w table n) (C W C1 W1 : List ℕ) (c : count_words ≤ length C) (v : value_words ≤ length W)
    (o : told_opening 0 C1 W1 ≡ open_of w C W) where
  pub opened_is : Opened w (lent C1 W1)
  opened_is =
      let F = graph_formed w table n G in
      record {
        counts = C;
        values = W;
        long_counts = c;
        long_values = v;
        left = ap lent_by (o ∙ open_opened w C W ((long_slices_lem w C W).1 (plan_long w F, c, v)) (plan_formed w F));
      }

  pub from_opening : (s : Lent) (steps : ℕ) → Going w (lent C1 W1) s steps → Going w (lent_by (open_of w C W)) s steps
  from_opening s steps g = subst (λ (x : Lent). Going w x s steps) (ap lent_by o) g
