-- In a state that calls reach from an opening a check by the plan's tables is one by ordinary
-- calls.
use Prim.Native.Nat.{ℕ, suc, ◌≤◌}
use mathlib.Core.Path.{◌≡◌, refl, ◌∙◌, ap, subst}
use mathlib.Core.Bool.{true, cond, ◌&&◌}
use mathlib.Core.List.{List, [], ◌∷◌, append-nil}
use mathlib.Core.Option.{Option, none, some}
use lib.Dec.{eqb}
use lib.ListN.{length}
use Rattle.text.specs.Records.{split}
use Rattle.plan.specs.Layout.{plan_words}
use Rattle.graph.specs.Answers.{formed_plan, plan_body}
use Rattle.steps.specs.Answers.{Left, open_of}
use Rattle.steps.specs.Calls.{Lent, lent_by, call}
use Rattle.prepared.specs.Tables.{tables_of}
use Rattle.prepared.specs.Calls.{call_in}
use Rattle.prepared.specs.Laws.{Prepared}
use Rattle.prepared.proofs.Preparing.{prepares}
use Rattle.prepared.proofs.Reached.{Shown, shown_step, shown_clear, open_long, open_formed, shown_opening}
use Rattle.prepared.proofs.Playing.{call_in_lem}
use Rattle.journal.specs.Lines.{Step, step_of}
use Rattle.journal.specs.Checking.{call_of, states, holds, after, stopped, check_line, check_lines, check_from, check_more_of}

module _ (plan : List ℕ) (long : plan_words ≤ length plan) (formed : formed_plan plan ≡ true) where
  module _ (tables : List ℕ) (P : Prepared plan tables) where
    pub same_check : (ls : List (List ℕ)) (s : Lent) (n : ℕ) → Shown plan long formed s → check_lines (call_in plan tables) plan s n ls ≡ check_lines (call plan) plan s n ls
    unfolding check_lines
    same_check [] s n h = refl
    same_check (l ∷ []) s n h = refl
    same_check (l ∷ m ∷ ls) s n h = go (step_of l) (λ u. same_check (m ∷ ls) u (suc n))
      where
        go : (o : Option Step) → ((u : Lent) → Shown plan long formed u → check_lines (call_in plan tables) plan u (suc n) (m ∷ ls) ≡ check_lines (call plan) plan u (suc n) (m ∷ ls)) →
            check_line (call_in plan tables) (λ u. check_lines (call_in plan tables) plan u (suc n) (m ∷ ls)) s n o
            ≡ check_line (call plan) (λ u. check_lines (call plan) plan u (suc n) (m ∷ ls)) s n o
        go none ih = refl
        go (some e) ih =
            ap (λ (r : Left). cond (eqb r.refusal 0 && states e r.word) (check_lines (call_in plan tables) plan (lent_by r) (suc n) (m ∷ ls)) (stopped s 21 n))
            (call_in_lem plan long formed tables P s h (call_of e))
            ∙ ap (λ (r : Left). cond (holds (call plan) s e) r (stopped s 21 n)) (ih (after (call plan) s e) (shown_step plan long formed s h (call_of e)))

  own_tables : Prepared plan (tables_of (plan_body plan))
  own_tables = subst (Prepared plan) (append-nil (tables_of (plan_body plan))) (prepares plan [] formed)

  pub same_from : (s : Lent) → Shown plan long formed s → (journal : List ℕ) →
      check_from (call_in plan (tables_of (plan_body plan))) plan s journal ≡ check_from (call plan) plan s journal
  same_from s h journal = same_check (tables_of (plan_body plan)) own_tables (split 10 journal) s 1 h

  -- there a check that goes on looks at the journal at once
  pub more_from : (s : Lent) → Shown plan long formed s → (journal : List ℕ) → check_more_of plan s.counts s.values journal ≡ check_from (call plan) plan s journal
  unfolding check_more_of
  more_from s h journal =
      let c = shown_clear plan long formed s h in
      rw (c.long, c.formed_plan_lem, c.formed_counts_lem, c.formed_numbers_lem) (same_from s h journal)

-- from an accepted opening
pub open_same : (plan counts values : List ℕ) → (open_of plan counts values).refusal ≡ 0 → (journal : List ℕ) →
    let s = lent_by (open_of plan counts values) in
    check_from (call_in plan (tables_of (plan_body plan))) plan s journal ≡ check_from (call plan) plan s journal
open_same plan counts values z journal =
    same_from plan (open_long plan counts values z) (open_formed plan counts values z) (lent_by (open_of plan counts values)) (shown_opening plan counts values z) journal
