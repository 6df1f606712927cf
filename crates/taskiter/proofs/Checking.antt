-- The answers of the two functions that check a journal J, from what their door, an opening and the
-- check behind it answer. P is the lent plan, C and W the counts and values.
use Prim.Native.Nat.{ℕ, ◌≤◌}
use mathlib.Core.Path.{◌≡◌, sym, ◌∙◌, ap}
use mathlib.Core.Bool.{true}
use mathlib.Core.List.{List}
use borrow.Author.Tests.{ne_eqb}
use lib.Dec.{leb}
use lib.ListN.{length, take}
use Rattle.std.specs.Prelude.{Ok, Err}
use Rattle.plan.specs.declared.refusal.Refusal.{Refusal}
use Rattle.plan.specs.Refusals.{number_of}
use Rattle.plan.specs.Layout.{plan_words}
use Rattle.plan.specs.Sizes.{count_words, value_words}
use Rattle.graph.specs.Answers.{plan_body}
use Rattle.steps.specs.Answers.{Left, refused, open_of}
use Rattle.steps.specs.Calls.{lent, lent_by}
use Rattle.steps.proofs.Accepting.{long_slices_lem}
use Rattle.steps.proofs.Answering.{short_test, short_slices}
use Rattle.prepared.specs.Tables.{tables_of}
use Rattle.prepared.specs.Calls.{call_in}
use Rattle.prepared.proofs.Reached.{open_long, open_formed, shown_opening, shown_clear}
use Rattle.journal.specs.Checking.{check_from, check_of, check_more_of}
use Rattle.journal.proofs.Tables.{open_same}
use Rattle.journal.proofs.Reaching.{check_opened}
use Rattle.doors.specs.Doors.{ByState}
use Rattle.plan.proofs.Refusals.{number_above}
use Rattle.taskiter.proofs.Exported.{open_passed}

module _ (P C W J : List ℕ) where
  -- by what the opening answers
  closed : (x : Left) → x ≡ open_of P C W → (x.refusal ≡ 0 → ⊥) → x ≡ check_of P C W J
  unfolding check_of
  closed x e n = e ∙ sym (rw (ne_eqb (open_of P C W).refusal 0 (λ z. n (ap (λ (r : Left). r.refusal) e ∙ z))))

  pub check_refused : (e : Refusal) (C' W' : List ℕ) → refused P C' W' (number_of e) ≡ open_of P C W → refused P C' W' (number_of e) ≡ check_of P C W J
  check_refused e C' W' o = closed (refused P C' W' (number_of e)) o (number_above e)

  pub opening_passed : plan_words ≤ length P → (C' W' : List ℕ) → ◌≡◌ {A = Left} (record { refusal = 0; word = 0; counts = C'; values = W' }) (open_of (take plan_words P) C W) →
      ◌≡◌ {A = Left} (record { refusal = 0; word = 0; counts = C'; values = W' }) (open_of P C W)
  opening_passed l C' W' e = open_passed P C W l (record { refusal = 0; word = 0; counts = C'; values = W' }) e

  -- an opening that is accepted leaves C' and W'
  module _ (C' W' : List ℕ) (o : ◌≡◌ {A = Left} (record { refusal = 0; word = 0; counts = C'; values = W' }) (open_of P C W)) where
    opened : (open_of P C W).refusal ≡ 0
    opened = sym (ap (λ (r : Left). r.refusal) o)

    pub opened_room : (count_words ≤ length C') × (value_words ≤ length W')
    opened_room =
        let c = shown_clear P (open_long P C W opened) (open_formed P C W opened) (lent_by (open_of P C W)) (shown_opening P C W opened) in
        let l = (long_slices_lem P (open_of P C W).counts (open_of P C W).values).0 c.long in
        (rw (ap (λ (r : Left). r.counts) o) l.1, rw (ap (λ (r : Left). r.values) o) l.2)

    pub check_made : (x : Left) → x ≡ check_from (call_in P (tables_of (plan_body P))) P (lent C' W') J → x ≡ check_of P C W J
    check_made x e =
        e
        ∙ (ap (λ (r : Left). check_from (call_in P (tables_of (plan_body P))) P (lent_by r) J) o
        ∙ (open_same P C W opened J ∙ sym (check_opened P C W opened J)))

  -- by the lent state
  pub more_short : short_test P C W ≡ true → refused P C W 11 ≡ check_more_of P C W J
  unfolding check_more_of
  more_short h = sym (rw (short_slices P C W h))

  module _ {table : List ℕ} (table' : List ℕ) where
    pub more_refused : (e : Refusal) → ByState P C (leb value_words (length W)) table (Err e) table' → refused P C W (number_of e) ≡ check_more_of P C W J
    unfolding check_more_of
    more_refused e B = sym (rw (← B.refusal, ne_eqb (number_of e) 0 (number_above e)))

    pub more_made : (n : ℕ) → ByState P C (leb value_words (length W)) table (Ok n) table' → (x : Left) →
        x ≡ check_from (call_in P (tables_of (plan_body P))) P (lent C W) J → x ≡ check_more_of P C W J
    unfolding check_more_of
    more_made n B x e = e ∙ sym (rw (← B.refusal))
