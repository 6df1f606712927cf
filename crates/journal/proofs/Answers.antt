-- What a check that looks at its journal answers, from any state and by any calls: it is accepted,
-- complete or unfinished, or refused with 20 or 21 at a line.
use Prim.Native.Nat.{ℕ, suc, ◌≤◌, ◌<◌}
use mathlib.Core.Path.{◌≡◌, refl, sym, subst}
use mathlib.Core.Bool.{Bool, true, false, cond}
use mathlib.Core.Logic.{◌⊎◌, inl, inr}
use mathlib.Core.List.{List, [], ◌∷◌}
use mathlib.Core.Option.{Option, none, some}
use native.Mathlib.Omega.{arith}
use borrow.Author.Tests.{eq-eqb}
use lib.Dec.{eqb}
use lib.ListN.{length}
use Rattle.text.specs.Records.{split}
use Rattle.graph.specs.Answers.{plan_body}
use Rattle.steps.specs.State.{state_of}
use Rattle.steps.specs.Answers.{Left, is_complete, call_refusal, open_of}
use Rattle.steps.specs.Calls.{Call, Lent, lent, lent_by, call}
use Rattle.prepared.specs.Tables.{tables_of}
use Rattle.prepared.specs.Calls.{call_in}
use Rattle.journal.specs.Lines.{Step, step_of}
use Rattle.journal.specs.Checking.{holds, after, passed, stopped, check_line, check_lines, check_of, check_more_of}
use Rattle.journal.proofs.Reaching.{check_opened}

abbrev pub Answered : Left → Type 0
Answered r = ((r.refusal ≡ 0) × (r.word ≤ 1)) ⊎ (((r.refusal ≡ 20) ⊎ (r.refusal ≡ 21)) × (1 ≤ r.word))

-- none of the numbers before 20 is given
pub answered_apart : (r : Left) → Answered r → (m : ℕ) → 0 < m → m < 20 → r.refusal ≡ m → ⊥
answered_apart r (inl (z, w)) m l k e = omega arith
answered_apart r (inr (inl z, w)) m l k e = omega arith
answered_apart r (inr (inr z, w)) m l k e = omega arith

module _ (make : Lent → Call → Left) (plan : List ℕ) where
  passed_answered : (s : Lent) → Answered (passed plan s)
  passed_answered s = inl (refl, go (is_complete (plan_body plan) (state_of s.counts s.values)))
    where
      go : (b : Bool) → cond b 1 0 ≤ 1
      go true = omega arith
      go false = omega arith

  check_answered : (ls : List (List ℕ)) (s : Lent) (n : ℕ) → 1 ≤ n → Answered (check_lines make plan s n ls)
  unfolding check_lines
  check_answered [] s n h = passed_answered s
  check_answered (l ∷ []) s n h = go (eqb (length l) 0)
    where
      go : (b : Bool) → Answered (cond b (passed plan s) (stopped s 20 n))
      go true = passed_answered s
      go false = inr (inl refl, h)
  check_answered (l ∷ m ∷ ls) s n h = go (step_of l) (λ t. check_answered (m ∷ ls) t (suc n) (omega arith))
    where
      by : (b : Bool) (r : Left) → Answered r → Answered (cond b r (stopped s 21 n))
      by true r a = a
      by false r a = inr (inr refl, h)

      go : (o : Option Step) → ((t : Lent) → Answered (check_lines make plan t (suc n) (m ∷ ls))) → Answered (check_line make (λ t. check_lines make plan t (suc n) (m ∷ ls)) s n o)
      go none ih = inr (inl refl, h)
      go (some e) ih = by (holds make s e) (check_lines make plan (after make s e) (suc n) (m ∷ ls)) (ih (after make s e))

module _ (plan counts values journal : List ℕ) where
  -- after an accepted opening
  pub open_answered : (open_of plan counts values).refusal ≡ 0 → Answered (check_of plan counts values journal)
  open_answered z =
      subst Answered (sym (check_opened plan counts values z journal))
      (check_answered (call plan) plan (split 10 journal) (lent_by (open_of plan counts values)) 1 (omega arith))

  -- from a lent state in form
  pub more_answered : call_refusal plan counts values true ≡ 0 → Answered (check_more_of plan counts values journal)
  unfolding check_more_of
  more_answered z =
      rw (eq-eqb (call_refusal plan counts values true) 0 z)
      (check_answered (call_in plan (tables_of (plan_body plan))) plan (split 10 journal) (lent counts values) 1 (omega arith))
