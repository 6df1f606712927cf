-- The steps from a state: each is the one that comes next, and from an opening they lead to the end.
use Prim.Native.Nat.{ℕ, zero, suc, ◌+◌, ◌*◌, ◌≤◌, ◌<◌}
use mathlib.Core.Path.{◌≡◌, refl, ◌∙◌, ap, subst}
use mathlib.Core.Bool.{Bool, true, false, cond}
use mathlib.Core.Logic.{◌⊎◌, inl, inr}
use mathlib.Core.List.{List, [], ◌∷◌, ◌++◌, append-nil}
use mathlib.Core.Option.{Option, none, some, map, or_else}
use native.Mathlib.Decide.{dec_lt}
use native.Mathlib.Nat.{mul-le-mul}
use native.Mathlib.Omega.{arith}
use borrow.Author.Tests.{eqb-true, eq-eqb}
use lib.ListN.{length, take}
use Rattle.finite.proofs.Tests.{not_both}
use Rattle.body.specs.Loop.{loop_final}
use Rattle.body.specs.Items.{item_count, total_steps}
use Rattle.plan.specs.Limits.{max_passes}
use Rattle.plan.specs.Sizes.{max_items}
use Rattle.plan.specs.Layout.{plan_words}
use Rattle.plan.proofs.Facts.{formed}
use Rattle.graph.specs.Answers.{plan_body}
use Rattle.graph.proofs.Small.{form_words}
use Rattle.graph.proofs.Theorems.{laws as graph-laws}
use Rattle.steps.specs.State.{state_of}
use Rattle.steps.specs.Answers.{open_of, result_of}
use Rattle.steps.specs.Calls.{Call, start, finish, result, is_step, Lent, lent_by, call, is_accepted, play, accepted}
use Rattle.steps.specs.Running.{Accepts, Next, Taken}
use Rattle.steps.specs.Turns.{Over}
use Rattle.steps.proofs.Accepting.{open_accepted, start_clear, start_turn, finish_clear, finish_can}
use Rattle.steps.proofs.Playing.{accepted_append, accepted_most}
use Rattle.steps.proofs.Running.{taken_accepted}
use Rattle.taskiter.specs.Demands.{AtEnd, InAnyOrder, Complete}
use Rattle.taskiter.specs.Run.{Run}
use Rattle.taskiter.proofs.AnyOrder.{open_order, open_clear}
use Rattle.taskiter.proofs.Ending.{taken_only, complete_over}
use Rattle.report.specs.Report.{lowest, next_step, followed, steps_from, most_steps}

-- what is known of the lowest number that t picks below n
abbrev Lowest : ℕ → (ℕ → Bool) → Option ℕ → Type 0
Lowest n t none = (b : ℕ) → b < n → t b ≡ false
Lowest n t (some a) = (t a ≡ true) × ((b : ℕ) → b < a → t b ≡ false)

lowest_is : (n : ℕ) (t : ℕ → Bool) → Lowest n t (lowest n t)
unfolding lowest or_else
lowest_is zero t = λ b l. absurd (omega arith)
lowest_is (suc n) t = more (lowest n t) (t n) refl (lowest_is n t)
  where
    more : (o : Option ℕ) (x : Bool) → t n ≡ x → Lowest n t o → Lowest (suc n) t (or_else o (cond x (some n) none))
    more (some a) x e h = h
    more none true e h = (e, h)
    more none false e h = λ b l.
        elim (dec_lt b n) [
          | yes k ↦ h b k
          | no k ↦ (let i : b ≡ n = omega arith in ap t i ∙ e)
        ]

module _ (plan : List ℕ) where
  -- a step that is accepted is an item's
  finish_below : (s : Lent) (a : ℕ) → Accepts plan s (finish a) → a < item_count (plan_body plan)
  finish_below s a h = ((finish_can plan s.counts s.values (finish_clear plan s.counts s.values a h) a).0 h).in_range

  start_below : (s : Lent) (a : ℕ) → Accepts plan s (start a) → a < item_count (plan_body plan)
  start_below s a h = ((start_turn plan s.counts s.values (start_clear plan s.counts s.values a h) a).0 h).0

  test_false : (s : Lent) (c : Call) → is_accepted plan s c ≡ false → Accepts plan s c → ⊥
  test_false s c e h = not_both (eq-eqb (call plan s c).refusal 0 h) e

  -- what is known of the step that comes next
  abbrev NextIs : Lent → Option Call → Type 0
  NextIs s none = Over plan s
  NextIs s (some c) = Next plan s c

  module _ (s : Lent) where
    abbrev n : ℕ
    n = item_count (plan_body plan)

    abbrev finishes : ℕ → Bool
    finishes a = is_accepted plan s (finish a)

    abbrev starts : ℕ → Bool
    starts a = is_accepted plan s (start a)

    no_finish : Lowest n finishes none → (b : ℕ) → Accepts plan s (finish b) → ⊥
    no_finish f b h = test_false s (finish b) (f b (finish_below s b h)) h

    no_step : Lowest n finishes none → Lowest n starts none → Over plan s
    no_step f h (start a) z x = test_false s (start a) (h a (start_below s a x)) x
    no_step f h (finish a) z x = no_finish f a x
    no_step f h (result g) z x = not_both z refl

    next_by : (f g : Option ℕ) → Lowest n finishes f → Lowest n starts g → NextIs s (or_else (map finish f) (map start g))
    unfolding or_else
    next_by (some a) g f h = (eqb-true (call plan s (finish a)).refusal 0 f.0, λ b l. test_false s (finish b) (f.1 b l))
    next_by none (some a) f h = (eqb-true (call plan s (start a)).refusal 0 h.0, no_finish f, λ b l. test_false s (start b) (h.1 b l))
    next_by none none f h = no_step f h

    next_is : NextIs s (next_step plan s)
    unfolding next_step
    next_is = next_by (lowest n finishes) (lowest n starts) (lowest_is n finishes) (lowest_is n starts)

  pub steps_taken : (n : ℕ) (s : Lent) → Taken plan s (steps_from plan n s)
  unfolding steps_from Taken
  steps_taken zero s = tt
  steps_taken (suc n) s = go (next_step plan s) (next_is s) (steps_taken n)
    where
      go : (o : Option Call) → NextIs s o → ((t : Lent) → Taken plan t (steps_from plan n t)) → Taken plan s (followed plan s (steps_from plan n) o)
      go none h rest = tt
      go (some c) h rest = (h, rest (lent_by (call plan s c)))

  -- they stop where no step is accepted, or are as many as they may be
  steps_stop : (n : ℕ) (s : Lent) → Over plan (play plan s (steps_from plan n s)) ⊎ (length (steps_from plan n s) ≡ n)
  unfolding steps_from play
  steps_stop zero s = inr refl
  steps_stop (suc n) s = go (next_step plan s) (next_is s) (steps_stop n)
    where
      go : (o : Option Call) → NextIs s o → ((t : Lent) → Over plan (play plan t (steps_from plan n t)) ⊎ (length (steps_from plan n t) ≡ n)) →
          Over plan (play plan s (followed plan s (steps_from plan n) o)) ⊎ (length (followed plan s (steps_from plan n) o) ≡ suc n)
      go none h rest = inl h
      go (some c) h rest = on (rest (lent_by (call plan s c)))
        where
          on : Over plan (play plan (lent_by (call plan s c)) (steps_from plan n (lent_by (call plan s c)))) ⊎ (length (steps_from plan n (lent_by (call plan s c))) ≡ n) →
              Over plan (play plan s (c ∷ steps_from plan n (lent_by (call plan s c)))) ⊎ (length (c ∷ steps_from plan n (lent_by (call plan s c))) ≡ suc n)
          on (inl o) = inl o
          on (inr e) = inr (ap suc e)

  -- where no step is accepted, no list of steps is
  over_none : (s : Lent) → Over plan s → (k : List Call) → accepted plan is_step s k ≡ length k → k ≡ []
  unfolding accepted
  over_none s o [] e = refl
  over_none s o (c ∷ k) e = absurd (go (is_accepted plan s c) (is_step c) refl refl e)
    where
      go : (x y : Bool) → is_accepted plan s c ≡ x → is_step c ≡ y → cond x (cond y 1 0) 0 + accepted plan is_step (lent_by (call plan s c)) k ≡ suc (length k) → ⊥
      go true true p q f = o c q (eqb-true (call plan s c).refusal 0 p)
      go true false p q f = omega (arith, f, accepted_most plan is_step (lent_by (call plan s c)) k)
      go false y p q f = omega (arith, f, accepted_most plan is_step (lent_by (call plan s c)) k)

-- from an accepted opening
module _ (plan counts values : List ℕ) (opens : (open_of plan counts values).refusal ≡ 0) where
  abbrev s : Lent
  s = lent_by (open_of plan counts values)

  order : (k : List Call) → InAnyOrder (plan_body plan) plan s k
  order = open_order plan counts values opens

  over_after : (k : List Call) → Complete (plan_body plan) (state_of (play plan s k).counts (play plan s k).values) → Over plan (play plan s k)
  over_after k = complete_over plan (play plan s k) (open_clear plan counts values opens k)

  -- with a bound that is enough for all steps
  module _ (bound : ℕ) (enough : total_steps (plan_body plan) ≤ bound) where
    abbrev k : List Call
    k = steps_from plan bound s

    bound_accepted : accepted plan is_step s k ≡ length k
    bound_accepted = taken_accepted plan s k (steps_taken plan bound s)

    bound_end : AtEnd (plan_body plan) plan s k
    bound_end = go (order k).leads_on
      where
        none_left : (m : List Call) → accepted plan is_step (play plan s k) m ≡ length m → AtEnd (plan_body plan) plan s (k ++ m) →
            Over plan (play plan s k) ⊎ (length k ≡ bound) → m ≡ []
        none_left m n e (inl o) = over_none plan (play plan s k) o m n
        none_left [] n e (inr f) = refl
        none_left (c ∷ m) n e (inr f) =
            absurd (omega (arith, n, f, (order (k ++ (c ∷ m))).ends.0 e, accepted_append plan is_step s k (c ∷ m), bound_accepted, enough))

        go : (m : List Call) × (accepted plan is_step (play plan s k) m ≡ length m) × AtEnd (plan_body plan) plan s (k ++ m) → AtEnd (plan_body plan) plan s k
        go (m, n, e) =
            let z : m ≡ [] = none_left m n e (steps_stop plan bound s) in
            subst (AtEnd (plan_body plan) plan s) (ap (λ (x : List Call). k ++ x) z ∙ append-nil k) e

    bound_complete : Complete (plan_body plan) (state_of (play plan s k).counts (play plan s k).values)
    bound_complete a h = ((order k).counted a h).1 ∙ bound_end a h

  total_most : total_steps (plan_body plan) ≤ most_steps
  unfolding total_steps
  total_most =
      let f = ((open_accepted plan counts values).0 opens).1 in
      let p : (plan_body plan).passes * item_count (plan_body plan) ≤ max_passes * max_items =
      mul-le-mul (formed (take plan_words plan) (form_words (take plan_words plan) f)).passes_most (graph-laws.items (take plan_words plan) f) in
      omega (arith, p)

  abbrev l : List Call
  l = steps_from plan most_steps s

  pub steps_complete : Complete (plan_body plan) (state_of (play plan s l).counts (play plan s l).values)
  steps_complete = bound_complete most_steps total_most

  -- every other bound that is enough gives the same steps
  pub steps_same : (bound : ℕ) → total_steps (plan_body plan) ≤ bound → steps_from plan bound s ≡ l
  steps_same bound e =
      taken_only plan s (steps_from plan bound s) l (steps_taken plan bound s) (steps_taken plan most_steps s)
      (over_after (steps_from plan bound s) (bound_complete bound e)) (over_after l steps_complete)

  steps_accepted : accepted plan is_step s l ≡ length l
  steps_accepted = bound_accepted most_steps total_most

  steps_end : AtEnd (plan_body plan) plan s l
  steps_end = bound_end most_steps total_most

  steps_total : accepted plan is_step s l ≡ total_steps (plan_body plan)
  steps_total = (order l).ends.0 steps_end

  steps_results : (g : ℕ) → g < (plan_body plan).regions →
      let t = play plan s l in
      ((result_of plan t.counts t.values g).refusal ≡ 0) × ((result_of plan t.counts t.values g).word ≡ loop_final (plan_body plan) g)
  steps_results g h = let a = ((order l).accepts_results g h).0 steps_end in (a, (order l).final g a)

  pub steps_run : Run plan s (play plan s l) (accepted plan is_step s l)
  steps_run =
      record {
        calls = l;
        taken = steps_taken plan most_steps s;
        all_accepted = steps_accepted;
        reached = refl;
        counted = steps_accepted;
        complete = steps_complete;
        total = steps_total;
        numbers = (order l).numbers;
        only = λ k t c. taken_only plan s k l t (steps_taken plan most_steps s) (over_after k c) (over_after l steps_complete);
        results = steps_results;
      }

  pub steps_calls : steps_run.calls ≡ l
  unfolding steps_run
  steps_calls = refl
