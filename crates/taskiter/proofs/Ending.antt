-- Running to the end, from what opening and the turns leave: P, C and W are the lent plan, counts
-- and values.
use Prim.Native.Nat.{ℕ, ◌+◌, ◌≤◌, ◌<◌}
use mathlib.Core.Path.{◌≡◌, refl, sym, ◌∙◌, ap, subst}
use mathlib.Core.Bool.{true}
use mathlib.Core.Logic.{⊎_elim}
use mathlib.Core.List.{List, [], ◌∷◌}
use native.Mathlib.Decide.{ℕ_discrete, dec_lt}
use native.Mathlib.Omega.{arith}
use lib.ListN.{length, get_or, take}
use Rattle.finite.proofs.Tests.{not_both}
use Rattle.body.specs.Loop.{loop_final}
use Rattle.body.specs.Items.{item_passes}
use Rattle.plan.specs.Layout.{plan_words}
use Rattle.graph.specs.Answers.{plan_body}
use Rattle.steps.specs.State.{count_words, value_words, first_finished, state_of}
use Rattle.steps.specs.Answers.{Left, open_of, result_of}
use Rattle.steps.specs.Calls.{Call, start, finish, result, is_step, Lent, lent, lent_by, call, play}
use Rattle.steps.specs.Running.{Accepts, Next, Taken}
use Rattle.steps.specs.Turns.{Going, Over}
use Rattle.steps.proofs.Accepting.{Clear, long_slices_lem, formed_counts_lem, open_accepted, start_turn, finish_can}
use Rattle.steps.proofs.Running.{taken_accepted, call_cut, taken_cut, play_cut}
use Rattle.taskiter.specs.Demands.{finishes_of, AtEnd, InAnyOrder, Complete, AllFresh}
use Rattle.taskiter.specs.Run.{Run, Ran}
use Rattle.taskiter.proofs.Exported.{open_cut}
use Rattle.taskiter.proofs.AnyOrder.{open_order, open_clear}

-- two steps that come next are the same
module _ (plan : List ℕ) (s : Lent) where
  lowest_is : (accepts : ℕ → Type 0) (a b : ℕ) → accepts a → accepts b → ((c : ℕ) → c < a → accepts c → ⊥) → ((c : ℕ) → c < b → accepts c → ⊥) → a ≡ b
  lowest_is accepts a b p q u v =
      elim (dec_lt a b) [
        | yes l ↦ absurd (v a l p)
        | no l ↦ elim (dec_lt b a) [
          | yes k ↦ absurd (u b k q)
          | no k ↦ omega (arith, l, k)
        ]
      ]

  pub next_only : (c d : Call) → Next plan s c → Next plan s d → c ≡ d
  next_only (start a) (start b) n m = ap start (lowest_is (λ x. Accepts plan s (start x)) a b n.0 m.0 n.2 m.2)
  next_only (start a) (finish b) n m = absurd (n.1 b m.0)
  next_only (start a) (result g) n m = absurd m
  next_only (finish a) (start b) n m = absurd (m.1 a n.0)
  next_only (finish a) (finish b) n m = ap finish (lowest_is (λ x. Accepts plan s (finish x)) a b n.0 m.0 n.1 m.1)
  next_only (finish a) (result g) n m = absurd m
  next_only (result g) d n m = absurd n

  next_accepted : (c : Call) → Next plan s c → (is_step c ≡ true) × Accepts plan s c
  next_accepted (start a) n = (refl, n.0)
  next_accepted (finish a) n = (refl, n.0)
  next_accepted (result g) n = absurd n

-- so are two lists of them that lead to where no step is accepted
pub taken_only : (plan : List ℕ) (s : Lent) (l k : List Call) → Taken plan s l → Taken plan s k → Over plan (play plan s l) → Over plan (play plan s k) → l ≡ k
unfolding Taken play
taken_only plan s [] [] t u p q = refl
taken_only plan s [] (d ∷ k) t (m, u) p q = let a = next_accepted plan s d m in absurd (p d a.0 a.1)
taken_only plan s (c ∷ l) [] (n, t) u p q = let a = next_accepted plan s c n in absurd (q c a.0 a.1)
taken_only plan s (c ∷ l) (d ∷ k) (n, t) (m, u) p q =
    let e = next_only plan s c d n m in
    ap (λ (x : Call). x ∷ l) e
    ∙ ap (λ (x : List Call). d ∷ x)
    (taken_only plan (lent_by (call plan s d)) l k
    (subst (λ (x : Call). Taken plan (lent_by (call plan s x)) l) e t) u
    (subst (λ (x : Call). Over plan (play plan (lent_by (call plan s x)) l)) e p) q)

-- where the loop is complete no step is accepted
pub complete_over : (plan : List ℕ) (s : Lent) → Clear plan s.counts s.values → Complete (plan_body plan) (state_of s.counts s.values) → Over plan s
complete_over plan s k h (start a) z x =
    let r = (start_turn plan s.counts s.values k a).0 x in omega (arith, r.1.0, h a r.0)
complete_over plan s k h (finish a) z x =
    let r = (finish_can plan s.counts s.values k a).0 x in
    ⊎_elim (λ e. omega (arith, e, r.running)) (λ e. omega (arith, e.1, h a r.in_range)) ((formed_counts_lem plan s.counts s.values).0 k.formed_counts_lem a r.in_range).1
complete_over plan s k h (result g) z x = not_both z refl

module _ (P C W : List ℕ) (opens : (open_of P C W).refusal ≡ 0) where
  sizes : (plan_words ≤ length P) × (count_words ≤ length C) × (value_words ≤ length W)
  sizes = (long_slices_lem P C W).0 ((open_accepted P C W).0 opens).0

  module _ (C2 W2 : List ℕ) (steps : ℕ) (G : Going (take plan_words P) (lent_by (open_of (take plan_words P) C W)) (lent C2 W2) steps × Over (take plan_words P) (lent C2 W2)) where
    is_first : lent_by (open_of (take plan_words P) C W) ≡ lent_by (open_of P C W)
    is_first = ap lent_by (open_cut P C W sizes.0)

    calls : List Call
    calls = G.0.calls

    run_taken : Taken P (lent_by (open_of P C W)) calls
    unfolding calls
    run_taken = subst (λ (x : Lent). Taken P x calls) is_first (taken_cut P sizes.0 (lent_by (open_of (take plan_words P) C W)) G.0.calls G.0.taken)

    run_reached : lent C2 W2 ≡ play P (lent_by (open_of P C W)) calls
    unfolding calls
    run_reached = G.0.reached ∙ (play_cut P sizes.0 (lent_by (open_of (take plan_words P) C W)) G.0.calls ∙ ap (λ (x : Lent). play P x calls) is_first)

    run_over : Over P (play P (lent_by (open_of P C W)) calls)
    run_over = subst (Over P) run_reached (λ c s x. G.1 c s (ap (λ (y : Left). y.refusal) (call_cut P sizes.0 (lent C2 W2) c) ∙ x))

    order : InAnyOrder (plan_body P) P (lent_by (open_of P C W)) calls
    order = open_order P C W opens calls

    clear : Clear P (play P (lent_by (open_of P C W)) calls).counts (play P (lent_by (open_of P C W)) calls).values
    clear = open_clear P C W opens calls

    -- every item has finished its passes, since some step is accepted while one has not
    at_end_lem : AtEnd (plan_body P) P (lent_by (open_of P C W)) calls
    at_end_lem a l =
        elim (ℕ_discrete (finishes_of (plan_body P) P (lent_by (open_of P C W)) a calls) (item_passes (plan_body P) a)) [
          | yes e ↦ e
          | no n ↦ absurd (go (order.goes_on a l (less n)))
        ]
      where
        less : (finishes_of (plan_body P) P (lent_by (open_of P C W)) a calls ≡ item_passes (plan_body P) a → ⊥) → finishes_of (plan_body P) P (lent_by (open_of P C W)) a calls < item_passes (plan_body P) a
        less n =
            omega (
              arith,
              n,
              (order.counted a l).1,
              ((formed_counts_lem P (play P (lent_by (open_of P C W)) calls).counts (play P (lent_by (open_of P C W)) calls).values).0 clear.formed_counts_lem a l).0,
            )

        go : (c : Call) × (is_step c ≡ true) × ((call P (play P (lent_by (open_of P C W)) calls) c).refusal ≡ 0) → ⊥
        go (c, s, x) = run_over c s x

    run_done : Run P (lent_by (open_of P C W)) (lent C2 W2) steps
    unfolding calls
    run_done =
        record {
          calls = calls;
          taken = run_taken;
          all_accepted = taken_accepted P (lent_by (open_of P C W)) calls run_taken;
          reached = run_reached;
          counted = G.0.counted;
          complete = λ a l. ap (λ (x : Lent). get_or x.counts (first_finished + a) 0) run_reached ∙ ((order.counted a l).1 ∙ at_end_lem a l);
          total = G.0.counted ∙ (sym (taken_accepted P (lent_by (open_of P C W)) calls run_taken) ∙ order.ends.0 at_end_lem);
          numbers = subst (λ (x : Lent). AllFresh (plan_body P) x.counts x.values) (sym run_reached) order.numbers;
          only = λ k t c. taken_only P (lent_by (open_of P C W)) k calls t run_taken (complete_over P (play P (lent_by (open_of P C W)) k) (open_clear P C W opens k) c) run_over;
          results = λ g l.
              subst (λ (x : Lent). ((result_of P x.counts x.values g).refusal ≡ 0) × ((result_of P x.counts x.values g).word ≡ loop_final (plan_body P) g)) (sym run_reached)
              (let a = (order.accepts_results g l).0 at_end_lem in (a, order.final g a));
        }

    pub run_ran : Ran P C W (record { refusal = 0; number = steps }) C2 W2
    run_ran = record { refusal = sym opens; refused = λ n. absurd (n refl); ran = λ y. run_done }
