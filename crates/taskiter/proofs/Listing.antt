-- What C gets from `taskiter_ready`: demand 2, and demand 3 after a list of calls.
use Prim.Native.Nat.{ℕ, ◌≤◌, ◌<◌}
use mathlib.Core.Path.{◌≡◌, refl, sym, ◌∙◌, ap, subst}
use mathlib.Core.Bool.{Bool, true, false, ◌&&◌}
use mathlib.Core.Logic.{◌↔◌, ◌⊎◌, inl, inr}
use mathlib.Core.List.Memᴰ.{not-nil as in-nil}
use mathlib.Core.List.{List, [], ◌∷◌, ◌++◌, Memᴰ as In}
use native.Mathlib.Decide.{ℕ_discrete, dec_lt}
use native.Mathlib.Omega.{arith}
use borrow.Author.Tests.{eqb-true, eq-eqb, leb-true, le-leb}
use lib.Dec.{leb}
use lib.ListN.{length, get_or, take, drop, get_or-append}
use lib.Seq.{take_at}
use Rattle.finite.proofs.Below.{count_le}
use Rattle.finite.proofs.Lists.{length_gather, in_gather, in_gather_from}
use Rattle.finite.proofs.Sorted.{sorted_gather, sorted_at}
use Rattle.finite.proofs.Tests.{and-true, and_intro, false_of, not_both}
use Rattle.body.specs.Items.{item_count, item_passes}
use Rattle.plan.specs.Limits.{max_word}
use Rattle.plan.specs.Sizes.{max_items}
use Rattle.plan.specs.Layout.{plan_words}
use Rattle.graph.specs.declared.Number.{Number}
use Rattle.graph.specs.Answers.{formed_plan, plan_body}
use Rattle.graph.proofs.Theorems.{laws as graph-laws}
use Rattle.steps.specs.Answers.{long_slices, open_of, start_of}
use Rattle.steps.specs.Calls.{Call, start, finish, result, is_step, Lent, lent, lent_by, play, is_accepted}
use Rattle.steps.specs.Ready.{ready_items, ReadyAnswer}
use Rattle.steps.proofs.Accepting.{Clear, formed_state, formed_counts_lem, start_clear, start_turn}
use Rattle.steps.proofs.Refusals.{is_short, none_short, not_short}
use Rattle.taskiter.specs.Demands.{Short, ReadyGiven, starts_of, finishes_of, call_after, ReadyAfter}
use Rattle.taskiter.proofs.AnyOrder.{open_order, open_clear}
use Rattle.taskiter.proofs.Readiness.{formed_clear, clear_formed, ready_clear, clear_ready}
use Rattle.taskiter.proofs.Parts.{length_behind, get_d_behind}
use Rattle.taskiter.proofs.Giving.{refusal_tests}

module _ (plan counts values items : List ℕ) (r : Number) (items' : List ℕ) (A : ReadyAnswer plan counts values items r items') where
  abbrev long : Bool
  long = long_slices plan counts values && leb max_items (length items)

  abbrev formed : Bool
  formed = formed_plan plan && formed_state plan counts values

  abbrev TooShort : Type 0
  TooShort = Short plan counts values ⊎ (length items < max_items)

  long_parts : long ≡ true → (long_slices plan counts values ≡ true) × (max_items ≤ length items)
  long_parts h =
      let p = and-true (long_slices plan counts values) (leb max_items (length items)) h in
      (p.0, leb-true max_items (length items) p.1)

  long_not : long ≡ true → TooShort → ⊥
  long_not h (inl s) = not_short plan counts values (long_parts h).0 s
  long_not h (inr l) = omega (arith, (long_parts h).1)

  not_long : (TooShort → ⊥) → long ≡ true
  not_long f =
      let q : length items < max_items → ⊥ = λ l. f (inr l) in
      and_intro (long_slices plan counts values) (leb max_items (length items)) (none_short plan counts values (λ s. f (inl s))) (le-leb max_items (length items) (omega arith))

  clear_of : long ≡ true → formed ≡ true → Clear plan counts values
  clear_of l = formed_clear plan counts values (long_parts l).0

  -- the list
  abbrev picks : ℕ → Bool
  picks a = is_accepted plan (lent counts values) (start a)

  listed_length : length (ready_items plan counts values) ≤ item_count (plan_body plan)
  unfolding ready_items
  listed_length = omega (arith, length_gather (item_count (plan_body plan)) picks (λ a. a), count_le picks (item_count (plan_body plan)))

  in_listed : (a : ℕ) → In a (ready_items plan counts values) ↔ ((start_of plan counts values a).refusal ≡ 0)
  unfolding ready_items
  in_listed a = (
    λ h.
        let k = in_gather_from (item_count (plan_body plan)) picks (λ a. a) a h in
        subst (λ (x : ℕ). (start_of plan counts values x).refusal ≡ 0) (sym k.3) (eqb-true (start_of plan counts values k.0).refusal 0 k.2),
    λ h.
        in_gather (item_count (plan_body plan)) picks (λ a. a) a ((start_turn plan counts values (start_clear plan counts values a h) a).0 h).0
        (eq-eqb (start_of plan counts values a).refusal 0 h),
  )

  -- accepted
  module _ (z : r.refusal ≡ 0) where
    accepted_both : (long ≡ true) × (formed ≡ true)
    accepted_both = ((refusal_tests long formed true r.refusal A.refusal).3.0 z).0

    few : r.number ≤ length items
    few =
        let c = clear_of accepted_both.0 accepted_both.1 in
        omega (arith, (A.listed z).0, listed_length, graph-laws.items (take plan_words plan) c.formed_plan_lem, (long_parts accepted_both.0).1)

    front : take r.number items' ≡ ready_items plan counts values
    front = ap (take r.number) (A.listed z).1 ∙ take_at (ready_items plan counts values) (drop (length (ready_items plan counts values)) items) r.number (sym (A.listed z).0)

    number_at : (i : ℕ) → i < r.number → get_or items' i 0 ≡ get_or (ready_items plan counts values) i 0
    number_at i l =
        ap (λ (x : List ℕ). get_or x i 0) (A.listed z).1
        ∙ get_or-append (ready_items plan counts values) (drop (length (ready_items plan counts values)) items) 0 i (omega (arith, (A.listed z).0))

    rises : (i j : ℕ) → i < j → j < r.number → get_or items' i 0 < get_or items' j 0
    unfolding ready_items
    rises i j l m =
        omega (
          arith,
          number_at i (omega arith),
          number_at j m,
          sorted_at (λ x y. x < y) 0 (ready_items plan counts values)
              (sorted_gather (λ x y. x < y) (item_count (plan_body plan)) picks (λ a. a) (λ a b k. k)) i j l (omega (arith, (A.listed z).0)),
        )

  -- in a state in form, with room for the items
  accepted_by : Clear plan counts values → max_items ≤ length items → r.refusal ≡ 0
  accepted_by c room =
      (refusal_tests long formed true r.refusal A.refusal).3.1
      ((and_intro (long_slices plan counts values) (leb max_items (length items)) c.long (le-leb max_items (length items) room), clear_formed plan counts values c), refl)

  in_front : r.refusal ≡ 0 → (a : ℕ) → In a (take r.number items') ↔ ((start_of plan counts values a).refusal ≡ 0)
  in_front z a = subst (λ (x : List ℕ). In a x ↔ ((start_of plan counts values a).refusal ≡ 0)) (sym (front z)) (in_listed a)

  pub ready_given : ((i : ℕ) → get_or plan i 0 ≤ max_word) → ReadyGiven plan counts values items r items'
  ready_given words =
      let t = refusal_tests long formed true r.refusal A.refusal in
      record {
        refusal_11 = (λ e. short_of (t.0.0 e), λ s. t.0.1 (false_of long (λ h. long_not h s)));
        refusal_12 = (
          λ e. let h = t.1.0 e in (long_not h.0, λ R. not_both (clear_formed plan counts values (ready_clear plan counts values R)) h.1),
          λ h. let l = not_long h.0 in t.1.1 (l, false_of formed (λ f. h.1 (clear_ready plan counts values words (clear_of l f)))),
        );
        refusal_0 = (
          λ e. let h = (t.3.0 e).0 in (clear_ready plan counts values words (clear_of h.0 h.1), (long_parts h.0).1),
          λ h. accepted_by (ready_clear plan counts values h.0) h.1,
        );
        refused = A.refused;
        exactly = in_front;
        rising = rises;
        fits = elim (ℕ_discrete r.refusal 0) [ yes z ↦ few z | no f ↦ omega (arith, (A.refused f).0) ];
        size =
            elim (ℕ_discrete r.refusal 0) [
              | yes z ↦ ap length (A.listed z).1 ∙ length_behind (ready_items plan counts values) items (length (ready_items plan counts values)) refl (omega (arith, few z, (A.listed z).0))
              | no f ↦ ap length (A.refused f).1
            ];
        behind = λ i l.
            elim (ℕ_discrete r.refusal 0) [
              | yes z ↦ ap (λ (x : List ℕ). get_or x i 0) (A.listed z).1
                  ∙ get_d_behind (ready_items plan counts values) items (length (ready_items plan counts values)) refl i (omega (arith, (A.listed z).0, l))
              | no f ↦ ap (λ (x : List ℕ). get_or x i 0) (A.refused f).1
            ];
      }
    where
      short_of : long ≡ false → TooShort
      short_of h =
          elim (dec_lt (length items) max_items) [
            | yes l ↦ inr l
            | no l ↦ inl (is_short plan counts values (false_of (long_slices plan counts values)
                (λ k. not_both (and_intro (long_slices plan counts values) (leb max_items (length items)) k (le-leb max_items (length items) (omega arith))) h)))
          ]

-- after a list of calls from an accepted opening
module _ (plan counts values : List ℕ) (opens : (open_of plan counts values).refusal ≡ 0) (l : List Call) where
  abbrev s : Lent
  s = lent_by (open_of plan counts values)

  abbrev t : Lent
  t = play plan s l

  module _ (items : List ℕ) (r : Number) (items' : List ℕ) (room : max_items ≤ length items) (A : ReadyAnswer plan t.counts t.values items r items') where
    answered : r.refusal ≡ 0
    answered = accepted_by plan t.counts t.values items r items' A (open_clear plan counts values opens l) room

    -- an accepted step is a start of an item in the list, or a finish of one that runs
    none_accepted : r.number ≡ 0 → ((b : ℕ) → b < item_count (plan_body plan) → starts_of (plan_body plan) plan s b l ≡ finishes_of (plan_body plan) plan s b l) →
        (c : Call) → is_step c ≡ true → (call_after (plan_body plan) plan s l c).refusal ≡ 0 → ⊥
    none_accepted z idle (start b) k h =
        in-nil (subst (λ (n : ℕ). In b (take n items')) z ((in_front plan t.counts t.values items r items' A answered b).1 h))
    none_accepted z idle (finish b) k h =
        let f = (open_order plan counts values opens (l ++ (finish b ∷ []))).finishes l [] b refl h in
        omega (arith, f.1, idle b f.0)
    none_accepted z idle (result g) k h = absurd (not_both k refl)

    pub ready_after : ReadyAfter (plan_body plan) plan s l r items'
    ready_after =
        let o = open_order plan counts values opens l in
        record {
          accepted = answered;
          exactly = λ a.
              let f = in_front plan t.counts t.values items r items' A answered a in
              (λ h. (o.accepts_starts a).0 (f.0 h), λ h. f.1 ((o.accepts_starts a).1 h));
          none = λ z idle a la.
              elim (dec_lt (finishes_of (plan_body plan) plan s a l) (item_passes (plan_body plan) a)) [
                | yes m ↦ absurd (let c = o.goes_on a la m in none_accepted z idle c.0 c.1 c.2)
                | no m ↦ omega (arith, (o.counted a la).1, ((formed_counts_lem plan t.counts t.values).0 (open_clear plan counts values opens l).formed_counts_lem a la).0)
              ];
        }
