-- What a call answers depends on the words of the plan, and on the state that the plan uses:
-- `Demand2.unread` of specs/Demands.antt.
use Prim.Native.Nat.{ℕ, ◌+◌, ◌<◌}
use mathlib.Core.Path.{◌≡◌, refl, sym, ◌∙◌, ap, ap₂}
use mathlib.Core.Bool.{Bool, true, cond, ◌&&◌}
use mathlib.Core.Logic.{inl, inr}
use mathlib.Core.List.{List}
use native.Mathlib.Decide.{ℕ_discrete}
use native.Mathlib.Omega.{arith}
use borrow.Author.Tests.{ltb-true, eq-eqb, ne_eqb}
use lib.Dec.{eqb, ltb, leb}
use lib.ListN.{length, get_or, take}
use Rattle.finite.specs.Below.{all_below}
use Rattle.finite.proofs.Tests.{and_parts}
use Rattle.finite.proofs.Below.{all_ext}
use Rattle.unroll.specs.Sequential.{word_on}
use Rattle.unroll.specs.Machine.{State}
use Rattle.unroll.specs.Meaning.{Agree}
use Rattle.unroll.proofs.Local.{agree_word}
use Rattle.body.specs.Body.{Body, Fits}
use Rattle.body.specs.Items.{item_count, item_at, item_passes}
use Rattle.body.specs.Places.{slot, copy, system, result_of as region_result}
use Rattle.body.proofs.Accessed.{send_from}
use Rattle.edges.specs.Tests.{kind_at}
use Rattle.plan.specs.Layout.{plan_words, body_of}
use Rattle.plan.specs.Form.{in_form}
use Rattle.graph.specs.Answers.{refusal_of, formed_plan, plan_body, is_item}
use Rattle.graph.proofs.Small.{plan_fits}
use Rattle.steps.specs.State.{count_words, value_words, first_finished, first_unmet, first_held, state_of, unmet_by}
use Rattle.steps.specs.Answers.{Left, count_ok, is_complete, start_tests, finish_tests, result_tests, long_slices, formed_counts, formed_numbers, call_refusal, unless, started, start_of, finished, finish_of, shown, result_of}
use Rattle.steps.specs.Calls.{Call, start, finish, result, Lent, call}
use Rattle.steps.proofs.Accepting.{formed_state, Clear, refusal_none, long_slices_lem, start_clear, start_turn, finish_clear, finish_can, result_clear, result_shown, every_unchanged}
use Rattle.steps.proofs.Made.{start_word, finish_word_lem}
use Rattle.steps.proofs.Placing.{place_ind}
use Rattle.steps.proofs.Ending.{result_agree}
use Rattle.taskiter.specs.Demands.{Short, of_start, of_finish, of_unmet, UsedValue, of_copy, of_slot, of_held, SameUsed}

-- the tests, on states with the same counts of items
module _ (B : Body) (s t : State) (started_same : (a : ℕ) → a < item_count B → s.started a ≡ t.started a) (finished_same : (a : ℕ) → a < item_count B → s.finished a ≡ t.finished a) where
  counts_same : all_below (item_count B) (λ a. count_ok (item_passes B a) s a) ≡ all_below (item_count B) (λ a. count_ok (item_passes B a) t a)
  counts_same = all_ext (item_count B) (λ a. count_ok (item_passes B a) s a) (λ a. count_ok (item_passes B a) t a) (λ a l. rw (started_same a l, finished_same a l))

  complete_same : is_complete B s ≡ is_complete B t
  complete_same = all_ext (item_count B) (λ a. eqb (s.finished a) (item_passes B a)) (λ a. eqb (t.finished a) (item_passes B a)) (λ a l. rw (finished_same a l))

  start_same : (a n m : ℕ) → a < item_count B → n ≡ m → start_tests B s n a ≡ start_tests B t m a
  start_same a n m l e = rw (started_same a l, finished_same a l, e)

  finish_same : (a : ℕ) → a < item_count B → finish_tests s a ≡ finish_tests t a
  finish_same a l = rw (started_same a l, finished_same a l)

-- states that are the same where a body uses them agree on what its items access
module _ (B : Body) (s t : Lent) (U : SameUsed B s t) where
  kind_slot : (a : ℕ) → a < item_count B → kind_at B a ≡ 1 → UsedValue B (slot a)
  kind_slot a l k = let r = send_from (item_at B a) k in of_slot a r.0 r.1 r.2 l r.3 refl

  used_agree : Fits B → Agree (system B) (state_of s.counts s.values) (state_of t.counts t.values)
  used_agree F =
      record {
        started = λ a l. U.same_counts a (of_start a l refl);
        finished = λ a l. U.same_counts (first_finished + a) (of_finish a l refl);
        held = λ a l. U.same_values (first_held + a) (of_held a l refl);
        places = place_ind B F (λ x. get_or s.values x 0 ≡ get_or t.values x 0)
            (λ q g lq lg. U.same_values (copy B q g) (of_copy q g lq lg refl))
            (λ a l k. U.same_values (slot a) (kind_slot a l k));
      }

-- a call that is refused for n, if that is not 0
unless_same : (plan plan' : List ℕ) (s t : Lent) (n m : ℕ) (r q : Left) → n ≡ m → (n ≡ 0 → r.refusal ≡ q.refusal) →
    (unless plan s.counts s.values n r).refusal ≡ (unless plan' t.counts t.values m q).refusal
unless_same plan plan' s t n m r q e h =
    elim (ℕ_discrete n 0) [
      | yes z ↦ (let y : m ≡ 0 = sym e ∙ z in rw (eq-eqb n 0 z, eq-eqb m 0 y) (h z))
      | no f ↦ (let y : m ≡ 0 → ⊥ = λ z. f (e ∙ z) in rw (ne_eqb n 0 f, ne_eqb m 0 y) e)
    ]

not_short : (plan counts values : List ℕ) → (Short plan counts values → ⊥) → long_slices plan counts values ≡ true
not_short plan counts values f =
    let p : length plan < plan_words → ⊥ = λ h. f (inl h) in
    let q : length counts < count_words → ⊥ = λ h. f (inr (inl h)) in
    let r : length values < value_words → ⊥ = λ h. f (inr (inr h)) in
    (long_slices_lem plan counts values).1 (omega arith, omega arith, omega arith)

-- plans of the same words, long slices, and states that are the same where the plan uses them
module _ (plan plan' : List ℕ) (s t : Lent) (e : take plan_words plan ≡ take plan_words plan') (long : long_slices plan s.counts s.values ≡ true)
    (long' : long_slices plan' t.counts t.values ≡ true) (U : SameUsed (plan_body plan) s t) where
  abbrev B : Body
  B = plan_body plan

  abbrev here : State
  here = state_of s.counts s.values

  abbrev there : State
  there = state_of t.counts t.values

  started_used : (a : ℕ) → a < item_count B → here.started a ≡ there.started a
  started_used a l = U.same_counts a (of_start a l refl)

  finished_used : (a : ℕ) → a < item_count B → here.finished a ≡ there.finished a
  finished_used a l = U.same_counts (first_finished + a) (of_finish a l refl)

  counts_used : formed_counts plan s.counts s.values ≡ formed_counts plan' t.counts t.values
  counts_used =
      counts_same B here there started_used finished_used
      ∙ ap (λ (w : List ℕ). all_below (item_count (body_of w)) (λ a. count_ok (item_passes (body_of w) a) there a)) e

  unmet_used : (a : ℕ) → a < item_count B → unmet_by s.counts a ≡ unmet_by t.counts a
  unmet_used a l = U.same_counts (first_unmet + a) (of_unmet a l refl)

  numbers_used : formed_numbers plan s.counts s.values ≡ formed_numbers plan' t.counts t.values
  numbers_used =
      all_ext (item_count B) (λ a. leb (unmet_by s.counts a) (item_count B)) (λ a. leb (unmet_by t.counts a) (item_count B)) (λ a l. rw (unmet_used a l))
      ∙ ap (λ (w : List ℕ). all_below (item_count (body_of w)) (λ a. leb (unmet_by t.counts a) (item_count (body_of w)))) e

  call_same : (in-s in-t : Bool) → in-s ≡ in-t → call_refusal plan s.counts s.values in-s ≡ call_refusal plan' t.counts t.values in-t
  call_same in-s in-t i = rw (long, long') (ap₂ (refusal_of true) (and_parts (ap in_form e) (and_parts counts_used numbers_used)) i)

  -- a call with its own tests, which are the same where its number lies within its limit
  judged_same : (in-s in-t : Bool) (n m : ℕ) (r q : Left) → in-s ≡ in-t → (in-s ≡ true → n ≡ m) → r.refusal ≡ q.refusal →
      (unless plan s.counts s.values (call_refusal plan s.counts s.values in-s) (unless plan s.counts s.values n r)).refusal
      ≡ (unless plan' t.counts t.values (call_refusal plan' t.counts t.values in-t) (unless plan' t.counts t.values m q)).refusal
  judged_same in-s in-t n m r q i f h =
      unless_same plan plan' s t (call_refusal plan s.counts s.values in-s) (call_refusal plan' t.counts t.values in-t)
      (unless plan s.counts s.values n r) (unless plan' t.counts t.values m q) (call_same in-s in-t i)
      (λ z. unless_same plan plan' s t n m r q
      (f (refusal_none (long_slices plan s.counts s.values) (formed_plan plan && formed_state plan s.counts s.values) in-s z).2) (λ y. h))

  item_same : (a : ℕ) → is_item plan a ≡ is_item plan' a
  item_same a = ap (λ (w : List ℕ). ltb a (item_count (body_of w))) e

  refusal_same : (c : Call) → (call plan s c).refusal ≡ (call plan' t c).refusal
  unfolding start_of finish_of result_of
  refusal_same (start a) =
      judged_same (is_item plan a) (is_item plan' a) (start_tests B here (unmet_by s.counts a) a) (start_tests (plan_body plan') there (unmet_by t.counts a) a)
      (started plan s.counts s.values a) (started plan' t.counts t.values a) (item_same a)
      (λ i.
      let l = ltb-true a (item_count B) i in
      start_same B here there started_used finished_used a (unmet_by s.counts a) (unmet_by t.counts a) l (unmet_used a l)
      ∙ ap (λ (w : List ℕ). start_tests (body_of w) there (unmet_by t.counts a) a) e) refl
  refusal_same (finish a) =
      judged_same (is_item plan a) (is_item plan' a) (finish_tests here a) (finish_tests there a)
      (finished plan s.counts s.values a) (finished plan' t.counts t.values a) (item_same a)
      (λ i. finish_same B here there started_used finished_used a (ltb-true a (item_count B) i)) refl
  refusal_same (result g) =
      judged_same (ltb g B.regions) (ltb g (plan_body plan').regions) (result_tests B here) (result_tests (plan_body plan') there)
      (shown plan s.counts s.values g) (shown plan' t.counts t.values g) (ap (λ (w : List ℕ). ltb g (body_of w).regions) e)
      (λ i. ap (λ (b : Bool). cond b 0 18) (complete_same B here there started_used finished_used ∙ ap (λ (w : List ℕ). is_complete (body_of w) there) e)) refl

  agree : Clear plan s.counts s.values → Agree (system B) here there
  agree c = used_agree B s t U (plan_fits (take plan_words plan) c.formed_plan_lem)

  accepted_same : (c : Call) → (call plan s c).refusal ≡ 0 → (call plan' t c).refusal ≡ 0 → (call plan s c).word ≡ (call plan' t c).word
  accepted_same (start a) h k =
      let c = start_clear plan s.counts s.values a h in
      start_word plan s.counts s.values a h
      ∙ (agree_word (system B) here there a ((start_turn plan s.counts s.values c a).0 h).0 (agree c)
      ∙ (ap (λ (w : List ℕ). word_on (system (body_of w)) a there.places) e ∙ sym (start_word plan' t.counts t.values a k)))
  accepted_same (finish a) h k =
      let c = finish_clear plan s.counts s.values a h in
      finish_word_lem plan s.counts s.values a h
      ∙ ((agree c).held a ((finish_can plan s.counts s.values c a).0 h).in_range ∙ sym (finish_word_lem plan' t.counts t.values a k))
  accepted_same (result g) h k =
      ap (λ (r : Left). r.word) (result_shown plan s.counts s.values g h)
      ∙ (result_agree B here there g (agree (result_clear plan s.counts s.values g h))
      ∙ (ap (λ (w : List ℕ). region_result (body_of w) there g) e ∙ ap (λ (r : Left). r.word) (sym (result_shown plan' t.counts t.values g k))))

  word_same : (c : Call) → (call plan s c).word ≡ (call plan' t c).word
  word_same c =
      elim (ℕ_discrete (call plan s c).refusal 0) [
        | yes z ↦ accepted_same c z (sym (refusal_same c) ∙ z)
        | no f ↦ (every_unchanged plan s c f).0 ∙ sym (every_unchanged plan' t c (λ z. f (refusal_same c ∙ z))).0
      ]

pub unread : (plan plan' : List ℕ) (s t : Lent) (c : Call) → take plan_words plan ≡ take plan_words plan' →
    (Short plan s.counts s.values → ⊥) → (Short plan' t.counts t.values → ⊥) → SameUsed (plan_body plan) s t →
    ((call plan s c).refusal ≡ (call plan' t c).refusal) × ((call plan s c).word ≡ (call plan' t c).word)
unread plan plan' s t c e f g U =
    let long = not_short plan s.counts s.values f in
    let long' = not_short plan' t.counts t.values g in
    (refusal_same plan plan' s t e long long' U c, word_same plan plan' s t e long long' U c)
