-- When opening, start, finish and result are accepted, and what they then answer and leave; that a refused call changes nothing.
use Prim.Native.Nat.{ℕ, suc, ◌+◌, ◌≤◌, ◌<◌}
use mathlib.Core.Path.{◌≡◌, refl, sym, ◌∙◌, ap}
use mathlib.Core.Bool.{Bool, true, false, cond, ◌&&◌, and-false, or-true}
use mathlib.Core.Logic.{◌⊎◌, inl, inr, ⊎_elim, ◌↔◌}
use mathlib.Core.List.{List}
use native.Mathlib.Decide.{ℕ_discrete}
use native.Mathlib.Omega.{arith}
use borrow.Author.Tests.{eqb-true, ltb-true, leb-true, eq-eqb, ne_eqb, lt-ltb, le-leb, lt-leb}
use lib.Dec.{eqb, ltb, leb}
use lib.ListN.{length, take}
use Rattle.finite.proofs.Tests.{and-true, and_intro, or_cases}
use Rattle.finite.proofs.Below.{all_at, all_of}
use Rattle.unroll.specs.Machine.{State, CanStart, CanFinish}
use Rattle.unroll.specs.Meaning.{StartRule}
use Rattle.body.specs.Body.{Body}
use Rattle.body.specs.Items.{item_count, item_passes}
use Rattle.body.specs.Places.{system}
use Rattle.body.proofs.Theorems.{laws}
use Rattle.edges.specs.Tests.{edge_test}
use Rattle.waits.specs.Waits.{Tells}
use Rattle.waits.proofs.Fresh.{zero_starts}
use Rattle.waits.proofs.Bodies.{tells}
use Rattle.plan.specs.Layout.{plan_words}
use Rattle.graph.specs.Answers.{refusal_of, long_plan, formed_plan, plan_body, is_item}
use Rattle.graph.proofs.Small.{plan_fits, plan_small}
use Rattle.steps.specs.State.{count_words, value_words, state_of, unmet_by, FreshNumbers}
use Rattle.steps.specs.Answers.{Left, count_ok, is_complete, start_tests, finish_tests, result_tests, long_slices, formed_counts, formed_numbers, call_refusal, unless}
use Rattle.steps.specs.Answers.{opened, open_of, started, start_of, finished, finish_of, shown, result_of}
use Rattle.steps.specs.Calls.{Call, start, finish, result, Lent, call}

-- the tests, as facts

pub refusal_none : (long formed within : Bool) → refusal_of long formed within ≡ 0 → (long ≡ true) × (formed ≡ true) × (within ≡ true)
refusal_none true true true e = (refl, refl, refl)
refusal_none true true false e = absurd (omega arith)
refusal_none true false within e = absurd (omega arith)
refusal_none false formed within e = absurd (omega arith)

none_refusal : (long formed within : Bool) → long ≡ true → formed ≡ true → within ≡ true → refusal_of long formed within ≡ 0
none_refusal long formed within p q r = rw (p, q, r)

-- the counts of an item in form
abbrev pub CountFormed : ℕ → State → ℕ → Type 0
CountFormed passes s a = (s.finished a ≤ passes) × ((s.started a ≡ s.finished a) ⊎ ((s.started a ≡ suc (s.finished a)) × (s.finished a < passes)))

pub count_ok_lem : (passes : ℕ) (s : State) (a : ℕ) → (count_ok passes s a ≡ true) ↔ CountFormed passes s a
count_ok_lem passes s a = (to, from)
  where
    to : count_ok passes s a ≡ true → CountFormed passes s a
    to h =
        let r = and-true (leb (s.finished a) passes) _ h in (
          leb-true (s.finished a) passes r.0,
          ⊎_elim
              (λ e. inl (eqb-true (s.started a) (s.finished a) e))
              (λ e. let q = and-true (eqb (s.started a) (s.finished a + 1)) (ltb (s.finished a) passes) e in
              inr (omega (arith, eqb-true (s.started a) (s.finished a + 1) q.0), ltb-true (s.finished a) passes q.1))
              (or_cases (eqb (s.started a) (s.finished a)) _ r.1),
        )

    from : CountFormed passes s a → count_ok passes s a ≡ true
    from (l, inl e) = rw (le-leb (s.finished a) passes l, eq-eqb (s.started a) (s.finished a) e)
    from (l, inr (e, k)) =
        let n : s.started a ≡ s.finished a + 1 = omega arith in
        rw (le-leb (s.finished a) passes l, eq-eqb (s.started a) (s.finished a + 1) n, lt-ltb (s.finished a) passes k) (or-true (eqb (s.started a) (s.finished a)))

pub complete : (B : Body) (s : State) → (is_complete B s ≡ true) ↔ ((a : ℕ) → a < item_count B → s.finished a ≡ item_passes B a)
complete B s = (
  λ h a l. eqb-true (s.finished a) (item_passes B a) (all_at (λ a. eqb (s.finished a) (item_passes B a)) (item_count B) a h l),
  λ f. all_of (λ a. eqb (s.finished a) (item_passes B a)) (item_count B) (λ a l. eq-eqb (s.finished a) (item_passes B a) (f a l)),
)

-- item a has a pass left, does not run, and its number of unmet waits is 0
abbrev pub InTurn : Body → State → ℕ → ℕ → Type 0
InTurn B s number a = (s.finished a < item_passes B a) × (s.started a ≡ s.finished a) × (number ≡ 0)

start_none : (B : Body) (s : State) (number a : ℕ) → start_tests B s number a ≡ 0 → InTurn B s number a
start_none B s number a = go (ltb (s.finished a) (item_passes B a)) (eqb (s.started a) (s.finished a)) (eqb number 0) refl refl refl
  where
    go : (x y z : Bool) → ltb (s.finished a) (item_passes B a) ≡ x → eqb (s.started a) (s.finished a) ≡ y → eqb number 0 ≡ z →
        ◌≡◌ {A = ℕ} (cond x (cond y (cond z 0 16) 15) 14) 0 → InTurn B s number a
    go true true true p q r e = (ltb-true (s.finished a) (item_passes B a) p, eqb-true (s.started a) (s.finished a) q, eqb-true number 0 r)
    go true true false p q r e = absurd (omega arith)
    go true false z p q r e = absurd (omega arith)
    go false y z p q r e = absurd (omega arith)

none_start : (B : Body) (s : State) (number a : ℕ) → InTurn B s number a → start_tests B s number a ≡ 0
none_start B s number a t = rw (lt-ltb (s.finished a) (item_passes B a) t.0, eq-eqb (s.started a) (s.finished a) t.1, eq-eqb number 0 t.2)

finish_none : (s : State) (a : ℕ) → finish_tests s a ≡ 0 → s.started a ≡ s.finished a → ⊥
finish_none s a h e = let z : ◌≡◌ {A = ℕ} 17 0 = rw (eq-eqb (s.started a) (s.finished a) e) at h in omega arith

none_finish : (s : State) (a : ℕ) → (s.started a ≡ s.finished a → ⊥) → finish_tests s a ≡ 0
none_finish s a f = rw (ne_eqb (s.started a) (s.finished a) f)

result_none : (B : Body) (s : State) → result_tests B s ≡ 0 → is_complete B s ≡ true
result_none B s = go (is_complete B s)
  where
    go : (x : Bool) → ◌≡◌ {A = ℕ} (cond x 0 18) 0 → x ≡ true
    go true e = refl
    go false e = absurd (omega arith)

-- a slice too short
abbrev pub Short : List ℕ → List ℕ → List ℕ → Type 0
Short plan counts values = (length plan < plan_words) ⊎ ((length counts < count_words) ⊎ (length values < value_words))

module _ (plan counts values : List ℕ) where
  pub long_slices_lem : (long_slices plan counts values ≡ true) ↔ ((plan_words ≤ length plan) × (count_words ≤ length counts) × (value_words ≤ length values))
  long_slices_lem = (to, from)
    where
      to : long_slices plan counts values ≡ true → (plan_words ≤ length plan) × (count_words ≤ length counts) × (value_words ≤ length values)
      to h =
          let p = and-true (long_plan plan) _ h in
          let q = and-true (leb count_words (length counts)) (leb value_words (length values)) p.1 in
          (leb-true plan_words (length plan) p.0, leb-true count_words (length counts) q.0, leb-true value_words (length values) q.1)

      from : (plan_words ≤ length plan) × (count_words ≤ length counts) × (value_words ≤ length values) → long_slices plan counts values ≡ true
      from (p, q, r) = rw (le-leb plan_words (length plan) p, le-leb count_words (length counts) q, le-leb value_words (length values) r)

  pub short_slices : Short plan counts values → long_slices plan counts values ≡ false
  short_slices (inl p) = rw (lt-leb plan_words (length plan) p)
  short_slices (inr (inl q)) = rw (lt-leb count_words (length counts) q) (and-false (long_plan plan))
  short_slices (inr (inr r)) =
      rw (lt-leb value_words (length values) r, and-false (leb count_words (length counts))) (and-false (long_plan plan))

  pub formed_counts_lem : (formed_counts plan counts values ≡ true)
      ↔ ((a : ℕ) → a < item_count (plan_body plan) → CountFormed (item_passes (plan_body plan) a) (state_of counts values) a)
  formed_counts_lem = (
    λ h a l. (count_ok_lem (item_passes (plan_body plan) a) (state_of counts values) a).0 (all_at (λ a. count_ok (item_passes (plan_body plan) a) (state_of counts values) a) (item_count (plan_body plan)) a h l),
    λ f. all_of (λ a. count_ok (item_passes (plan_body plan) a) (state_of counts values) a) (item_count (plan_body plan)) (λ a l. (count_ok_lem (item_passes (plan_body plan) a) (state_of counts values) a).1 (f a l)),
  )

  pub formed_numbers_lem : (formed_numbers plan counts values ≡ true) ↔ ((a : ℕ) → a < item_count (plan_body plan) → unmet_by counts a ≤ item_count (plan_body plan))
  formed_numbers_lem = (
    λ h a l. leb-true (unmet_by counts a) (item_count (plan_body plan)) (all_at (λ a. leb (unmet_by counts a) (item_count (plan_body plan))) (item_count (plan_body plan)) a h l),
    λ f. all_of (λ a. leb (unmet_by counts a) (item_count (plan_body plan))) (item_count (plan_body plan)) (λ a l. le-leb (unmet_by counts a) (item_count (plan_body plan)) (f a l)),
  )

  -- the counts and numbers of all items are in form
  abbrev pub formed_state : Bool
  formed_state = formed_counts plan counts values && formed_numbers plan counts values

  -- neither 11 nor 12 is given
  pub record Clear : Type 0 where
    pub long : long_slices plan counts values ≡ true
    pub formed_plan_lem : formed_plan plan ≡ true
    pub formed_counts_lem : formed_counts plan counts values ≡ true
    pub formed_numbers_lem : formed_numbers plan counts values ≡ true

  -- what holds of a refused call
  abbrev pub Unchanged : Left → Type 0
  Unchanged r = (r.refusal ≡ 0 → ⊥) → (r.word ≡ 0) × (r.counts ≡ counts) × (r.values ≡ values)

  -- a call that is refused for n, if that is not 0

  unless_none : (n : ℕ) (r : Left) → n ≡ 0 → unless plan counts values n r ≡ r
  unless_none n r e = rw (eq-eqb n 0 e)

  unless_accepted : (n : ℕ) (r : Left) → (unless plan counts values n r).refusal ≡ 0 → (n ≡ 0) × (unless plan counts values n r ≡ r)
  unless_accepted n r h =
      elim (ℕ_discrete n 0) [
        | yes e ↦ (e, unless_none n r e)
        | no f ↦ absurd (f (rw (ne_eqb n 0 f) at h))
      ]

  pub unless_unchanged : (n : ℕ) (r : Left) → Unchanged r → Unchanged (unless plan counts values n r)
  unless_unchanged n r u = go (eqb n 0)
    where
      go : (b : Bool) → Unchanged (cond b r (record { refusal = n; word = 0; counts = counts; values = values }))
      go true = u
      go false = λ h. (refl, refl, refl)

  -- a step or result: its number within its limit or not, its own tests, and what it leaves where it is accepted
  module _ (within : Bool) (tests : ℕ) (made : Left) where
    abbrev judged : Left
    judged = unless plan counts values (call_refusal plan counts values within) (unless plan counts values tests made)

    judged_short : Short plan counts values → judged.refusal ≡ 11
    judged_short h = rw (short_slices h)

    judged_unchanged : made.refusal ≡ 0 → Unchanged judged
    judged_unchanged e =
        unless_unchanged (call_refusal plan counts values within) (unless plan counts values tests made) (unless_unchanged tests made (λ f. absurd (f e)))

    judged_accepted : judged.refusal ≡ 0 → Clear × (within ≡ true) × (tests ≡ 0) × (judged ≡ made)
    judged_accepted h =
        let p = unless_accepted (call_refusal plan counts values within) (unless plan counts values tests made) h in
        let q = unless_accepted tests made (sym (ap (λ (r : Left). r.refusal) p.1) ∙ h) in
        let t = refusal_none (long_slices plan counts values) (formed_plan plan && formed_state) within p.0 in
        let f = and-true (formed_plan plan) formed_state t.1 in
        let g = and-true (formed_counts plan counts values) (formed_numbers plan counts values) f.1 in
        (record { long = t.0; formed_plan_lem = f.0; formed_counts_lem = g.0; formed_numbers_lem = g.1 }, t.2, q.0, p.1 ∙ q.1)

    accepted_judged : Clear → within ≡ true → tests ≡ 0 → judged ≡ made
    accepted_judged c l e =
        unless_none (call_refusal plan counts values within) (unless plan counts values tests made)
        (none_refusal (long_slices plan counts values) (formed_plan plan && formed_state) within c.long
        (and_intro (formed_plan plan) formed_state c.formed_plan_lem
        (and_intro (formed_counts plan counts values) (formed_numbers plan counts values) c.formed_counts_lem c.formed_numbers_lem)) l)
        ∙ unless_none tests made e

  -- opening

  pub open_short : Short plan counts values → (open_of plan counts values).refusal ≡ 11
  unfolding open_of
  open_short h = rw (short_slices h)

  pub open_unchanged : Unchanged (open_of plan counts values)
  unfolding open_of
  open_unchanged = unless_unchanged (refusal_of (long_slices plan counts values) (formed_plan plan) true) (opened plan counts values) (λ h. absurd (h refl))

  pub open_opened : long_slices plan counts values ≡ true → formed_plan plan ≡ true → open_of plan counts values ≡ opened plan counts values
  unfolding open_of
  open_opened l f =
      unless_none (refusal_of (long_slices plan counts values) (formed_plan plan) true) (opened plan counts values)
      (none_refusal (long_slices plan counts values) (formed_plan plan) true l f refl)

  pub open_accepted : ((open_of plan counts values).refusal ≡ 0) ↔ ((long_slices plan counts values ≡ true) × (formed_plan plan ≡ true))
  unfolding open_of
  open_accepted = (
    λ h. let r = refusal_none (long_slices plan counts values) (formed_plan plan) true
        (unless_accepted (refusal_of (long_slices plan counts values) (formed_plan plan) true) (opened plan counts values) h).0 in (r.0, r.1),
    λ h. ap (λ (x : Left). x.refusal) (open_opened h.0 h.1),
  )

  -- start

  pub start_short : (a : ℕ) → Short plan counts values → (start_of plan counts values a).refusal ≡ 11
  unfolding start_of
  start_short a = judged_short (is_item plan a) (start_tests (plan_body plan) (state_of counts values) (unmet_by counts a) a) (started plan counts values a)

  pub start_unchanged : (a : ℕ) → Unchanged (start_of plan counts values a)
  unfolding start_of
  start_unchanged a = judged_unchanged (is_item plan a) (start_tests (plan_body plan) (state_of counts values) (unmet_by counts a) a) (started plan counts values a) refl

  start_parts : (a : ℕ) → (start_of plan counts values a).refusal ≡ 0 →
      Clear × (is_item plan a ≡ true) × (start_tests (plan_body plan) (state_of counts values) (unmet_by counts a) a ≡ 0) × (start_of plan counts values a ≡ started plan counts values a)
  unfolding start_of
  start_parts a = judged_accepted (is_item plan a) (start_tests (plan_body plan) (state_of counts values) (unmet_by counts a) a) (started plan counts values a)

  parts_start : (a : ℕ) → Clear → is_item plan a ≡ true → start_tests (plan_body plan) (state_of counts values) (unmet_by counts a) a ≡ 0 → start_of plan counts values a ≡ started plan counts values a
  unfolding start_of
  parts_start a = accepted_judged (is_item plan a) (start_tests (plan_body plan) (state_of counts values) (unmet_by counts a) a) (started plan counts values a)

  pub start_clear : (a : ℕ) → (start_of plan counts values a).refusal ≡ 0 → Clear
  start_clear a h = (start_parts a h).0

  pub start_started : (a : ℕ) → (start_of plan counts values a).refusal ≡ 0 → start_of plan counts values a ≡ started plan counts values a
  start_started a h = (start_parts a h).3

  -- by the item's own number
  pub start_turn : Clear → (a : ℕ) → ((start_of plan counts values a).refusal ≡ 0)
      ↔ ((a < item_count (plan_body plan)) × InTurn (plan_body plan) (state_of counts values) (unmet_by counts a) a)
  start_turn c a = (
    λ h.
        let p = start_parts a h in
        (ltb-true a (item_count (plan_body plan)) p.1, start_none (plan_body plan) (state_of counts values) (unmet_by counts a) a p.2),
    λ h.
        ap (λ (x : Left). x.refusal)
        (parts_start a c (lt-ltb a (item_count (plan_body plan)) h.0) (none_start (plan_body plan) (state_of counts values) (unmet_by counts a) a h.1)),
  )

  -- where the numbers are fresh, by the waits, and exactly by the papers' words
  pub start_can : Clear → FreshNumbers (plan_body plan) counts → (a : ℕ) →
      ((start_of plan counts values a).refusal ≡ 0) ↔ CanStart (system (plan_body plan)) (state_of counts values) a
  start_can c f a = (to, from)
    where
      T : Tells (system (plan_body plan)) (edge_test (plan_body plan))
      T = tells (plan_body plan) (plan_fits (take plan_words plan) c.formed_plan_lem) (plan_small (take plan_words plan) c.formed_plan_lem).regions

      to : (start_of plan counts values a).refusal ≡ 0 → CanStart (system (plan_body plan)) (state_of counts values) a
      to h =
          let t = (start_turn c a).0 h in
          (zero_starts (system (plan_body plan)) (edge_test (plan_body plan)) T (state_of counts values) a t.0 t.1.0 t.1.1).0 (sym (f a t.0) ∙ t.1.2)

      from : CanStart (system (plan_body plan)) (state_of counts values) a → (start_of plan counts values a).refusal ≡ 0
      from k =
          let z = (zero_starts (system (plan_body plan)) (edge_test (plan_body plan)) T (state_of counts values) a k.in_range k.left k.idle).1 k in
          (start_turn c a).1 (k.in_range, (k.left, k.idle, f a k.in_range ∙ z))

  pub start_rule : Clear → FreshNumbers (plan_body plan) counts → (a : ℕ) →
      ((start_of plan counts values a).refusal ≡ 0) ↔ StartRule (system (plan_body plan)) (state_of counts values) a
  start_rule c f a =
      let r = laws.start_rule (plan_body plan) (state_of counts values) a in
      (λ h. r.0 ((start_can c f a).0 h), λ k. (start_can c f a).1 (r.1 k))

  -- finish

  pub finish_short : (a : ℕ) → Short plan counts values → (finish_of plan counts values a).refusal ≡ 11
  unfolding finish_of
  finish_short a = judged_short (is_item plan a) (finish_tests (state_of counts values) a) (finished plan counts values a)

  pub finish_unchanged : (a : ℕ) → Unchanged (finish_of plan counts values a)
  unfolding finish_of
  finish_unchanged a = judged_unchanged (is_item plan a) (finish_tests (state_of counts values) a) (finished plan counts values a) refl

  finish_parts : (a : ℕ) → (finish_of plan counts values a).refusal ≡ 0 →
      Clear × (is_item plan a ≡ true) × (finish_tests (state_of counts values) a ≡ 0) × (finish_of plan counts values a ≡ finished plan counts values a)
  unfolding finish_of
  finish_parts a = judged_accepted (is_item plan a) (finish_tests (state_of counts values) a) (finished plan counts values a)

  parts_finish : (a : ℕ) → Clear → is_item plan a ≡ true → finish_tests (state_of counts values) a ≡ 0 → finish_of plan counts values a ≡ finished plan counts values a
  unfolding finish_of
  parts_finish a = accepted_judged (is_item plan a) (finish_tests (state_of counts values) a) (finished plan counts values a)

  pub finish_clear : (a : ℕ) → (finish_of plan counts values a).refusal ≡ 0 → Clear
  finish_clear a h = (finish_parts a h).0

  pub finish_finished : (a : ℕ) → (finish_of plan counts values a).refusal ≡ 0 → finish_of plan counts values a ≡ finished plan counts values a
  finish_finished a h = (finish_parts a h).3

  pub finish_can : Clear → (a : ℕ) → ((finish_of plan counts values a).refusal ≡ 0) ↔ CanFinish (system (plan_body plan)) (state_of counts values) a
  finish_can c a = (to, from)
    where
      to : (finish_of plan counts values a).refusal ≡ 0 → CanFinish (system (plan_body plan)) (state_of counts values) a
      to h =
          let p = finish_parts a h in
          let l : a < item_count (plan_body plan) = ltb-true a (item_count (plan_body plan)) p.1 in
          record {
            in_range = l;
            running = ⊎_elim (λ e. absurd (finish_none (state_of counts values) a p.2 e)) (λ q. q.0) (formed_counts_lem.0 c.formed_counts_lem a l).1;
          }

      from : CanFinish (system (plan_body plan)) (state_of counts values) a → (finish_of plan counts values a).refusal ≡ 0
      from k =
          ap (λ (x : Left). x.refusal)
          (parts_finish a c (lt-ltb a (item_count (plan_body plan)) k.in_range) (none_finish (state_of counts values) a (λ e. omega (arith, k.running))))

  -- result

  pub result_short : (g : ℕ) → Short plan counts values → (result_of plan counts values g).refusal ≡ 11
  unfolding result_of
  result_short g = judged_short (ltb g (plan_body plan).regions) (result_tests (plan_body plan) (state_of counts values)) (shown plan counts values g)

  pub result_unchanged : (g : ℕ) → Unchanged (result_of plan counts values g)
  unfolding result_of
  result_unchanged g = judged_unchanged (ltb g (plan_body plan).regions) (result_tests (plan_body plan) (state_of counts values)) (shown plan counts values g) refl

  result_parts : (g : ℕ) → (result_of plan counts values g).refusal ≡ 0 →
      Clear × (ltb g (plan_body plan).regions ≡ true) × (result_tests (plan_body plan) (state_of counts values) ≡ 0) × (result_of plan counts values g ≡ shown plan counts values g)
  unfolding result_of
  result_parts g = judged_accepted (ltb g (plan_body plan).regions) (result_tests (plan_body plan) (state_of counts values)) (shown plan counts values g)

  parts_result : (g : ℕ) → Clear → ltb g (plan_body plan).regions ≡ true → result_tests (plan_body plan) (state_of counts values) ≡ 0 → result_of plan counts values g ≡ shown plan counts values g
  unfolding result_of
  parts_result g = accepted_judged (ltb g (plan_body plan).regions) (result_tests (plan_body plan) (state_of counts values)) (shown plan counts values g)

  pub result_clear : (g : ℕ) → (result_of plan counts values g).refusal ≡ 0 → Clear
  result_clear g h = (result_parts g h).0

  pub result_shown : (g : ℕ) → (result_of plan counts values g).refusal ≡ 0 → result_of plan counts values g ≡ shown plan counts values g
  result_shown g h = (result_parts g h).3

  pub result_complete : Clear → (g : ℕ) → ((result_of plan counts values g).refusal ≡ 0)
      ↔ ((g < (plan_body plan).regions) × ((a : ℕ) → a < item_count (plan_body plan) → (state_of counts values).finished a ≡ item_passes (plan_body plan) a))
  result_complete c g = (
    λ h.
        let p = result_parts g h in
        (ltb-true g (plan_body plan).regions p.1, (complete (plan_body plan) (state_of counts values)).0 (result_none (plan_body plan) (state_of counts values) p.2)),
    λ h.
        ap (λ (x : Left). x.refusal)
        (parts_result g c (lt-ltb g (plan_body plan).regions h.0) (ap (λ (b : Bool). cond b 0 18) ((complete (plan_body plan) (state_of counts values)).1 h.1))),
  )

-- any call

pub every_short : (plan : List ℕ) (s : Lent) (c : Call) → Short plan s.counts s.values → (call plan s c).refusal ≡ 11
every_short plan s (start a) h = start_short plan s.counts s.values a h
every_short plan s (finish a) h = finish_short plan s.counts s.values a h
every_short plan s (result g) h = result_short plan s.counts s.values g h

pub every_unchanged : (plan : List ℕ) (s : Lent) (c : Call) → Unchanged plan s.counts s.values (call plan s c)
every_unchanged plan s (start a) = start_unchanged plan s.counts s.values a
every_unchanged plan s (finish a) = finish_unchanged plan s.counts s.values a
every_unchanged plan s (result g) = result_unchanged plan s.counts s.values g
