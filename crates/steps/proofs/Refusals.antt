-- Which refusal a call gets: each number exactly where its condition holds and no earlier one does.
use Prim.Native.Nat.{ℕ, suc, ◌≤◌, ◌<◌}
use mathlib.Core.Path.{◌≡◌, refl, sym, ◌∙◌}
use mathlib.Core.Bool.{Bool, true, false, cond, ◌&&◌}
use mathlib.Core.Logic.{◌⊎◌, inl, inr, ⊎_elim, ◌↔◌}
use mathlib.Core.List.{List}
use native.Mathlib.Decide.{dec_lt, ℕ_discrete}
use native.Mathlib.Omega.{arith}
use borrow.Author.Tests.{eqb-true, eqb-false, ltb-true, ltb-false, eq-eqb, ne_eqb, lt-ltb, le-ltb}
use lib.Dec.{eqb, ltb}
use lib.ListN.{length}
use Rattle.finite.proofs.Tests.{true_or_false, and-true, and_intro, false_of, not_both}
use Rattle.unroll.specs.Machine.{State}
use Rattle.unroll.specs.Meaning.{StartRule}
use Rattle.body.specs.Items.{item_count, item_passes}
use Rattle.body.specs.Places.{system}
use Rattle.plan.specs.Layout.{plan_words}
use Rattle.graph.specs.Answers.{refusal_of, formed_plan, plan_body, is_item}
use Rattle.steps.specs.State.{count_words, value_words, state_of, unmet_by, FreshNumbers}
use Rattle.steps.specs.Answers.{Left, is_complete, start_tests, finish_tests, result_tests, long_slices, formed_counts, formed_numbers, unless, opened, open_of, started, start_of, finished, finish_of, shown, result_of}
use Rattle.steps.specs.Calls.{Call, start, finish, result, Lent, lent, call}
use Rattle.steps.proofs.Accepting.{complete, long_slices_lem, formed_counts_lem, formed_state, Short, short_slices, Clear, start_turn, start_rule}

-- three tests in turn: the number of the first that fails is told, a, b or c; where all hold it is m, which is none of these
module _ (a b c m : ℕ) (least : 0 < a) (second : a < b) (third : b < c) (own : (m ≡ 0) ⊎ (c < m)) where
  abbrev told : Bool → Bool → Bool → ℕ
  told x y z = cond x (cond y (cond z m c) b) a

  own_apart : (n : ℕ) → 0 < n → n ≤ c → m ≡ n → ⊥
  own_apart n l k e = ⊎_elim (λ z. omega arith) (λ z. omega arith) own

  first_fails : (x y z : Bool) → (told x y z ≡ a) ↔ (x ≡ false)
  first_fails x y z = (to x y z, λ e. rw e)
    where
      to : (x y z : Bool) → told x y z ≡ a → x ≡ false
      to true true true e = absurd (own_apart a least (omega arith) e)
      to true true false e = absurd (omega arith)
      to true false z e = absurd (omega arith)
      to false y z e = refl

  second_fails : (x y z : Bool) → (told x y z ≡ b) ↔ ((x ≡ true) × (y ≡ false))
  second_fails x y z = (to x y z, λ e. rw (e.0, e.1))
    where
      to : (x y z : Bool) → told x y z ≡ b → (x ≡ true) × (y ≡ false)
      to true true true e = absurd (own_apart b (omega arith) (omega arith) e)
      to true true false e = absurd (omega arith)
      to true false z e = (refl, refl)
      to false y z e = absurd (omega arith)

  third_fails : (x y z : Bool) → (told x y z ≡ c) ↔ ((x ≡ true) × (y ≡ true) × (z ≡ false))
  third_fails x y z = (to x y z, λ e. rw (e.0, e.1, e.2))
    where
      to : (x y z : Bool) → told x y z ≡ c → (x ≡ true) × (y ≡ true) × (z ≡ false)
      to true true true e = absurd (own_apart c (omega arith) (omega arith) e)
      to true true false e = (refl, refl, refl)
      to true false z e = absurd (omega arith)
      to false y z e = absurd (omega arith)

  none_fails : (n : ℕ) → c < n → (x y z : Bool) → (told x y z ≡ n) ↔ ((x ≡ true) × (y ≡ true) × (z ≡ true) × (m ≡ n))
  none_fails n l x y z = (to x y z, λ e. rw (e.0, e.1, e.2) e.3)
    where
      to : (x y z : Bool) → told x y z ≡ n → (x ≡ true) × (y ≡ true) × (z ≡ true) × (m ≡ n)
      to true true true e = (refl, refl, refl, e)
      to true true false e = absurd (omega arith)
      to true false z e = absurd (omega arith)
      to false y z e = absurd (omega arith)

-- a number that no test of every call gives
abbrev Own : ℕ → Type 0
Own m = (m ≡ 0) ⊎ (13 < m)

-- the tests of a finish and of a result

tests_17 : (x : Bool) → (◌≡◌ {A = ℕ} (cond x 17 0) 17) ↔ (x ≡ true)
tests_17 true = (λ e. refl, λ e. refl)
tests_17 false = (λ e. absurd (omega arith), λ e. absurd (not_both e refl))

tests_18 : (x : Bool) → (◌≡◌ {A = ℕ} (cond x 0 18) 18) ↔ (x ≡ false)
tests_18 true = (λ e. absurd (omega arith), λ e. absurd (not_both refl e))
tests_18 false = (λ e. refl, λ e. refl)

module _ (plan counts values : List ℕ) where
  pub is_short : long_slices plan counts values ≡ false → Short plan counts values
  is_short e =
      elim (dec_lt (length plan) plan_words) [
        | yes p ↦ inl p
        | no p ↦
            elim (dec_lt (length counts) count_words) [
              | yes q ↦ inr (inl q)
              | no q ↦
                  elim (dec_lt (length values) value_words) [
                    | yes r ↦ inr (inr r)
                    | no r ↦ absurd (not_both ((long_slices_lem plan counts values).1 (omega arith, omega arith, omega arith)) e)
                  ]
            ]
      ]

  pub none_short : (Short plan counts values → ⊥) → long_slices plan counts values ≡ true
  none_short f = ⊎_elim (λ l. l) (λ e. absurd (f (is_short e))) (true_or_false (long_slices plan counts values))

  pub not_short : long_slices plan counts values ≡ true → Short plan counts values → ⊥
  not_short l s = not_both l (short_slices plan counts values s)

  -- opening

  open_told : (open_of plan counts values).refusal ≡ refusal_of (long_slices plan counts values) (formed_plan plan) true
  unfolding open_of
  open_told = go (long_slices plan counts values) (formed_plan plan)
    where
      go : (x y : Bool) → (unless plan counts values (refusal_of x y true) (opened plan counts values)).refusal ≡ refusal_of x y true
      go true true = refl
      go true false = refl
      go false y = refl

  pub open_11 : ((open_of plan counts values).refusal ≡ 11) ↔ Short plan counts values
  open_11 =
      let k = first_fails 11 12 13 0 (omega arith) (omega arith) (omega arith) (inl refl) (long_slices plan counts values) (formed_plan plan) true in
      (λ e. is_short (k.0 (sym open_told ∙ e)), λ s. open_told ∙ k.1 (short_slices plan counts values s))

  pub open_12 : ((open_of plan counts values).refusal ≡ 12) ↔ ((long_slices plan counts values ≡ true) × (formed_plan plan ≡ false))
  open_12 =
      let k = second_fails 11 12 13 0 (omega arith) (omega arith) (omega arith) (inl refl) (long_slices plan counts values) (formed_plan plan) true in
      (λ e. k.0 (sym open_told ∙ e), λ s. open_told ∙ k.1 s)

-- the number of a call lies within its limit
abbrev pub within : List ℕ → Call → Bool
within plan (start a) = is_item plan a
within plan (finish a) = is_item plan a
within plan (result g) = ltb g (plan_body plan).regions

module _ (plan : List ℕ) (s : Lent) where
  -- what the own tests of a call give
  abbrev own_tests : Call → ℕ
  own_tests (start a) = start_tests (plan_body plan) (state_of s.counts s.values) (unmet_by s.counts a) a
  own_tests (finish a) = finish_tests (state_of s.counts s.values) a
  own_tests (result g) = result_tests (plan_body plan) (state_of s.counts s.values)

  own_beyond : (c : Call) → Own (own_tests c)
  own_beyond (start a) =
      go (ltb ((state_of s.counts s.values).finished a) (item_passes (plan_body plan) a)) (eqb ((state_of s.counts s.values).started a) ((state_of s.counts s.values).finished a))
      (eqb (unmet_by s.counts a) 0)
    where
      go : (x y z : Bool) → Own (cond x (cond y (cond z 0 16) 15) 14)
      go true true true = inl refl
      go true true false = inr (omega arith)
      go true false z = inr (omega arith)
      go false y z = inr (omega arith)
  own_beyond (finish a) = go (eqb ((state_of s.counts s.values).started a) ((state_of s.counts s.values).finished a))
    where
      go : (x : Bool) → Own (cond x 17 0)
      go true = inr (omega arith)
      go false = inl refl
  own_beyond (result g) = go (is_complete (plan_body plan) (state_of s.counts s.values))
    where
      go : (x : Bool) → Own (cond x 0 18)
      go true = inl refl
      go false = inr (omega arith)

  abbrev long : Bool
  long = long_slices plan s.counts s.values

  abbrev formed : Bool
  formed = formed_plan plan && formed_state plan s.counts s.values

  judged_told : (x y z : Bool) (m : ℕ) (r : Left) → r.refusal ≡ 0 →
      (unless plan s.counts s.values (refusal_of x y z) (unless plan s.counts s.values m r)).refusal ≡ cond x (cond y (cond z m 13) 12) 11
  judged_told true true true m r e =
      elim (ℕ_discrete m 0) [
        | yes k ↦ rw (eq-eqb m 0 k) (e ∙ sym k)
        | no k ↦ rw (ne_eqb m 0 k)
      ]
  judged_told true true false m r e = refl
  judged_told true false z m r e = refl
  judged_told false y z m r e = refl

  call_told : (c : Call) → (call plan s c).refusal ≡ cond long (cond formed (cond (within plan c) (own_tests c) 13) 12) 11
  unfolding start_of finish_of result_of
  call_told (start a) = judged_told long formed (within plan (start a)) (own_tests (start a)) (started plan s.counts s.values a) refl
  call_told (finish a) = judged_told long formed (within plan (finish a)) (own_tests (finish a)) (finished plan s.counts s.values a) refl
  call_told (result g) = judged_told long formed (within plan (result g)) (own_tests (result g)) (shown plan s.counts s.values g) refl

  clear_long : Clear plan s.counts s.values → (long ≡ true) × (formed ≡ true)
  clear_long c = (
    c.long,
    and_intro (formed_plan plan) (formed_state plan s.counts s.values) c.formed_plan_lem
        (and_intro (formed_counts plan s.counts s.values) (formed_numbers plan s.counts s.values) c.formed_counts_lem c.formed_numbers_lem),
  )

  long_clear : long ≡ true → formed ≡ true → Clear plan s.counts s.values
  long_clear l f =
      let k = and-true (formed_plan plan) (formed_state plan s.counts s.values) f in
      let q = and-true (formed_counts plan s.counts s.values) (formed_numbers plan s.counts s.values) k.1 in
      record { long = l; formed_plan_lem = k.0; formed_counts_lem = q.0; formed_numbers_lem = q.1 }

  module _ (c : Call) where
    pub call_11 : ((call plan s c).refusal ≡ 11) ↔ Short plan s.counts s.values
    call_11 =
        let k = first_fails 11 12 13 (own_tests c) (omega arith) (omega arith) (omega arith) (own_beyond c) long formed (within plan c) in
        (λ e. is_short plan s.counts s.values (k.0 (sym (call_told c) ∙ e)), λ h. call_told c ∙ k.1 (short_slices plan s.counts s.values h))

    pub call_12 : ((call plan s c).refusal ≡ 12) ↔ ((Short plan s.counts s.values → ⊥) × (Clear plan s.counts s.values → ⊥))
    call_12 =
        let k = second_fails 11 12 13 (own_tests c) (omega arith) (omega arith) (omega arith) (own_beyond c) long formed (within plan c) in (
          λ e. let h = k.0 (sym (call_told c) ∙ e) in (not_short plan s.counts s.values h.0, λ q. not_both (clear_long q).1 h.1),
          λ h.
              let l = none_short plan s.counts s.values h.0 in
              call_told c ∙ k.1 (l, false_of formed (λ f. h.1 (long_clear l f))),
        )

    pub call_13 : ((call plan s c).refusal ≡ 13) ↔ (Clear plan s.counts s.values × (within plan c ≡ false))
    call_13 =
        let k = third_fails 11 12 13 (own_tests c) (omega arith) (omega arith) (omega arith) (own_beyond c) long formed (within plan c) in (
          λ e. let h = k.0 (sym (call_told c) ∙ e) in (long_clear h.0 h.1, h.2),
          λ h. let q = clear_long h.0 in call_told c ∙ k.1 (q.0, q.1, h.1),
        )

    call_own : (n : ℕ) → 13 < n → ((call plan s c).refusal ≡ n) ↔ (Clear plan s.counts s.values × (within plan c ≡ true) × (own_tests c ≡ n))
    call_own n l =
        let k = none_fails 11 12 13 (own_tests c) (omega arith) (omega arith) (omega arith) (own_beyond c) n l long formed (within plan c) in (
          λ e. let h = k.0 (sym (call_told c) ∙ e) in (long_clear h.0 h.1, h.2, h.3),
          λ h. let q = clear_long h.0 in call_told c ∙ k.1 (q.0, q.1, h.1, h.2),
        )

-- the numbers of a start, a finish and a result

module _ (plan counts values : List ℕ) where
  abbrev now : State
  now = state_of counts values

  module _ (a : ℕ) where
    abbrev left : Bool
    left = ltb (now.finished a) (item_passes (plan_body plan) a)

    abbrev idle : Bool
    idle = eqb (now.started a) (now.finished a)

    abbrev met : Bool
    met = eqb (unmet_by counts a) 0

    pub start_14 : ((start_of plan counts values a).refusal ≡ 14) ↔ (Clear plan counts values × (a < item_count (plan_body plan)) × (now.finished a ≡ item_passes (plan_body plan) a))
    start_14 =
        let k = call_own plan (lent counts values) (start a) 14 (omega arith) in
        let t = first_fails 14 15 16 0 (omega arith) (omega arith) (omega arith) (inl refl) left idle met in (
          λ e.
              let h = k.0 e in
              let l : a < item_count (plan_body plan) = ltb-true a (item_count (plan_body plan)) h.1 in
              (h.0, l, omega (arith, ltb-false (now.finished a) (item_passes (plan_body plan) a) (t.0 h.2), ((formed_counts_lem plan counts values).0 h.0.formed_counts_lem a l).0)),
          λ h. k.1 (h.0, lt-ltb a (item_count (plan_body plan)) h.1, t.1 (le-ltb (now.finished a) (item_passes (plan_body plan) a) (omega (arith, h.2)))),
        )

    pub start_15 : ((start_of plan counts values a).refusal ≡ 15) ↔ (Clear plan counts values × (a < item_count (plan_body plan)) × (now.started a ≡ suc (now.finished a)))
    start_15 =
        let k = call_own plan (lent counts values) (start a) 15 (omega arith) in
        let t = second_fails 14 15 16 0 (omega arith) (omega arith) (omega arith) (inl refl) left idle met in (
          λ e.
              let h = k.0 e in
              let l : a < item_count (plan_body plan) = ltb-true a (item_count (plan_body plan)) h.1 in
              (h.0, l, ⊎_elim (λ q. absurd (eqb-false (now.started a) (now.finished a) (t.0 h.2).1 q)) (λ q. q.0) ((formed_counts_lem plan counts values).0 h.0.formed_counts_lem a l).1),
          λ h.
              let running : now.started a ≡ now.finished a → ⊥ = λ q. omega (arith, h.2) in
              let more : now.finished a < item_passes (plan_body plan) a = ⊎_elim (λ q. absurd (running q)) (λ q. q.1) ((formed_counts_lem plan counts values).0 h.0.formed_counts_lem a h.1).1 in
              k.1 (h.0, lt-ltb a (item_count (plan_body plan)) h.1, t.1 (lt-ltb (now.finished a) (item_passes (plan_body plan) a) more, ne_eqb (now.started a) (now.finished a) running)),
        )

    -- by the stored number
    pub start_16_number : ((start_of plan counts values a).refusal ≡ 16)
        ↔ (Clear plan counts values × (a < item_count (plan_body plan)) × (now.finished a < item_passes (plan_body plan) a) × (now.started a ≡ now.finished a)
        × (unmet_by counts a ≡ 0 → ⊥))
    start_16_number =
        let k = call_own plan (lent counts values) (start a) 16 (omega arith) in
        let t = third_fails 14 15 16 0 (omega arith) (omega arith) (omega arith) (inl refl) left idle met in (
          λ e.
              let h = k.0 e in
              let q = t.0 h.2 in (
                h.0,
                ltb-true a (item_count (plan_body plan)) h.1,
                ltb-true (now.finished a) (item_passes (plan_body plan) a) q.0,
                eqb-true (now.started a) (now.finished a) q.1,
                eqb-false (unmet_by counts a) 0 q.2,
              ),
          λ h.
              let i = lt-ltb a (item_count (plan_body plan)) h.1 in
              let l = lt-ltb (now.finished a) (item_passes (plan_body plan) a) h.2 in
              let d = eq-eqb (now.started a) (now.finished a) h.3 in
              k.1 (h.0, i, t.1 (l, d, ne_eqb (unmet_by counts a) 0 h.4)),
        )

    -- where the numbers are fresh, by the papers' words
    pub start_16 : FreshNumbers (plan_body plan) counts → ((start_of plan counts values a).refusal ≡ 16)
        ↔ (Clear plan counts values × (a < item_count (plan_body plan)) × (now.finished a < item_passes (plan_body plan) a) × (now.started a ≡ now.finished a)
        × (StartRule (system (plan_body plan)) now a → ⊥))
    start_16 f = (
      λ e.
          let h = start_16_number.0 e in
          (h.0, h.1, h.2, h.3, λ r. omega (arith, e, (start_rule plan counts values h.0 f a).1 r)),
      λ h.
          start_16_number.1 (
            h.0,
            h.1,
            h.2,
            h.3,
            λ z. h.4 ((start_rule plan counts values h.0 f a).0 ((start_turn plan counts values h.0 a).1 (h.1, (h.2, h.3, z)))),
          ),
    )

    pub finish_17 : ((finish_of plan counts values a).refusal ≡ 17) ↔ (Clear plan counts values × (a < item_count (plan_body plan)) × (now.started a ≡ now.finished a))
    finish_17 =
        let k = call_own plan (lent counts values) (finish a) 17 (omega arith) in (
          λ e.
              let h = k.0 e in
              (h.0, ltb-true a (item_count (plan_body plan)) h.1, eqb-true (now.started a) (now.finished a) ((tests_17 idle).0 h.2)),
          λ h. k.1 (h.0, lt-ltb a (item_count (plan_body plan)) h.1, (tests_17 idle).1 (eq-eqb (now.started a) (now.finished a) h.2)),
        )

  pub result_18 : (g : ℕ) → ((result_of plan counts values g).refusal ≡ 18)
      ↔ (Clear plan counts values × (g < (plan_body plan).regions) × (((a : ℕ) → a < item_count (plan_body plan) → now.finished a ≡ item_passes (plan_body plan) a) → ⊥))
  result_18 g =
      let k = call_own plan (lent counts values) (result g) 18 (omega arith) in
      let t = tests_18 (is_complete (plan_body plan) now) in (
        λ e. let h = k.0 e in (h.0, ltb-true g (plan_body plan).regions h.1, λ f. not_both ((complete (plan_body plan) now).1 f) (t.0 h.2)),
        λ h. k.1 (h.0, lt-ltb g (plan_body plan).regions h.1, t.1 (false_of (is_complete (plan_body plan) now) (λ f. h.2 ((complete (plan_body plan) now).0 f)))),
      )
