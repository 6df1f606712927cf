-- While an item runs, every item that shares a place with it which one of them writes stands where
-- the items in order leave it. So a finish meets each edge from the item to an instance that is
-- made, and each edge to it is open after it.
use Prim.Native.Nat.{ℕ, suc, ◌+◌, ◌-◌, ◌≤◌, ◌<◌}
use mathlib.Core.Path.{◌≡◌, refl, sym, ◌∙◌, ap, subst}
use mathlib.Core.Bool.{Bool, true, false, cond, not, ◌&&◌, and-false}
use mathlib.Core.Logic.{inl, inr, ⊎_elim}
use native.Mathlib.Decide.{dec_lt, ℕ_discrete}
use native.Mathlib.Omega.{arith}
use borrow.Author.Tests.{eq-eqb, ne_eqb, lt-ltb, le-ltb}
use lib.Dec.{eqb, ltb}
use Rattle.finite.specs.Update.{update}
use Rattle.finite.proofs.Tests.{and_intro, and-true, not_both, test_ext}
use Rattle.finite.proofs.Below.{count_ext}
use Rattle.finite.proofs.Update.{update_same, update_other, update_ext}
use Rattle.unroll.specs.Instances.{Before, earlier, within}
use Rattle.unroll.specs.System.{System}
use Rattle.unroll.specs.Edges.{Conflict, Edge, rule, reuse}
use Rattle.unroll.specs.Machine.{State}
use Rattle.unroll.specs.Meaning.{WaitsMade}
use Rattle.unroll.proofs.Invariant.{Invariant}
use Rattle.edges.specs.Tests.{distance}
use Rattle.edges.proofs.Decided.{distance_later, distance_next}
use Rattle.waits.specs.Waits.{Tells, is_unmet, fresh_count, meets, lowered, Fresh}
use Rattle.waits.specs.InStep.{sources_of, InStep}
use Rattle.waits.proofs.Unmet.{own_met, meets_parts, meets_of, unmet_parts, unmet_of, count_left, count_done, count_agree}

-- there and back is one pass
distances : (a b : ℕ) → (a ≡ b → ⊥) → distance b a + distance a b ≡ 1
distances a b ne =
    elim (dec_lt b a) [
      | yes k ↦ omega (arith, distance_later b a k, distance_next a b (omega arith))
      | no k ↦ omega (arith, distance_next b a (omega arith), distance_later a b (omega arith))
    ]

module _ (S : System) where
  swapped : (a b x : ℕ) → Conflict S a b x → Conflict S b a x
  swapped a b x c = record { first = c.second; second = c.first; one_writes = ⊎_elim (λ h. inr h) (λ h. inl h) c.one_writes }

  edge_conflict : (a b d : ℕ) → (a ≡ b → ⊥) → Edge S a b d → (x : ℕ) × Conflict S a b x
  edge_conflict a b d ne (rule e) = (e.place, e.conflict)
  edge_conflict a b d ne (reuse l e h) = absurd (ne e)

  module _ (s : State) (i : Invariant S s) (b : ℕ) (lb : b < S.items) (running : s.started b ≡ suc (s.finished b)) where
    pub left : s.finished b < S.passes b
    left = omega (arith, i.most b, running)

    module _ (a x : ℕ) (la : a < S.items) (ne : a ≡ b → ⊥) (c : Conflict S a b x) where
      -- an instance that comes after b's has not finished
      not_beyond : s.finished a ≤ s.finished b + distance b a
      not_beyond =
          elim (dec_lt (s.finished b + distance b a) (s.finished a)) [
            | no m ↦ omega arith
            | yes m ↦ absurd (elim (dec_lt b a) [
              | yes k ↦ omega (arith, i.served (s.finished b) a la (omega (arith, m, i.low a, distance_later b a k)) (s.finished b) b x lb (within refl k) (swapped a b x c) left)
              | no k ↦ omega (arith, i.served (suc (s.finished b)) a la (omega (arith, m, i.low a, distance_next b a (omega arith))) (s.finished b) b x lb (earlier (omega arith)) (swapped a b x c) left)
            ])
          ]

      -- one that comes before it has, if it is made
      not_behind : s.finished a < s.finished b + distance b a → S.passes a ≤ s.finished a
      not_behind h =
          elim (dec_lt (s.finished a) (S.passes a)) [
            | no m ↦ omega arith
            | yes m ↦ absurd (omega (arith, i.served (s.finished b) b lb (omega arith) (s.finished a) a x la before c m))
          ]
        where
          before : Before (s.finished a) a (s.finished b) b
          before =
              elim (dec_lt (s.finished a) (s.finished b)) [
                | yes k ↦ earlier k
                | no k ↦ elim (dec_lt b a) [
                  | yes l ↦ absurd (omega (arith, h, distance_later b a l))
                  | no l ↦ within (omega (arith, h, distance_next b a (omega arith))) (omega arith)
                ]
              ]

-- by a test of the edges, with finished passes that agree with the state's
module _ (S : System) (edge : ℕ → ℕ → Bool) (T : Tells S edge) (W : WaitsMade S) (s : State) (i : Invariant S s) (b : ℕ) (lb : b < S.items)
    (running : s.started b ≡ suc (s.finished b)) (fin : ℕ → ℕ) (agree : (a : ℕ) → a < S.items → fin a ≡ s.finished a) where
  -- an item that b has an edge to waits for b's pass, or has no pass left
  target_waits : (a : ℕ) → a < S.items → (a ≡ b → ⊥) → edge b a ≡ true → fin a < S.passes a → fin a ≡ fin b + distance b a
  target_waits a la ne h l =
      let e = edge_conflict S b a (distance b a) (λ q. ne (sym q)) ((T b a lb la).0 h) in
      let c = swapped S b a e.0 e.1 in
      elim (dec_lt (s.finished a) (s.finished b + distance b a)) [
        | yes m ↦ absurd (omega (arith, not_behind S s i b lb running a e.0 la ne c m, agree a la))
        | no m ↦ omega (arith, not_beyond S s i b lb running a e.0 la ne c, agree a la, agree b lb)
      ]

  lowers : (number : ℕ → ℕ) → Fresh S edge fin number → number b ≡ 0 → (a : ℕ) → a < S.items → lowered S edge fin b number a ≡ cond (edge b a) (number a - 1) (number a)
  unfolding lowered
  lowers number f z a la = go (edge b a) refl (meets S edge fin b a) refl
    where
      -- no wait is met, and there is none
      none : edge b a ≡ true → (meets S edge fin b a ≡ true → ⊥) → number a ≡ 0
      none h m =
          elim (ℕ_discrete a b) [
            | yes e ↦ ap number e ∙ z
            | no ne ↦ elim (dec_lt (fin a) (S.passes a)) [
              | yes l ↦ absurd (m (meets_of S edge fin b a (record { stands = h; pass = target_waits a la ne h l; left = l })))
              | no l ↦ f a la ∙ count_done S edge fin a (omega arith)
            ]
          ]

      go : (t : Bool) → edge b a ≡ t → (m : Bool) → meets S edge fin b a ≡ m → cond m (number a - 1) (number a) ≡ cond t (number a - 1) (number a)
      go true h true g = refl
      go false h false g = refl
      go true h false g = omega (arith, none h (λ q. not_both q g))
      go false h true g = absurd (not_both (meets_parts S edge fin b a g).stands h)

  abbrev after : ℕ → ℕ
  after = update fin b (suc (fin b))

  own_after : after b ≡ suc (fin b)
  own_after = update_same fin b (suc (fin b))

  -- after it b waits for every other item that has an edge to it
  source_open : suc (fin b) < S.passes b → (a : ℕ) → a < S.items → (a ≡ b → ⊥) → edge a b ≡ true → is_unmet S edge after b a ≡ true
  source_open l a la ne h =
      let e = edge_conflict S a b (distance a b) ne ((T a b la lb).0 h) in
      let o : after a ≡ fin a = update_other fin b (suc (fin b)) a ne in
      let d = distances a b ne in
      let made : suc (fin b) - distance a b < S.passes a = W a b (distance a b) (suc (fin b) - distance a b) ((T a b la lb).0 h) (omega arith) in
      unmet_of S edge after b a
      (record {
        stands = h;
        unfinished = omega (arith, not_beyond S s i b lb running a e.0 la ne e.1, agree a la, agree b lb, o, own_after);
        made = omega (arith, own_after);
      })

  waits_each : suc (fin b) < S.passes b → (a : ℕ) → a < S.items → is_unmet S edge after b a ≡ (edge a b && not (eqb a b))
  waits_each l a la =
      elim (ℕ_discrete a b) [
        | yes e ↦ subst (λ (x : ℕ). is_unmet S edge after b x ≡ (edge x b && not (eqb x b))) (sym e) (own_met S edge after b ∙ sym (rw (eq-eqb b b refl) (and-false (edge b b))))
        | no ne ↦ rw (ne_eqb a b ne)
            (test_ext (is_unmet S edge after b a) (edge a b && true)
            (λ h. and_intro (edge a b) true (unmet_parts S edge after b a h).stands refl)
            (λ h. source_open l a la ne (and-true (edge a b) true h).0))
      ]

  waits_own : fresh_count S edge after b ≡ cond (ltb (suc (fin b)) (S.passes b)) (sources_of S edge b) 0
  unfolding sources_of
  waits_own =
      elim (dec_lt (suc (fin b)) (S.passes b)) [
        | yes l ↦ rw (lt-ltb (suc (fin b)) (S.passes b) l)
            (count_left S edge after b (omega (arith, own_after)) ∙ count_ext S.items (is_unmet S edge after b) (λ a. edge a b && not (eqb a b)) (waits_each l))
        | no l ↦ rw (le-ltb (suc (fin b)) (S.passes b) (omega arith)) (count_done S edge after b (omega (arith, own_after)))
      ]

  pub in_step : (number : ℕ → ℕ) → Fresh S edge fin number → number b ≡ 0 → InStep S edge fin number b
  in_step number f z = record { lowers = lowers number f z; own = waits_own }

-- by finished passes and numbers that agree with these
pub step_agree : (S : System) (edge : ℕ → ℕ → Bool) (fin fin' number number' : ℕ → ℕ) (b : ℕ) → b < S.items → ((a : ℕ) → a < S.items → fin a ≡ fin' a) →
    ((a : ℕ) → a < S.items → number a ≡ number' a) → InStep S edge fin number b → InStep S edge fin' number' b
unfolding lowered meets
step_agree S edge fin fin' number number' b lb f g I =
    record {
      lowers = λ a la. rw (← (f a la), ← (f b lb), ← (g a la)) (I.lowers a la);
      own = sym (count_agree S edge (update fin b (suc (fin b))) (update fin' b (suc (fin' b))) b lb (λ a la. update_ext fin fin' b _ _ a (ap suc (f b lb)) (f a la)))
          ∙ (I.own ∙ ap (λ (x : ℕ). cond (ltb (suc x) (S.passes b)) (sources_of S edge b) 0) (f b lb));
    }
