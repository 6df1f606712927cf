-- The steps of a journal on a state that calls reach from an opening: its values stay words, and
-- the numbers of a step that holds are words.
use Prim.Native.Nat.{ℕ, ◌≤◌}
use mathlib.Core.Path.{◌≡◌, refl, ap}
use mathlib.Core.Bool.{true}
use mathlib.Core.Logic.{◌↔◌}
use mathlib.Core.List.{List, [], ◌∷◌, ◌++◌}
use native.Mathlib.Decide.{ℕ_discrete}
use native.Mathlib.Omega.{arith}
use borrow.Author.Tests.{eqb-true, eq-eqb}
use lib.Dec.{eqb}
use lib.ListN.{length, take}
use Rattle.finite.proofs.Tests.{and-true}
use Rattle.plan.specs.Layout.{plan_words}
use Rattle.graph.specs.Answers.{formed_plan}
use Rattle.steps.specs.Answers.{Left}
use Rattle.steps.specs.Calls.{Call, start as start_call, finish as finish_call, result, Lent, lent_by, call, play}
use Rattle.steps.proofs.Accepting.{start_turn, start_started, finish_can, finish_finished, result_shown, every_unchanged}
use Rattle.steps.proofs.Placing.{items_few}
use Rattle.prepared.proofs.Reached.{Shown, shown_step, shown_clear}
use Rattle.journal.specs.Lines.{Step, start, finish}
use Rattle.journal.specs.Checking.{holds, after}
use Rattle.journal.specs.Laws.{Fits, Words, Holds, Kept}
use Rattle.journal.proofs.Bounded.{word_fits, started_fits, finished_fits}

module _ (plan : List ℕ) where
  pub holds_test : (s : Lent) (e : Step) → (holds (call plan) s e ≡ true) ↔ Holds plan s e
  holds_test s (start a w) = (
    λ h.
        let b = and-true (eqb (call plan s (start_call a)).refusal 0) (eqb (call plan s (start_call a)).word w) h in
        (eqb-true (call plan s (start_call a)).refusal 0 b.0, eqb-true (call plan s (start_call a)).word w b.1),
    λ h. rw (eq-eqb (call plan s (start_call a)).refusal 0 h.0) (eq-eqb (call plan s (start_call a)).word w h.1),
  )
  holds_test s (finish a) = (
    λ h. eqb-true (call plan s (finish_call a)).refusal 0 (and-true (eqb (call plan s (finish_call a)).refusal 0) true h).0,
    λ h. rw (eq-eqb (call plan s (finish_call a)).refusal 0 h),
  )

  -- each step holds in the state that those before it left
  unfoldable pub Each : Lent → List Step → Type 0
  Each s [] = Unit
  Each s (e ∷ l) = Holds plan s e × Each (after (call plan) s e) l

  pub kept_each : (l : List Step) (s : Lent) → Kept plan s l → Each s l
  unfolding Each play
  kept_each [] s h = tt
  kept_each (e ∷ l) s h = (h [] l e refl, kept_each l (after (call plan) s e) (λ k m d p. h (e ∷ k) m d (ap (λ r. e ∷ r) p)))

  pub each_kept : (l : List Step) (s : Lent) → Each s l → Kept plan s l
  unfolding Each play
  each_kept [] s h [] m d p = let z : ◌≡◌ {A = ℕ} 0 1 = cc in absurd (omega arith)
  each_kept [] s h (c ∷ k) m d p = let z : ◌≡◌ {A = ℕ} 0 1 = cc in absurd (omega arith)
  each_kept (e ∷ l) s h [] m d p = let q : d ≡ e = cc in rw q h.0
  each_kept (e ∷ l) s h (c ∷ k) m d p =
      let q : c ≡ e = cc in
      let r : l ≡ k ++ (d ∷ m) = cc in
      rw q (each_kept l (after (call plan) s e) h.1 k m d r)

  -- whatever call is tried, values that are words stay so
  call_words : Words plan → (s : Lent) (c : Call) → Words s.values → Words (call plan s c).values
  call_words p s c v =
      elim (ℕ_discrete (call plan s c).refusal 0) [
        | yes z ↦ made c z
        | no n ↦ rw (every_unchanged plan s c n).2 v
      ]
    where
      made : (c : Call) → (call plan s c).refusal ≡ 0 → Words (call plan s c).values
      made (start_call a) z = rw (start_started plan s.counts s.values a z) (started_fits plan s.counts s.values p v a)
      made (finish_call a) z = rw (finish_finished plan s.counts s.values a z) (finished_fits plan s.counts s.values p v a)
      made (result g) z = rw (result_shown plan s.counts s.values g z) v

  module _ (long : plan_words ≤ length plan) (formed : formed_plan plan ≡ true) where
    -- a state that calls reach from an opening, and whose values are words
    pub record Sound (s : Lent) : Type 0 where
      pub shown : Shown plan long formed s
      pub words : Words s.values

    module _ (plan_words_lem : Words plan) where
      pub call_sound : (s : Lent) (c : Call) → Sound s → Sound (lent_by (call plan s c))
      call_sound s c f = record { shown = shown_step plan long formed s f.shown c; words = call_words plan_words_lem s c f.words }

      pub play_sound : (l : List Call) (s : Lent) → Sound s → Sound (play plan s l)
      unfolding play
      play_sound [] s f = f
      play_sound (c ∷ l) s f = play_sound l (lent_by (call plan s c)) (call_sound s c f)

      pub step_fits : (s : Lent) (e : Step) → Sound s → Holds plan s e → Fits e
      step_fits s (start a w) f h =
          let c = shown_clear plan long formed s f.shown in
          let k = (start_turn plan s.counts s.values c a).0 h.0 in
          let v : (call plan s (start_call a)).word ≡ _ = ap (λ (r : Left). r.word) (start_started plan s.counts s.values a h.0) in
          (omega (arith, k.0, items_few (take plan_words plan) formed), omega (arith, word_fits plan s.counts s.values plan_words_lem f.words a, v, h.1))
      step_fits s (finish a) f h =
          let c = shown_clear plan long formed s f.shown in
          let k = (finish_can plan s.counts s.values c a).0 h in
          omega (arith, k.in_range, items_few (take plan_words plan) formed)
