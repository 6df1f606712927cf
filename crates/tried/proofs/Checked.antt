-- Journals of the example, from what is known of a check and of the example's first steps.
use Prim.Native.Nat.{ℕ}
use mathlib.Core.Path.{◌≡◌, refl}
use mathlib.Core.Logic.{◌⊎◌, inl, inr}
use mathlib.Core.List.{List, [], ◌∷◌}
use mathlib.Core.Option.{some}
use native.Mathlib.Omega.{arith}
use Rattle.body.specs.Items.{total_steps}
use Rattle.text.specs.Ascii.{ascii}
use Rattle.text.specs.Digits.{digits}
use Rattle.text.specs.Numbers.{number_of, well_formed}
use Rattle.graph.specs.Answers.{plan_body}
use Rattle.steps.specs.Answers.{Left}
use Rattle.steps.specs.Calls.{start as start_call, Lent, call, play, accepted}
use Rattle.journal.specs.Lines.{Step, start, step_of}
use Rattle.journal.specs.Written.{journal_of}
use Rattle.journal.specs.Laws.{Kept, unended, untrue, Checks, Completes}

-- lines, by computing
first_journal : ascii "start\t0\t6\n" ≡ journal_of (start 0 6 ∷ [])
unfolding digits
first_journal = refl

word_says : step_of (ascii "start\t0\t7") ≡ some (start 0 7)
unfolding step_of number_of well_formed
word_says = refl

early_says : step_of (ascii "start\t3\t6") ≡ some (start 3 6)
unfolding step_of number_of well_formed
early_says = refl

module _ (plan : List ℕ) (s : Lent) (check : List ℕ → Left) (C : Checks plan s check) (E : Completes plan s [] check) (total : total_steps (plan_body plan) ≡ 16) where
  none_kept : Kept plan s []
  none_kept [] m e p = let z : ◌≡◌ {A = ℕ} 0 1 = cc in absurd (omega arith)
  none_kept (c ∷ k) m e p = let z : ◌≡◌ {A = ℕ} 0 1 = cc in absurd (omega arith)

  -- no list of fewer than 16 steps is complete
  unfinished : (l : List Step) → Kept plan s l → (check (journal_of l)).refusal ≡ 0 → ((check (journal_of l)).word ≡ 1 → ⊥) → (check (journal_of l)).word ≡ 0
  unfinished l k z n = go (E.either (journal_of l) z)
    where
      go : ((check (journal_of l)).word ≡ 1) ⊎ ((check (journal_of l)).word ≡ 0) → (check (journal_of l)).word ≡ 0
      go (inl e) = absurd (n e)
      go (inr e) = e

  pub none_unfinished : ((check []).refusal ≡ 0) × ((check []).word ≡ 0)
  unfolding accepted
  none_unfinished = (E.empty.0, unfinished [] none_kept E.empty.0 (λ e. omega (arith, E.empty.1.0 e, total)))

  pub unended_refused : ((check (ascii "start\t0\t6")).refusal ≡ 20) × ((check (ascii "start\t0\t6")).word ≡ 1)
  unfolding play
  unended_refused =
      let r = C.stops_at [] (ascii "start\t0\t6") 20 none_kept (unended refl (λ e. let z : ◌≡◌ {A = ℕ} 0 1 = cc in omega arith)) in
      (r.0, r.1)

  -- item 0 starts with 6
  module _ (z : (call plan s (start_call 0)).refusal ≡ 0) (w : (call plan s (start_call 0)).word ≡ 6) where
    first_kept : Kept plan s (start 0 6 ∷ [])
    unfolding play
    first_kept [] m e p = let q : e ≡ start 0 6 = cc in rw q (z, w)
    first_kept (c ∷ []) m e p = let z : ◌≡◌ {A = ℕ} 0 1 = cc in absurd (omega arith)
    first_kept (c ∷ d ∷ k) m e p = let z : ◌≡◌ {A = ℕ} 0 1 = cc in absurd (omega arith)

    pub first_unfinished : ((check (ascii "start\t0\t6\n")).refusal ≡ 0) × ((check (ascii "start\t0\t6\n")).word ≡ 0)
    unfolding accepted play
    first_unfinished =
        let a : (check (journal_of (start 0 6 ∷ []))).refusal ≡ 0 = (C.accepts (journal_of (start 0 6 ∷ []))).1 (start 0 6 ∷ [], refl, first_kept) in
        rw first_journal (a, unfinished (start 0 6 ∷ []) first_kept a (λ e. omega (arith, (E.complete (start 0 6 ∷ []) first_kept).0 e, total)))

    pub word_refused : ((check (ascii "start\t0\t7\n")).refusal ≡ 21) × ((check (ascii "start\t0\t7\n")).word ≡ 1)
    unfolding play
    word_refused =
        let r = C.stops_at [] (ascii "start\t0\t7\n") 21 none_kept (untrue (ascii "start\t0\t7") [] [] (start 0 7) refl word_says (λ h. omega (arith, h.1, w))) in
        (r.0, r.1)

  -- item 3 does not start
  pub early_refused : (call plan s (start_call 3)).refusal ≡ 16 → ((check (ascii "start\t3\t6\n")).refusal ≡ 21) × ((check (ascii "start\t3\t6\n")).word ≡ 1)
  unfolding play
  early_refused n =
      let r = C.stops_at [] (ascii "start\t3\t6\n") 21 none_kept (untrue (ascii "start\t3\t6") [] [] (start 3 6) refl early_says (λ h. omega (arith, h.0, n))) in
      (r.0, r.1)
