-- The number of accepted calls, and that accepted calls lead on to the end.
use Prim.Native.Nat.{ℕ, zero, suc, ◌+◌, ◌*◌, ◌≤◌}
use mathlib.Core.Path.{◌≡◌, refl, sym, ◌∙◌, ap}
use mathlib.Core.Logic.{inl, inr, ◌↔◌}
use mathlib.Core.List.{List, [], ◌∷◌, ◌++◌}
use native.Mathlib.Omega.{arith}
use lib.ListN.{length}
use Rattle.finite.specs.Below.{sum_below}
use Rattle.finite.specs.Update.{update}
use Rattle.finite.proofs.Below.{sum_const, sum_ext, sum_le, sum_tight, sum_suc}
use Rattle.finite.proofs.Update.{update_same, update_other}
use Rattle.unroll.specs.System.{System}
use Rattle.unroll.specs.Machine.{State, Call, start, finish, any_call, opening, Can, after, start_state, finish_state, Decides, step, run, accepted}
use Rattle.unroll.specs.AnyOrder.{WritersMade, End, all_steps, reached, steps}
use Rattle.unroll.proofs.Invariant.{Invariant}
use Rattle.unroll.proofs.Progress.{end_or_can}
use Rattle.unroll.proofs.Runs.{step_ind, can_steps, can_counts, run_append, step_invariant, reached_invariant}

module _ (S : System) where
  -- the accepted calls, as the counts show them
  abbrev pub total : State → ℕ
  total s = sum_below S.items (λ a. s.started a + s.finished a)

  total_after : (s : State) (c : Call) → Can S s c → total (after S s c) ≡ suc (total s)
  unfolding start_state finish_state
  total_after s (start a) h =
      sum_suc S.items (λ b. s.started b + s.finished b) (λ b. update s.started a (suc (s.started a)) b + s.finished b) a h.in_range
      (omega (arith, update_same s.started a (suc (s.started a))))
      (λ b ne. omega (arith, update_other s.started a (suc (s.started a)) b ne))
  total_after s (finish a) h =
      sum_suc S.items (λ b. s.started b + s.finished b) (λ b. s.started b + update s.finished a (suc (s.finished a)) b) a h.in_range
      (omega (arith, update_same s.finished a (suc (s.finished a))))
      (λ b ne. omega (arith, update_other s.finished a (suc (s.finished a)) b ne))

  total_opening : total (opening S) ≡ 0
  unfolding opening
  total_opening = sum_ext S.items (λ a. 0 + 0) (λ a. 0) (λ a l. omega arith) ∙ (sum_const S.items 0 ∙ omega arith)

  total_most : (s : State) → Invariant S s → total s ≤ all_steps S
  unfolding all_steps
  total_most s i = sum_le S.items _ _ (λ a l. omega (arith, i.low a, i.most a))

  total_end : (s : State) → Invariant S s → End S s → total s ≡ all_steps S
  unfolding all_steps
  total_end s i e = sum_ext S.items _ _ (λ a l. omega (arith, i.low a, i.most a, e a l))

  end_total : (s : State) → Invariant S s → total s ≡ all_steps S → End S s
  unfolding all_steps
  end_total s i e a l =
      omega (
        arith,
        i.low a,
        i.most a,
        sum_tight S.items (λ a. s.started a + s.finished a) (λ a. 2 * S.passes a) (λ a l. omega (arith, i.low a, i.most a)) e a l,
      )

module _ (S : System) (can : Decides S) where
  total_run : (s : State) (l : List Call) → total S (run S can s l) ≡ total S s + accepted S can any_call s l
  unfolding run accepted
  total_run s [] = omega arith
  total_run s (c ∷ l) =
      omega (
        arith,
        total_run (step S can s c) l,
        step_ind S can (λ t n. total S t ≡ total S s + n) s c 1 (λ h. omega (arith, total_after S s c h)) (omega arith),
      )

  pub counts : (l : List Call) → steps S can l ≡ total S (reached S can l)
  counts l = omega (arith, total_run (opening S) l, total_opening S)

  module _ (W : WritersMade S) where
    pub ends : (l : List Call) → End S (reached S can l) ↔ (steps S can l ≡ all_steps S)
    ends l =
        (λ e. counts l ∙ total_end S (reached S can l) (reached_invariant S can W l) e, λ e. end_total S (reached S can l) (reached_invariant S can W l) (sym (counts l) ∙ e))

    -- accepted calls from s to the end
    abbrev Leads : State → Type 0
    Leads s = (k : List Call) × (accepted S can any_call s k ≡ length k) × End S (run S can s k)

    lead_step : (s : State) (c : Call) → Can S s c → Leads (step S can s c) → Leads s
    unfolding run accepted
    lead_step s c h (k, n, e) = (c ∷ k, omega (arith, can_counts S can s c 1 h), e)

    -- with at most m steps left
    leads : (m : ℕ) (s : State) → Invariant S s → all_steps S ≤ total S s + m → Leads s
    unfolding run accepted
    leads zero s i h = ([], refl, end_total S s i (omega (arith, total_most S s i)))
    leads (suc m) s i h =
        elim (end_or_can S s i) [
          | inl e ↦ ([], refl, e)
          | inr p ↦ lead_step s p.0 p.1
              (leads m (step S can s p.0) (step_invariant S can W s p.0 i) (omega (arith, ap (total S) (can_steps S can s p.0 p.1), total_after S s p.0 p.1)))
        ]

    pub completes : (l : List Call) → (k : List Call) × (accepted S can any_call (reached S can l) k ≡ length k) × End S (reached S can (l ++ k))
    completes l = go (leads (all_steps S) (reached S can l) (reached_invariant S can W l) (omega arith))
      where
        go : Leads (reached S can l) → (k : List Call) × (accepted S can any_call (reached S can l) k ≡ length k) × End S (reached S can (l ++ k))
        go (k, n, e) = (k, n, rw (run_append S can (opening S) l k) e)
