-- What the numbers of unmet waits are, for any system and any test of its edges (proved in
-- proofs/Theorems.antt).
use Rattle.std.specs.Prelude.{ℕ, suc, ◌<◌, ◌≡◌, Bool, true, ◌↔◌}
use Rattle.finite.specs.Below.{count_below}
use Rattle.finite.specs.Update.{update}
use Rattle.unroll.specs.System.{System}
use Rattle.unroll.specs.Machine.{State, CanStart}
use Rattle.waits.specs.Waits.{Unmet, Tells, is_unmet, fresh_count, numbers_after, Fresh}

pub record Laws (S : System) (edge : ℕ → ℕ → Bool) : Type 0 where
  -- the test is the rule, and an item has no unmet wait for itself
  pub exactly : Tells S edge → (s : State) (a b : ℕ) → a < S.items → b < S.items → (is_unmet S edge s.finished a b ≡ true) ↔ Unmet S s a b
  pub own_met : (fin : ℕ → ℕ) (a : ℕ) → is_unmet S edge fin a a ≡ true → ⊥
  -- whichever test picks the items for which item a waits in vain, it picks so many; fewer than all
  pub counted : Tells S edge → (s : State) (a : ℕ) (t : ℕ → Bool) → a < S.items → s.finished a < S.passes a →
      ((b : ℕ) → b < S.items → (t b ≡ true) ↔ Unmet S s a b) → fresh_count S edge s.finished a ≡ count_below S.items t
  pub most : (fin : ℕ → ℕ) (a : ℕ) → a < S.items → fresh_count S edge fin a < S.items
  -- fresh counts stay fresh over a finish of an item that has the pass
  pub finished : (fin number : ℕ → ℕ) (b : ℕ) → b < S.items → fin b < S.passes b → Fresh S edge fin number →
      Fresh S edge (update fin b (suc (fin b))) (numbers_after S edge fin b number)
  -- of an item that does not run and has a pass left the count is 0 exactly if it can start
  pub starts : Tells S edge → (s : State) (a : ℕ) → a < S.items → s.finished a < S.passes a → s.started a ≡ s.finished a →
      (fresh_count S edge s.finished a ≡ 0) ↔ CanStart S s a
