-- What a finish does to the numbers in a state that calls reach from an opening. Every item that
-- has an edge to or from one that runs then stands where the items in order leave it, so that no
-- finished pass of another item need be looked at.
use Rattle.std.specs.Prelude.{ℕ, suc, ◌-◌, ◌<◌, ◌≡◌, Bool, cond, not, ◌&&◌, eqb, ltb}
use Rattle.finite.specs.Below.{count_below}
use Rattle.finite.specs.Update.{update}
use Rattle.unroll.specs.System.{System}
use Rattle.waits.specs.Waits.{fresh_count, lowered}

module _ (S : System) (edge : ℕ → ℕ → Bool) where
  -- how many other items have an edge to item a
  unfoldable pub sources_of : ℕ → ℕ
  sources_of a = count_below S.items (λ b. edge b a && not (eqb b a))

  -- item b runs, fin are the finished passes, and number the numbers of unmet waits
  pub record InStep (fin number : ℕ → ℕ) (b : ℕ) : Type 0 where
    -- its finish takes one off the number of each item that it has an edge to, a 0 staying 0
    pub lowers : (a : ℕ) → a < S.items → lowered S edge fin b number a ≡ cond (edge b a) (number a - 1) (number a)
    -- after it, it waits for every other item that has an edge to it, if it has a pass left
    pub own : fresh_count S edge (update fin b (suc (fin b))) b ≡ cond (ltb (suc (fin b)) (S.passes b)) (sources_of b) 0
