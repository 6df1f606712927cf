-- The waits of an item that are unmet, how many they are, and what a finish does to these numbers
-- (paper 02, card 7).
use Rattle.std.specs.Prelude.{ℕ, suc, ◌+◌, ◌-◌, ◌<◌, ◌≡◌, Bool, true, cond, ◌&&◌, ◌↔◌, eqb, ltb, leb}
use Rattle.finite.specs.Below.{count_below}
use Rattle.finite.specs.Update.{update}
use Rattle.unroll.specs.System.{System}
use Rattle.unroll.specs.Edges.{Edge}
use Rattle.unroll.specs.Machine.{State, Met}
use Rattle.edges.specs.Tests.{distance}

module _ (S : System) where
  -- of the waits of item a for the first pass that it has not finished, the one for item b is
  -- unmet: an edge leads from b to a at distance d, and its source, b in pass p, is made and has
  -- not finished. Where there is no such p, there is nothing to wait for
  pub record Unmet (s : State) (a b : ℕ) : Type 0 where
    pub d : ℕ
    pub p : ℕ
    pub edge : Edge S b a d
    pub source : p + d ≡ s.finished a
    pub unmet : Met S s b p → ⊥

  -- a test of the edges: from b to a there is one at most, at this distance
  abbrev pub Tells : (ℕ → ℕ → Bool) → Type 0
  Tells edge = (b a : ℕ) → b < S.items → a < S.items → (edge b a ≡ true) ↔ Edge S b a (distance b a)

-- `edge` tests the edges, and fin b are the finished passes of item b
module _ (S : System) (edge : ℕ → ℕ → Bool) where
  -- the same as a test: of p, fin b ≤ p and p < passes b
  unfoldable pub is_unmet : (ℕ → ℕ) → ℕ → ℕ → Bool
  is_unmet fin a b = edge b a && (leb (fin b + distance b a) (fin a) && ltb (fin a) (S.passes b + distance b a))

  -- how many waits of item a for the first pass that it has not finished are unmet; 0 once its
  -- passes are done
  unfoldable pub fresh_count : (ℕ → ℕ) → ℕ → ℕ
  fresh_count fin a = cond (ltb (fin a) (S.passes a)) (count_below S.items (is_unmet fin a)) 0

  -- a finish of item b in pass fin b meets a wait of item a: an edge leads from b to a at distance
  -- d, and fin b + d is the first pass that a has not finished, and one that it has
  unfoldable pub meets : (ℕ → ℕ) → ℕ → ℕ → Bool
  meets fin b a = edge b a && (eqb (fin a) (fin b + distance b a) && ltb (fin a) (S.passes a))

  -- one off the number of each item whose wait a finish of b meets, a 0 staying 0
  unfoldable pub lowered : (ℕ → ℕ) → ℕ → (ℕ → ℕ) → ℕ → ℕ
  lowered fin b number a = cond (meets fin b a) (number a - 1) (number a)

  -- the numbers after a finish of b: it lowers those of the others, and b's own is counted afresh
  unfoldable pub numbers_after : (ℕ → ℕ) → ℕ → (ℕ → ℕ) → ℕ → ℕ
  numbers_after fin b number = update (lowered fin b number) b (fresh_count (update fin b (suc (fin b))) b)

  -- each number is a fresh count
  abbrev pub Fresh : (ℕ → ℕ) → (ℕ → ℕ) → Type 0
  Fresh fin number = (a : ℕ) → a < S.items → number a ≡ fresh_count fin a
