-- Following a chain of links.
use Prim.Native.Nat.{ℕ, zero, suc, ◌/◌, ◌≤◌}
use mathlib.Core.Path.{◌≡◌, refl}
use mathlib.Core.Bool.{false, ◌||◌}
use mathlib.Core.List.{List}
use native.Mathlib.Decide.{ℕ_discrete}
use native.Mathlib.Omega.{arith}
use borrow.Author.Tests.{eq-eqb, ne_eqb}
use lib.Dec.{eqb}
use lib.ListN.{get_or, set}
use lib.Seq.{get_or-set_other}
use Rattle.open_waits.specs.Sources.{follow, on_chain}

module _ (nexts : List ℕ) where
  follow_less : (k link b : ℕ) → link ≤ k → follow nexts k link b ≡ on_chain nexts link b
  unfolding follow on_chain
  follow_less zero link b h = let z : link ≡ 0 = omega arith in rw z
  follow_less (suc e) link b h =
      elim (ℕ_discrete link (suc e)) [
        | yes z ↦ rw z
        | no z ↦ rw (ne_eqb link (suc e) z) (follow_less e link b (omega (arith, z)))
      ]

  pub chain_none : (b : ℕ) → on_chain nexts 0 b ≡ false
  unfolding follow on_chain
  chain_none b = refl

  pub chain_first : (e b : ℕ) → get_or nexts e 0 ≤ e → on_chain nexts (suc e) b ≡ (eqb b (e / 8) || on_chain nexts (get_or nexts e 0) b)
  unfolding follow on_chain
  chain_first e b h = rw (eq-eqb (suc e) (suc e) refl, follow_less e (get_or nexts e 0) b h)

  follow_set : (k link b e v : ℕ) → k ≤ e → follow (set nexts e v) k link b ≡ follow nexts k link b
  unfolding follow
  follow_set zero link b e v h = refl
  follow_set (suc d) link b e v h =
      rw (get_or-set_other nexts e d v 0 (λ z. omega arith), follow_set d (get_or nexts d 0) b e v (omega arith), follow_set d link b e v (omega arith))

  -- a link is put at an event that the chain does not reach
  pub chain_set : (link b e v : ℕ) → link ≤ e → on_chain (set nexts e v) link b ≡ on_chain nexts link b
  unfolding on_chain
  chain_set link b e v h = follow_set link link b e v h
