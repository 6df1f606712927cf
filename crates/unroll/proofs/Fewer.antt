-- The items in order, where some instances are left out: the words of the others stay, if none of
-- them reads a place that an instance left out would have written before it.
use Prim.Native.Nat.{ℕ, zero, suc, ◌≤◌, ◌<◌}
use mathlib.Core.Path.{◌≡◌, refl, sym, ◌∙◌, ap}
use mathlib.Core.Logic.{⊎_elim}
use native.Mathlib.Decide.{dec_lt}
use native.Mathlib.Omega.{arith}
use Rattle.finite.specs.Lists.{mem}
use Rattle.finite.proofs.Tests.{true_or_false, not_both}
use Rattle.finite.proofs.Members.{map_ext}
use Rattle.unroll.specs.Instances.{Before, earlier, within}
use Rattle.unroll.specs.System.{System, Reads, Writes}
use Rattle.unroll.specs.Sequential.{word_on, store_at, word}
use Rattle.unroll.proofs.Instances.{before_pass}
use Rattle.unroll.proofs.Sequential.{store_written, store_kept, store_pass, store_open}

-- S with other passes
abbrev pub with_passes : System → (ℕ → ℕ) → System
with_passes S m = record { items = S.items; passes = m; reads = S.reads; writes = S.writes; compute = S.compute; initial = S.initial }

before_end : (p a q n : ℕ) → a < n → Before p a q n → Before p a (suc q) 0
before_end p a q n l u = earlier (omega (arith, before_pass p a q n u))

-- none is made only with m
module _ (S : System) (m : ℕ → ℕ) (le : (a : ℕ) → a < S.items → m a ≤ S.passes a) where
  -- before (q, b) no instance is left out that writes x
  abbrev pub Whole : ℕ → ℕ → ℕ → Type 0
  Whole q b x = (p a : ℕ) → a < S.items → Before p a q b → Writes S a x → p < S.passes a → p < m a

  -- the places that a made instance reads are whole before it
  module _ (W : (q b x : ℕ) → b < S.items → q < m b → Reads S b x → Whole q b x) where
    word_same : (q b : ℕ) → b < S.items → q < m b → ((x : ℕ) → Whole q b x → store_at (with_passes S m) q b x ≡ store_at S q b x) → word (with_passes S m) q b ≡ word S q b
    unfolding word word_on
    word_same q b lb h f = ap (S.compute b) (map_ext (store_at (with_passes S m) q b) (store_at S q b) (S.reads b) (λ x r. f x (W q b x lb h r)))

    store_item : (q b x : ℕ) → b < S.items → ((y : ℕ) → Whole q b y → store_at (with_passes S m) q b y ≡ store_at S q b y) → Whole q (suc b) x →
        store_at (with_passes S m) q (suc b) x ≡ store_at S q (suc b) x
    store_item q b x lb f w =
        ⊎_elim
        (λ z. elim (dec_lt q (S.passes b)) [
          | yes k ↦ (let h : q < m b = w q b lb (within refl (omega arith)) z k in
              store_written (with_passes S m) q b x h z ∙ (word_same q b lb h f ∙ sym (store_written S q b x k z)))
          | no k ↦ skipped (λ h y. k (omega (arith, le b lb))) (λ h y. k h)
        ])
        (λ z. skipped (λ h y. not_both y z) (λ h y. not_both y z))
        (true_or_false (mem x (S.writes b)))
      where
        skipped : (q < m b → Writes S b x → ⊥) → (q < S.passes b → Writes S b x → ⊥) → store_at (with_passes S m) q (suc b) x ≡ store_at S q (suc b) x
        skipped u v = store_kept (with_passes S m) q b x u ∙ (f x (λ p a la o. w p a la (step o)) ∙ sym (store_kept S q b x v))
          where
            step : {p a : ℕ} → Before p a q b → Before p a q (suc b)
            step (earlier h) = earlier h
            step (within e h) = within e (omega arith)

    store_items : (q b : ℕ) → b ≤ S.items → ((y : ℕ) → Whole q 0 y → store_at (with_passes S m) q 0 y ≡ store_at S q 0 y) →
        (x : ℕ) → Whole q b x → store_at (with_passes S m) q b x ≡ store_at S q b x
    store_items q zero l f x w = f x w
    store_items q (suc b) l f x w = store_item q b x l (store_items q b (omega arith) f) w

    store_passes : (q x : ℕ) → Whole q 0 x → store_at (with_passes S m) q 0 x ≡ store_at S q 0 x
    store_passes zero x w = store_open (with_passes S m) x ∙ sym (store_open S x)
    store_passes (suc q) x w =
        store_pass (with_passes S m) q x
        ∙ (store_items q S.items (omega arith) (store_passes q) x (λ p a la o. w p a la (before_end p a q S.items la o))
        ∙ sym (store_pass S q x))

    pub store_fewer : (q b x : ℕ) → b ≤ S.items → Whole q b x → store_at (with_passes S m) q b x ≡ store_at S q b x
    store_fewer q b x l w = store_items q b l (store_passes q) x w

    pub word_fewer : (q b : ℕ) → b < S.items → q < m b → word (with_passes S m) q b ≡ word S q b
    word_fewer q b lb h = word_same q b lb h (λ x. store_fewer q b x (omega arith))
