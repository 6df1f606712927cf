-- What an instance leaves in the store, and that a stretch of instances with no made writer of a place leaves it.
use Prim.Native.Nat.{ℕ, zero, suc, ◌≤◌, ◌<◌}
use mathlib.Core.Path.{◌≡◌, refl, sym, ◌∙◌, ap}
use mathlib.Core.Logic.{⊎_elim, if_pos, if_neg}
use native.Mathlib.Decide.{dec_lt}
use native.Mathlib.Omega.{arith}
use Rattle.finite.specs.Lists.{mem}
use Rattle.finite.specs.Update.{put}
use Rattle.finite.proofs.Tests.{true_or_false}
use Rattle.finite.proofs.Update.{put_in, put_out}
use Rattle.unroll.specs.Instances.{Before, earlier, within}
use Rattle.unroll.specs.System.{System, Writes}
use Rattle.unroll.specs.Sequential.{word_on, execute, execute_to, store_of, store_at, word}

module _ (S : System) where
  execute_made : (p a x : ℕ) (s : ℕ → ℕ) → p < S.passes a → execute S p a s x ≡ put (S.writes a) (word_on S a s) s x
  unfolding execute
  execute_made p a x s h = ap (λ (t : ℕ → ℕ). t x) (if_pos (dec_lt p (S.passes a)) h (put (S.writes a) (word_on S a s) s) s)

  execute_unmade : (p a x : ℕ) (s : ℕ → ℕ) → (p < S.passes a → ⊥) → execute S p a s x ≡ s x
  unfolding execute
  execute_unmade p a x s f = ap (λ (t : ℕ → ℕ). t x) (if_neg (dec_lt p (S.passes a)) f (put (S.writes a) (word_on S a s) s) s)

  pub store_written : (p a x : ℕ) → p < S.passes a → Writes S a x → store_at S p (suc a) x ≡ word S p a
  unfolding store_at execute_to word
  store_written p a x h w = execute_made p a x (execute_to S p a (store_of S p)) h ∙ put_in (S.writes a) _ _ x w

  -- the instance is not made, or does not write x
  pub store_kept : (p a x : ℕ) → (p < S.passes a → Writes S a x → ⊥) → store_at S p (suc a) x ≡ store_at S p a x
  unfolding store_at execute_to
  store_kept p a x f =
      elim (dec_lt p (S.passes a)) [
        | no h ↦ execute_unmade p a x (execute_to S p a (store_of S p)) h
        | yes h ↦ execute_made p a x (execute_to S p a (store_of S p)) h
            ∙ ⊎_elim (λ w. absurd (f h w)) (λ w. put_out (S.writes a) _ _ x w) (true_or_false (mem x (S.writes a)))
      ]

  pub store_pass : (p x : ℕ) → store_at S (suc p) 0 x ≡ store_at S p S.items x
  unfolding store_at execute_to store_of
  store_pass p x = refl

  pub store_open : (x : ℕ) → store_at S 0 0 x ≡ S.initial x
  unfolding store_at execute_to store_of
  store_open x = refl

  kept_items : (p a b x : ℕ) → a ≤ b → ((c : ℕ) → a ≤ c → c < b → p < S.passes c → Writes S c x → ⊥) → store_at S p b x ≡ store_at S p a x
  kept_items p a zero x h f = ap (λ (k : ℕ). store_at S p k x) (omega arith)
  kept_items p a (suc b) x h f =
      elim (dec_lt b a) [
        | yes k ↦ ap (λ (j : ℕ). store_at S p j x) (omega arith)
        | no k ↦ store_kept p b x (f b (omega arith) (omega arith)) ∙ kept_items p a b x (omega arith) (λ c u v. f c u (omega arith))
      ]

  kept_same : (p a q b x : ℕ) → p ≡ q → a ≤ b → ((c : ℕ) → a ≤ c → c < b → q < S.passes c → Writes S c x → ⊥) → store_at S q b x ≡ store_at S p a x
  kept_same p a q b x e h f = kept_items q a b x h f ∙ ap (λ (k : ℕ). store_at S k a x) (sym e)

  kept_passes : (p a q x : ℕ) → p < q → a ≤ S.items →
      ((r c : ℕ) → c < S.items → Before p a r (suc c) → r < q → r < S.passes c → Writes S c x → ⊥) → store_at S q 0 x ≡ store_at S p a x
  kept_passes p a zero x h la f = absurd (omega arith)
  kept_passes p a (suc q) x h la f =
      store_pass q x
      ∙ elim (dec_lt p q) [
        | yes k ↦ kept_items q 0 S.items x (omega arith) (λ c u v. f q c v (earlier k) (omega arith))
            ∙ kept_passes p a q x k la (λ r c l u v. f r c l u (omega arith))
        | no k ↦ kept_same p a q S.items x (omega arith) la (λ c u v. f q c v (within (omega arith) (omega arith)) (omega arith))
      ]

  -- no made writer of x from (p, a) on and before (q, b)
  pub store_stretch : (p a q b x : ℕ) → Before p a q (suc b) → a ≤ S.items → b ≤ S.items →
      ((r c : ℕ) → c < S.items → Before p a r (suc c) → Before r c q b → r < S.passes c → Writes S c x → ⊥) → store_at S q b x ≡ store_at S p a x
  store_stretch p a q b x (within e h) la lb f =
      kept_same p a q b x e (omega arith) (λ c u v. f q c (omega arith) (within e (omega arith)) (within refl v))
  store_stretch p a q b x (earlier h) la lb f =
      kept_items q 0 b x (omega arith) (λ c u v. f q c (omega arith) (earlier h) (within refl v))
      ∙ kept_passes p a q x h la (λ r c l u v. f r c l u (earlier v))
