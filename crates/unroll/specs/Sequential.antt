-- The items in order: run one after another, pass after pass. Every other order is compared with this one; that it computes the
-- paper's unrolled loop, which knows no items, is shown in the crate body.
use Rattle.std.specs.Prelude.{ℕ, zero, suc, map}
use Rattle.std.proofs.Math.Logic.{ite}
use Rattle.std.proofs.Math.Decide.{dec_lt}
use Rattle.finite.specs.Update.{Store, put}
use Rattle.unroll.specs.System.{System}

module _ (S : System) where
  -- the word of item a on the store s
  unfoldable pub word_on : ℕ → Store → ℕ
  word_on a s = S.compute a (map s (S.reads a))

  -- the store after instance (p, a): if it is made, with its word in each place that it writes
  unfoldable pub execute : ℕ → ℕ → Store → Store
  execute p a s = ite (dec_lt p (S.passes a)) (put (S.writes a) (word_on a s) s) s

  -- the store after the items 0 .. a-1 in pass p
  unfoldable pub execute_to : ℕ → ℕ → Store → Store
  execute_to p zero s = s
  execute_to p (suc a) s = execute p a (execute_to p a s)

  -- the store before pass p
  unfoldable pub store_of : ℕ → Store
  store_of zero = S.initial
  store_of (suc p) = execute_to p S.items (store_of p)

  -- the store before instance (p, a), and the word of the instance
  unfoldable pub store_at : ℕ → ℕ → Store
  store_at p a = execute_to p a (store_of p)

  unfoldable pub word : ℕ → ℕ → ℕ
  word p a = word_on a (store_at p a)
