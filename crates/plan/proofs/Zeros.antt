-- Zeros are never in form: they have no rank.
use Rattle.std.proofs.Common.{◌≡◌, ℕ, zero, suc, false, replicate, refl, arith}
use Rattle.finite.proofs.Tests.{false_of, and-true}
use Rattle.plan.specs.Layout.{ranks_of}
use Rattle.plan.specs.Form.{words_ok, in_form}
use Rattle.plan.proofs.Facts.{formed}

no_rank : (n : ℕ) → ranks_of (replicate n 0) ≡ 0
no_rank zero = refl
no_rank (suc zero) = refl
no_rank (suc (suc n)) = refl

pub zeros : (n : ℕ) → in_form (replicate n 0) ≡ false
unfolding in_form
zeros n =
    false_of (in_form (replicate n 0))
    (λ h. let f = formed (replicate n 0) (and-true (words_ok (replicate n 0)) _ h).0 in omega (arith, f.ranks_least, no_rank n))
