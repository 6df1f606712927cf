-- Words in form with another limit on passes.
use Rattle.std.proofs.Common.{◌≡◌, ℕ, ◌≤◌, Bool, true, false, ◌&&◌, leb, List, refl, ◌∙◌, arith, le-leb, leb-true}
use Rattle.plan.specs.Layout.{passes_of}
use Rattle.plan.specs.Limits.{max_passes}
use Rattle.plan.specs.Form.{words_within, form_within, in_form}

pub form_within_lem : (w : List ℕ) (most : ℕ) → most ≤ max_passes → form_within w most ≡ (leb (passes_of w) most && in_form w)
unfolding words_within in_form
form_within_lem w most h = go (leb (passes_of w) most) refl
  where
    go : (b : Bool) → leb (passes_of w) most ≡ b → form_within w most ≡ (leb (passes_of w) most && in_form w)
    go true e = rw (e, le-leb (passes_of w) max_passes (omega (arith, leb-true (passes_of w) most e)))
    go false e = rw e

-- of words with no more passes it says the same
pub form_kept : (w : List ℕ) (most : ℕ) → most ≤ max_passes → passes_of w ≤ most → form_within w most ≡ in_form w
form_kept w most h l = form_within_lem w most h ∙ rw (le-leb (passes_of w) most l)
