-- The answers of the in-form test, by what is found on the way.
use Rattle.std.proofs.Common.{◌≡◌, ℕ, ◌≤◌, true, false, cond, leb, List, arith, le-leb, Some, None}
use Rattle.body.specs.Transfers.{transfer_count}
use Rattle.plan.specs.Limits.{max_transfers}
use Rattle.form.specs.Scan.{Answer}
use Rattle.plan.specs.Form.{in_form, words_ok}
use Rattle.plan.specs.Layout.{body_of}
use Rattle.form.proofs.Bound.{transfers_bounded}
use Rattle.plan.proofs.Facts.{formed}
use Rattle.transfers.proofs.Tally.{count_found}

module _ (w : List ℕ) where
  pub form_not : Answer w None → false ≡ in_form w
  unfolding in_form
  form_not h = rw h

  pub form_few : (changes : ℕ) → Answer w (Some changes) → changes ≤ max_transfers → leb changes max_transfers ≡ in_form w
  unfolding in_form
  form_few changes a l =
      let f = formed w a.0 in
      rw (le-leb changes max_transfers l, a.0, le-leb (transfer_count (body_of w)) max_transfers (omega (arith, a.1, transfers_bounded w f, count_found w f)))

  pub form_counted : (n : ℕ) → words_ok w ≡ true → n ≡ transfer_count (body_of w) → leb n max_transfers ≡ in_form w
  unfolding in_form
  form_counted n h k = rw (h, k)

  -- the masks where the words fail, and where they do not
  pub masks_not : (xs ys : List ℕ) → words_ok w ≡ false → xs ≡ cond (words_ok w) ys xs
  masks_not xs ys h = rw h

  pub masks_found : (xs ys zs : List ℕ) → words_ok w ≡ true → zs ≡ ys → zs ≡ cond (words_ok w) ys xs
  masks_found xs ys zs h k = rw h k
