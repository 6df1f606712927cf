-- The body of a plan in form fits, and is small enough that its edges have room.
use Prim.Native.Nat.{ℕ, ◌≤◌, ◌<◌}
use mathlib.Core.Path.{◌≡◌, refl, sym}
use mathlib.Core.Bool.{Bool, true, ◌||◌}
use mathlib.Core.Logic.{⊎_elim}
use mathlib.Core.List.{List}
use native.Mathlib.Omega.{arith}
use borrow.Author.Tests.{leb-true}
use Rattle.finite.specs.Below.{count_below}
use Rattle.finite.specs.Lists.{mem, gather}
use Rattle.finite.proofs.Tests.{and-true, or_cases}
use Rattle.finite.proofs.Below.{count_cover, count_le}
use Rattle.finite.proofs.Members.{mem_in}
use Rattle.finite.proofs.Lists.{in_gather_from}
use Rattle.body.specs.Body.{Fits}
use Rattle.body.specs.Transfers.{transfer_count}
use Rattle.edges.specs.EdgeList.{Small}
use Rattle.plan.specs.Limits.{max_regions, max_transfers}
use Rattle.plan.specs.Layout.{accesses_of, region_at, reads_of, writes_of, is_read, is_written, body_of}
use Rattle.plan.specs.Form.{words_ok, in_form}
use Rattle.plan.proofs.Facts.{formed, fits}

module _ (w : List ℕ) where
  pub form_words : in_form w ≡ true → words_ok w ≡ true
  unfolding in_form
  form_words h = (and-true (words_ok w) _ h).0

  pub form_transfers : in_form w ≡ true → transfer_count (body_of w) ≤ max_transfers
  unfolding in_form
  form_transfers h = leb-true (transfer_count (body_of w)) max_transfers (and-true (words_ok w) _ h).1

  -- a region of those that p chooses is that of an access
  chosen_access : (i g : ℕ) (p : ℕ → Bool) → mem g (gather (accesses_of w i) p (region_at w i)) ≡ true →
      (a : ℕ) × (a < accesses_of w i) × (◌≡◌ {A = Bool} true true) × (region_at w i a ≡ g)
  chosen_access i g p m =
      let r = in_gather_from (accesses_of w i) p (region_at w i) g (mem_in g (gather (accesses_of w i) p (region_at w i)) m) in
      (r.0, r.1, refl, sym r.3)

  -- a task touches no more regions than it has accesses
  touched_few : (i : ℕ) → count_below max_regions (λ g. mem g (writes_of w i) || mem g (reads_of w i)) ≤ accesses_of w i
  touched_few i =
      omega (
        arith,
        count_cover max_regions (accesses_of w i) (λ g. mem g (writes_of w i) || mem g (reads_of w i)) (λ a. true) (region_at w i)
            (λ g l h. ⊎_elim (chosen_access i g (is_written w i)) (chosen_access i g (is_read w i)) (or_cases (mem g (writes_of w i)) (mem g (reads_of w i)) h)),
        count_le (λ a. true) (accesses_of w i),
      )

pub plan_fits : (w : List ℕ) → in_form w ≡ true → Fits (body_of w)
plan_fits w h = fits w (form_words w h)

pub plan_small : (w : List ℕ) → in_form w ≡ true → Small (body_of w)
plan_small w h =
    let F = formed w (form_words w h) in
    record {
      tasks = F.tasks_most;
      regions = F.regions_most;
      accesses = λ i l. omega (arith, touched_few w i, (F.used i l).accesses_most);
      transfers = form_transfers w h;
    }
