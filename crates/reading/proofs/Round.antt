-- The laws of reading, over words that are a plan's canonical ones.
use Prim.Native.Nat.{ℕ, zero, suc, ◌≤◌}
use mathlib.Core.Path.{◌≡◌, refl, ap, ◌∙◌}
use mathlib.Core.Bool.{true, false}
use mathlib.Core.List.{List}
use native.Mathlib.Omega.{arith}
use borrow.Author.Tests.{le-ltb}
use lib.Dec.{eqb, leb, eqb-suc-zero}
use lib.ListN.{length}
use Rattle.finite.proofs.Tests.{and-true, not_both}
use Rattle.body.specs.Transfers.{transfer_count}
use Rattle.text.proofs.WordLaws.{alike_same}
use Rattle.plan.specs.Layout.{body_of, regions_of}
use Rattle.plan.specs.Limits.{max_bytes, max_transfers}
use Rattle.plan.specs.Sizes.{text_bytes}
use Rattle.reading.specs.Plan.{Plan, plan_of, words_of}
use Rattle.reading.specs.Reading.{accepted, at_end, closed, first, read_of}
use Rattle.reading.specs.Valid.{valid}
use Rattle.reading.specs.Written.{Rising, records, text_from, text_of}
use Rattle.reading.proofs.Canonical.{canonical}
use Rattle.reading.proofs.Limits.{Limits, is_valid, limits}
use Rattle.reading.proofs.Runs.{read_text, run_records}
use Rattle.reading.proofs.Sizes.{records_plain, records_size}
use Rattle.reading.proofs.Starts.{starts_rising}

-- what words in form are
pub record Said (w : List ℕ) : Type 0 where
  pub valids : valid (plan_of w) ≡ true
  pub some : leb 1 (length (plan_of w).tasks) ≡ true
  pub words : words_of (plan_of w) ≡ w

pub said : (w : List ℕ) → canonical w ≡ true → Said w
unfolding canonical
said w h =
    let a = and-true (valid (plan_of w)) _ h in
    let b = and-true (leb 1 (length (plan_of w).tasks)) _ a.1 in
    record { valids = a.0; some = b.0; words = alike_same _ _ b.1 }

pub plan_rising : (w : List ℕ) → Rising 0 (plan_of w).starts
unfolding plan_of
plan_rising w = starts_rising w 0 (regions_of w)

pub longest : (w : List ℕ) → canonical w ≡ true → length (text_of w) ≤ text_bytes
unfolding text_of
longest w h = records_size (plan_of w) (limits (plan_of w) (said w h).valids) (plan_rising w)

some_task : (k : ℕ) → leb 1 k ≡ true → eqb k 0 ≡ false
some_task zero h = absurd (not_both h refl)
some_task (suc k) h = eqb-suc-zero k

end_read : (m : ℕ) (P : Plan) → leb 1 (length P.tasks) ≡ true → leb (transfer_count (body_of (words_of P))) max_transfers ≡ true → at_end m (closed P) ≡ accepted (words_of P)
end_read m P h k = rw (some_task (length P.tasks) h, k)

-- the text of the records of a plan within its limits
pub text_read : (P : Plan) → Limits P → length (text_from (records P)) ≤ max_bytes → leb 1 (length P.tasks) ≡ true →
    leb (transfer_count (body_of (words_of P))) max_transfers ≡ true → read_of (text_from (records P)) ≡ accepted (words_of P)
unfolding read_of
text_read P L k s t =
    let r = read_text (records P) 1 first (closed P) (records_plain P L) (run_records P (is_valid P L)) in
    rw (le-ltb max_bytes (length (text_from (records P))) k) (r.1 ∙ end_read r.0 P s t)

pub reads_back : (w : List ℕ) → canonical w ≡ true → leb (transfer_count (body_of w)) max_transfers ≡ true → read_of (text_of w) ≡ accepted w
unfolding text_of
reads_back w h t =
    let s = said w h in
    text_read (plan_of w) (limits (plan_of w) s.valids) (omega (arith, longest w h)) s.some (rw s.words t) ∙ ap accepted s.words
