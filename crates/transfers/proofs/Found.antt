-- What the search has found: after the visit of the tasks of words in form, and when all regions
-- are closed.
use Prim.Native.Nat.{ℕ, ◌+◌, ◌-◌, ◌*◌, ◌/◌, ◌%◌, ◌≤◌, ◌<◌}
use mathlib.Core.Path.{◌≡◌, refl, sym, ◌∙◌, ap}
use mathlib.Core.Bool.{Bool, true, false, cond, not, ◌&&◌, ◌||◌, or-false, and-false}
use mathlib.Core.List.{List, ◌++◌}
use native.Mathlib.Decide.{dec_lt}
use native.Mathlib.Omega.{arith}
use borrow.Author.Tests.{lt-ltb, le-ltb}
use lib.Dec.{eqb, ltb}
use lib.ListN.{length, get_or, replicate, length-append, length-replicate, get_or-replicate, get_or-append}
use lib.Seq.{get_or-append-add}
use Rattle.finite.proofs.Below.{count_ext, sum_const}
use Rattle.finite.proofs.Bits.{bits_ext}
use Rattle.finite.proofs.Lists.{get_d_tabulate}
use Rattle.finite.proofs.Replaced.{list_ext}
use Rattle.body.specs.Transfers.{transfer_count}
use Rattle.plan.specs.Limits.{max_tasks, max_regions}
use Rattle.plan.specs.Layout.{regions_of, tasks_of, region_at, body_of}
use Rattle.plan.specs.Form.{words_ok}
use Rattle.plan.proofs.Facts.{formed}
use Rattle.transfers.specs.Wanted.{plan_masks, all_masks, mask_by, masks_by, wanted_at, wrapped_at, wanted_masks, wrapped_masks, ahead_masks}
use Rattle.transfers.specs.Search.{no_writers, noted_tasks, marked_tasks, per_flag, access_flags, plan_flags, flag_count, flags_of, Tallied, forward_at, late_at, closed_at, Closed}
use Rattle.transfers.proofs.FlagsOf.{flags_unset}
use Rattle.transfers.proofs.Flags.{set_before, access_flag}
use Rattle.transfers.proofs.Foreign.{wrapped_foreign, wanted_either}
use Rattle.transfers.proofs.Tally.{count_found}
use Rattle.transfers.proofs.Masks.{masks_size, masks_ext, flag_found, access_masks, region_masks}

pub tasks_few : (w : List ℕ) (n : ℕ) → words_ok w ≡ true → n ≡ tasks_of w → n ≤ max_tasks
tasks_few w n h e = omega (arith, (formed w h).tasks_most)

-- the writers after the visit
pub writers_found : (w : List ℕ) (n x : ℕ) (none last : List ℕ) → n ≡ tasks_of w → none ≡ no_writers x → x ≡ regions_of w → last ≡ noted_tasks w n none
    → last ≡ noted_tasks w (tasks_of w) (no_writers (regions_of w))
writers_found w n x none last e f h k = k ∙ rw (f, h, e)

-- no region is closed yet
module _ (w : List ℕ) where
  late_none : (i a q : ℕ) → late_at w 0 i a q ≡ false
  late_none i a q = ap (λ (b : Bool). b && wrapped_at w i a q) (le-ltb (region_at w i a) 0 (omega arith))

  closed_none : (i a q : ℕ) → closed_at w 0 i a q ≡ forward_at w i a q
  closed_none i a q = ap (λ (b : Bool). forward_at w i a q || b) (late_none i a q) ∙ or-false (forward_at w i a q)

  none_wrapped : replicate plan_masks 0 ≡ masks_by (late_at w 0)
  none_wrapped =
      list_ext (replicate plan_masks 0) (masks_by (late_at w 0)) (length-replicate {A = ℕ} plan_masks 0 ∙ sym (masks_size (late_at w 0)))
      (λ k l. let b : k < plan_masks = omega (arith, length-replicate {A = ℕ} plan_masks 0) in
      get_or-replicate {A = ℕ} plan_masks k 0 0 b
      ∙ sym (get_d_tabulate (λ k. mask_by (late_at w 0) (k / 8) (k % 8)) plan_masks k 0 b
      ∙ (bits_ext 16 (late_at w 0 (k / 8) (k % 8)) (λ _. false) (λ q m. late_none (k / 8) (k % 8) q) ∙ sum_const 16 0)))

  -- the visit
  module _ (n x : ℕ) (none zeros nones m ahead : List ℕ) (r : ℕ) (h : words_ok w ≡ true) (e : n ≡ tasks_of w) (f : none ≡ no_writers x)
      (i : x ≡ regions_of w) (z : zeros ≡ replicate plan_masks 0) (o : nones ≡ replicate max_regions 0)
      (k : flags_of (m ++ ahead) ≡ marked_tasks w none n (flags_of (zeros ++ nones))) (t : Tallied m ahead r)
      (fits : (j : ℕ) → j < plan_masks → get_or m j 0 < 65536) where
    found : flags_of (m ++ ahead) ≡ marked_tasks w (no_writers (regions_of w)) (tasks_of w) (replicate plan_flags 0)
    found = k ∙ rw (flags_unset zeros nones z o, f, i, e)

    size : length (m ++ ahead) ≡ all_masks
    size = length-append m ahead ∙ omega (arith, t.size, t.regions)

    both_fit : (j : ℕ) → j < all_masks → get_or (m ++ ahead) j 0 < 65536
    both_fit j below =
        elim (dec_lt j (length m)) [
          | yes l ↦ omega (arith, get_or-append m ahead 0 j l, fits j (omega (arith, t.size)))
          | no l ↦ (let u : j ≡ length m + (j - length m) = omega arith in rw u (omega (arith, get_or-append-add m ahead (j - length m) 0, t.fits (j - length m) (omega (arith, t.size)))))
        ]

    pub ahead_found : ahead ≡ ahead_masks w
    ahead_found = region_masks w (m ++ ahead) (formed w h) size both_fit found m ahead t.size t.regions refl

    pub visited : (v : List ℕ) → v ≡ replicate plan_masks 0 → Closed w 0 m v r
    unfolding flag_count
    visited v u =
        record {
          masks_are = access_masks w (m ++ ahead) (formed w h) size both_fit found m ahead t.size t.regions refl
              ∙ masks_ext (forward_at w) (closed_at w 0) (λ i a q _. sym (closed_none i a q));
          wrapped_are = u ∙ none_wrapped;
          count = t.count ∙ count_ext access_flags (λ j. not (eqb (get_or (flags_of (m ++ ahead)) j 0) 0)) (per_flag (closed_at w 0)) flag;
        }
      where
        test : (b : Bool) → not (eqb (cond b 1 0) 0) ≡ b
        test true = refl
        test false = refl

        flag : (j : ℕ) → j < access_flags → not (eqb (get_or (flags_of (m ++ ahead)) j 0) 0) ≡ per_flag (closed_at w 0) j
        flag j l =
            let s : j ≡ 128 * (j / 128) + 16 * (j / 16 % 8) + j % 16 = omega arith in
            ap (λ (b : ℕ). not (eqb b 0)) (flag_found w (m ++ ahead) (formed w h) size both_fit found j (omega arith))
            ∙ (test (set_before w (tasks_of w) j)
            ∙ (ap (set_before w (tasks_of w)) s
            ∙ (access_flag w (formed w h) (j / 128) (j / 16 % 8) (j % 16) (omega arith) (omega arith) (omega arith)
            ∙ sym (closed_none (j / 128) (j / 16 % 8) (j % 16)))))

  -- all regions are closed
  module _ (h : words_ok w ≡ true) where
    late_all : (i a q : ℕ) → late_at w (regions_of w) i a q ≡ wrapped_at w i a q
    late_all i a q = go (wrapped_at w i a q) refl
      where
        go : (b : Bool) → wrapped_at w i a q ≡ b → (ltb (region_at w i a) (regions_of w) && b) ≡ b
        go true e = let o = wrapped_foreign w i a q e in rw (lt-ltb (region_at w i a) (regions_of w) (((formed w h).used i o.task).region_below a o.below))
        go false e = and-false (ltb (region_at w i a) (regions_of w))

    closed_all : (i a q : ℕ) → closed_at w (regions_of w) i a q ≡ wanted_at w i a q
    closed_all i a q = ap (λ (b : Bool). forward_at w i a q || b) (late_all i a q) ∙ sym (wanted_either w i a q)

    module _ (m v : List ℕ) (r : ℕ) (C : Closed w (regions_of w) m v r) where
      pub found_count : r ≡ transfer_count (body_of w)
      found_count =
          C.count
          ∙ (count_ext access_flags (per_flag (closed_at w (regions_of w))) (per_flag (wanted_at w)) (λ k l. closed_all (k / 128) (k / 16 % 8) (k % 16)) ∙ count_found w (formed w h))

      pub found_masks : m ≡ wanted_masks w
      found_masks = C.masks_are ∙ masks_ext (closed_at w (regions_of w)) (wanted_at w) (λ i a q _. closed_all i a q)

      pub found_wrapped : v ≡ wrapped_masks w
      found_wrapped = C.wrapped_are ∙ masks_ext (late_at w (regions_of w)) (wrapped_at w) (λ i a q _. late_all i a q)
