-- The flags that masks hold, and how one is set.
use Prim.Native.Nat.{ℕ, zero, suc, ◌+◌, ◌*◌, ◌/◌, ◌%◌, ◌^◌, ◌≤◌, ◌<◌}
use mathlib.Core.Path.{◌≡◌, refl, sym, ◌∙◌, ap}
use mathlib.Core.Bool.{Bool, true, false, cond, not}
use mathlib.Core.List.{List, ◌++◌}
use native.Mathlib.Decide.{dec_lt, ℕ_discrete}
use native.Mathlib.Nat.{zero-div}
use native.Mathlib.Numerals.{add-one}
use native.Mathlib.Omega.{arith}
use borrow.Author.Tests.{eq-eqb, ne_eqb, lt-ltb, le-ltb}
use lib.Dec.{eqb, ltb}
use lib.ListN.{length, get_or, set, replicate, length-set, length-append, length-replicate, get_or-replicate, replicate-append-replicate, get_or-append}
use lib.Seq.{get_or-set_same, get_or-set_other, get_or-append-add, set-get_or, set-append_left, ext_get_or}
use Rattle.finite.proofs.Below.{count_le, count_ext, count_suc, count_never}
use Rattle.finite.proofs.Bits.{bit_more, bit_more_below}
use Rattle.finite.proofs.Lists.{length_tabulate, get_d_tabulate}
use Rattle.finite.proofs.Update.{set_behind}
use Rattle.plan.specs.Limits.{max_regions}
use Rattle.transfers.specs.Wanted.{plan_masks, all_masks, has_rank}
use Rattle.transfers.specs.Search.{flag_count, flags_of, Raised, Tallied, access_flags, plan_flags}

-- flag_count

count_most : (flags : List ℕ) → flag_count flags ≤ access_flags
unfolding flag_count
count_most flags = count_le (λ k. not (eqb (get_or flags k 0) 0)) access_flags

count_zeros : flag_count (replicate plan_flags 0) ≡ 0
unfolding flag_count
count_zeros = count_never access_flags (λ k. not (eqb (get_or {A = ℕ} (replicate plan_flags 0) k 0) 0)) (λ k l. rw (get_or-replicate {A = ℕ} plan_flags k 0 0 (omega arith)))

-- a flag of an access that was not set counts one more, one of a region does not
count_set : (flags : List ℕ) (k : ℕ) → k < plan_flags → length flags ≡ plan_flags → get_or flags k 0 ≡ 0 → flag_count (set flags k 1) ≡ flag_count flags + cond (ltb k access_flags) 1 0
unfolding flag_count
count_set flags k l size e =
    elim (dec_lt k access_flags) [
      | yes m ↦
          count_suc access_flags (λ j. not (eqb (get_or flags j 0) 0)) (λ j. not (eqb (get_or (set flags k 1) j 0) 0)) k m (rw e)
          (rw (get_or-set_same flags k 1 0 (omega arith)))
          (λ j n. rw (get_or-set_other flags k j 1 0 n))
          ∙ (sym (add-one (flag_count flags)) ∙ rw (lt-ltb k access_flags m))
      | no m ↦
          count_ext access_flags (λ j. not (eqb (get_or (set flags k 1) j 0) 0)) (λ j. not (eqb (get_or flags j 0) 0))
          (λ j n. ap (λ (x : ℕ). not (eqb x 0)) (get_or-set_other flags k j 1 0 (λ z. omega arith)))
          ∙ rw (le-ltb k access_flags (omega arith)) (omega arith)
    ]

-- flags_of

flags_size : (m : List ℕ) → length (flags_of m) ≡ plan_flags
unfolding flags_of
flags_size m = length_tabulate (λ k. get_or m (k / 16) 0 / 2 ^ (k % 16) % 2) plan_flags

pub flags_at : (m : List ℕ) (k : ℕ) → k < plan_flags → get_or (flags_of m) k 0 ≡ get_or m (k / 16) 0 / 2 ^ (k % 16) % 2
unfolding flags_of
flags_at m k l = get_d_tabulate (λ k. get_or m (k / 16) 0 / 2 ^ (k % 16) % 2) plan_flags k 0 l

pub flags_none : flags_of (replicate all_masks 0) ≡ replicate plan_flags 0
flags_none =
    ext_get_or 0 (flags_of (replicate all_masks 0)) (replicate plan_flags 0) (flags_size (replicate all_masks 0) ∙ sym (length-replicate {A = ℕ} plan_flags 0))
    (λ k l. let b : k < plan_flags = omega (arith, flags_size (replicate all_masks 0)) in
    flags_at (replicate all_masks 0) k b ∙ (zero_at k b ∙ sym (get_or-replicate {A = ℕ} plan_flags k 0 0 b)))
  where
    zero_at : (k : ℕ) → k < plan_flags → get_or {A = ℕ} (replicate all_masks 0) (k / 16) 0 / 2 ^ (k % 16) % 2 ≡ 0
    zero_at k l =
        let e : get_or {A = ℕ} (replicate all_masks 0) (k / 16) 0 ≡ 0 = get_or-replicate {A = ℕ} all_masks (k / 16) 0 0 (omega arith) in
        ap (λ (x : ℕ). x / 2 ^ (k % 16) % 2) e ∙ ap (λ (x : ℕ). x % 2) (zero-div (2 ^ (k % 16)))

module _ (m : List ℕ) (k q : ℕ) (size : length m ≡ all_masks) (l : k < all_masks) (r : q < 16) where
  pub flag_own : get_or (flags_of m) (16 * k + q) 0 ≡ get_or m k 0 / 2 ^ q % 2
  flag_own =
      let u : (16 * k + q) / 16 ≡ k = omega arith in
      let v : (16 * k + q) % 16 ≡ q = omega arith in
      flags_at m (16 * k + q) (omega arith) ∙ rw (u, v)

  flags_set : get_or m k 0 < 65536 → get_or m k 0 / 2 ^ q % 2 ≡ 0 → flags_of (set m k (get_or m k 0 + 2 ^ q)) ≡ set (flags_of m) (16 * k + q) 1
  flags_set below unset =
      ext_get_or 0 (flags_of (set m k (get_or m k 0 + 2 ^ q))) (set (flags_of m) (16 * k + q) 1)
      (flags_size (set m k (get_or m k 0 + 2 ^ q)) ∙ sym (length-set (flags_of m) (16 * k + q) 1 ∙ flags_size m))
      (λ j b. at j (omega (arith, flags_size (set m k (get_or m k 0 + 2 ^ q)))))
    where
      bit : (j : ℕ) → j < plan_flags → (j ≡ 16 * k + q → ⊥) → j / 16 ≡ k → (get_or m k 0 + 2 ^ q) / 2 ^ (j % 16) % 2 ≡ get_or m k 0 / 2 ^ (j % 16) % 2
      bit j b n e = bit_more 16 (get_or m k 0) q below r unset (j % 16) (omega arith) ∙ rw (ne_eqb (j % 16) q (λ z. n (omega arith)))

      other : (j : ℕ) → j < plan_flags → (j ≡ 16 * k + q → ⊥) → get_or (set m k (get_or m k 0 + 2 ^ q)) (j / 16) 0 / 2 ^ (j % 16) % 2 ≡ get_or m (j / 16) 0 / 2 ^ (j % 16) % 2
      other j b n =
          elim (ℕ_discrete (j / 16) k) [
            | yes e ↦ rw (e, get_or-set_same m k (get_or m k 0 + 2 ^ q) 0 (omega arith)) (bit j b n e)
            | no e ↦ rw (get_or-set_other m k (j / 16) (get_or m k 0 + 2 ^ q) 0 e)
          ]

      own : get_or (set m k (get_or m k 0 + 2 ^ q)) ((16 * k + q) / 16) 0 / 2 ^ ((16 * k + q) % 16) % 2 ≡ 1
      own =
          let u : (16 * k + q) / 16 ≡ k = omega arith in
          let v : (16 * k + q) % 16 ≡ q = omega arith in
          rw (u, v, get_or-set_same m k (get_or m k 0 + 2 ^ q) 0 (omega arith)) (bit_more 16 (get_or m k 0) q below r unset q r ∙ rw (eq-eqb q q refl))

      at : (j : ℕ) → j < plan_flags → get_or (flags_of (set m k (get_or m k 0 + 2 ^ q))) j 0 ≡ get_or (set (flags_of m) (16 * k + q) 1) j 0
      at j b =
          flags_at (set m k (get_or m k 0 + 2 ^ q)) j b
          ∙ elim (ℕ_discrete j (16 * k + q)) [
            | yes e ↦ rw e (own ∙ sym (get_or-set_same (flags_of m) (16 * k + q) 1 0 (omega (arith, flags_size m))))
            | no e ↦ other j b e ∙ (sym (flags_at m j b) ∙ sym (get_or-set_other (flags_of m) (16 * k + q) j 1 0 e))
          ]

  flags_kept : get_or m k 0 / 2 ^ q % 2 ≡ 1 → set (flags_of m) (16 * k + q) 1 ≡ flags_of m
  flags_kept e = ap (λ (x : ℕ). set (flags_of m) (16 * k + q) x) (sym (flag_own ∙ e)) ∙ set-get_or (flags_of m) (16 * k + q) 0

raised_size : (m : List ℕ) (k q : ℕ) → length (cond (has_rank (get_or m k 0) q) m (set m k (get_or m k 0 + 2 ^ q))) ≡ length m
raised_size m k q = go (has_rank (get_or m k 0) q)
  where
    go : (b : Bool) → length (cond b m (set m k (get_or m k 0 + 2 ^ q))) ≡ length m
    go true = refl
    go false = length-set m k (get_or m k 0 + 2 ^ q)

-- masks of zeros hold no flag
pub flags_unset : (m h : List ℕ) → m ≡ replicate plan_masks 0 → h ≡ replicate max_regions 0 → flags_of (m ++ h) ≡ replicate plan_flags 0
flags_unset m h e f = ap flags_of (rw (e, f) (replicate-append-replicate {A = ℕ} plan_masks max_regions 0)) ∙ flags_none

-- raising a flag

pub tallied_most : (m h : List ℕ) (total : ℕ) → Tallied m h total → total ≤ access_flags
tallied_most m h total t = omega (arith, t.count, count_most (flags_of (m ++ h)))

pub tallied_none : (m h : List ℕ) → m ≡ replicate plan_masks 0 → h ≡ replicate max_regions 0 → Tallied m h 0
tallied_none m h e f =
    record {
      size = ap length e ∙ length-replicate {A = ℕ} plan_masks 0;
      regions = ap length f ∙ length-replicate {A = ℕ} max_regions 0;
      fits = λ g l. omega (arith, ap (λ (x : List ℕ). get_or x g 0) f, get_or-replicate {A = ℕ} max_regions g 0 0 l);
      count = sym (ap flag_count (flags_unset m h e f) ∙ count_zeros);
    }

pub zeros_fit : (m : List ℕ) → m ≡ replicate plan_masks 0 → (k : ℕ) → k < plan_masks → get_or m k 0 < 65536
zeros_fit m e k l = omega (arith, ap (λ (x : List ℕ). get_or x k 0) e, get_or-replicate {A = ℕ} plan_masks k 0 0 l)

pub raise_fits : (q x b : ℕ) → q < 16 → x < 65536 → x / 2 ^ q % 2 ≡ 0 → b ≡ 2 ^ q → x + b < 65536
raise_fits q x b l below unset e = rw e (bit_more_below 16 x q below l unset)

pub raised_fit : (m : List ℕ) (k q : ℕ) → q < 16 → k < length m → (m' : List ℕ) → Raised m k q m' → (g : ℕ) → get_or m g 0 < 65536 → get_or m' g 0 < 65536
raised_fit m k q r l m' R g f = rw R.raised (fit (get_or m k 0 / 2 ^ q % 2) refl)
  where
    fit : (b : ℕ) → get_or m k 0 / 2 ^ q % 2 ≡ b → get_or (cond (eqb b 1) m (set m k (get_or m k 0 + 2 ^ q))) g 0 < 65536
    fit zero u =
        elim (ℕ_discrete g k) [
          | yes z ↦ rw (z, get_or-set_same m k (get_or m k 0 + 2 ^ q) 0 l) (raise_fits q (get_or m k 0) (2 ^ q) r R.below u refl)
          | no z ↦ rw (get_or-set_other m k g (get_or m k 0 + 2 ^ q) 0 z) f
        ]
    fit (suc b) u = let v : b ≡ 0 = omega arith in rw v f

-- of both lists of masks together
module _ (m : List ℕ) (k q : ℕ) (size : length m ≡ all_masks) (l : k < all_masks) (r : q < 16) (m' : List ℕ) (R : Raised m k q m') where
  pub raised_flags : flags_of m' ≡ set (flags_of m) (16 * k + q) 1
  raised_flags = go (get_or m k 0 / 2 ^ q % 2) refl
    where
      go : (b : ℕ) → get_or m k 0 / 2 ^ q % 2 ≡ b → flags_of m' ≡ set (flags_of m) (16 * k + q) 1
      go zero e = ap flags_of (R.raised ∙ rw e) ∙ flags_set m k q size l r R.below e
      go (suc b) e =
          let u : get_or m k 0 / 2 ^ q % 2 ≡ 1 = omega arith in
          ap flags_of (R.raised ∙ rw u) ∙ sym (flags_kept m k q size l r u)

  -- a flag of an access that was not set counts
  pub raised_count : flag_count (flags_of m') ≡ flag_count (flags_of m) + cond (has_rank (get_or m k 0) q) 0 (cond (ltb k plan_masks) 1 0)
  raised_count = go (get_or m k 0 / 2 ^ q % 2) refl
    where
      same : ◌≡◌ {A = ℕ} (cond (ltb (16 * k + q) access_flags) 1 0) (cond (ltb k plan_masks) 1 0)
      same =
          elim (dec_lt k plan_masks) [
            | yes n ↦ rw (lt-ltb k plan_masks n, lt-ltb (16 * k + q) access_flags (omega arith))
            | no n ↦ rw (le-ltb k plan_masks (omega arith), le-ltb (16 * k + q) access_flags (omega arith))
          ]

      go : (b : ℕ) → get_or m k 0 / 2 ^ q % 2 ≡ b → flag_count (flags_of m') ≡ flag_count (flags_of m) + cond (eqb b 1) 0 (cond (ltb k plan_masks) 1 0)
      go zero e =
          ap flag_count raised_flags
          ∙ (count_set (flags_of m) (16 * k + q) (omega arith) (flags_size m) (flag_own m k q size l r ∙ e)
          ∙ ap (λ (x : ℕ). flag_count (flags_of m) + x) same)
      go (suc b) e =
          let u : get_or m k 0 / 2 ^ q % 2 ≡ 1 = omega arith in
          let v : b ≡ 0 = omega arith in
          let w : m' ≡ m = R.raised ∙ rw u in
          ap (λ (x : List ℕ). flag_count (flags_of x)) w ∙ rw v (omega arith)

-- masks of accesses, and of regions behind them
module _ (m h : List ℕ) (total : ℕ) (t : Tallied m h total) (k q : ℕ) (r : q < 16) where
  both_size : length (m ++ h) ≡ all_masks
  both_size = length-append m h ∙ omega (arith, t.size, t.regions)

  -- an access
  module _ (l : k < plan_masks) (m' : List ℕ) (R : Raised m k q m') where
    front : get_or (m ++ h) k 0 ≡ get_or m k 0
    front = get_or-append m h 0 k (omega (arith, t.size))

    both_front : Raised (m ++ h) k q (m' ++ h)
    both_front =
        record {
          below = omega (arith, R.below, front);
          raised = ap (λ (x : List ℕ). x ++ h) R.raised ∙ go (has_rank (get_or m k 0) q) (has_rank (get_or (m ++ h) k 0) q) (ap (λ (x : ℕ). has_rank x q) front);
        }
      where
        go : (b c : Bool) → c ≡ b → cond b m (set m k (get_or m k 0 + 2 ^ q)) ++ h ≡ cond c (m ++ h) (set (m ++ h) k (get_or (m ++ h) k 0 + 2 ^ q))
        go true c e = rw e
        go false c e = rw e (rw front (sym (set-append_left m h k (get_or m k 0 + 2 ^ q) (omega (arith, t.size)))))

    pub access_flags_lem : flags_of (m' ++ h) ≡ set (flags_of (m ++ h)) (16 * k + q) 1
    access_flags_lem = raised_flags (m ++ h) k q both_size (omega arith) r (m' ++ h) both_front

    pub access_tally : (n : ℕ) → n ≡ cond (has_rank (get_or m k 0) q) 0 1 → Tallied m' h (total + n)
    access_tally n e =
        record {
          size = ap length R.raised ∙ (raised_size m k q ∙ t.size);
          regions = t.regions;
          fits = t.fits;
          count = sym (raised_count (m ++ h) k q both_size (omega arith) r (m' ++ h) both_front
              ∙ rw (front, lt-ltb k plan_masks l, ← t.count, ← e));
        }

  -- a region
  module _ (l : k < all_masks) (j : ℕ) (e : k ≡ plan_masks + j) (h' : List ℕ) (R : Raised h j q h') where
    behind : get_or (m ++ h) k 0 ≡ get_or h j 0
    behind = let z : k ≡ length m + j = omega (arith, t.size) in rw z (get_or-append-add m h j 0)

    both_behind : Raised (m ++ h) k q (m ++ h')
    both_behind =
        record {
          below = omega (arith, R.below, behind);
          raised = ap (λ (x : List ℕ). m ++ x) R.raised ∙ go (has_rank (get_or h j 0) q) (has_rank (get_or (m ++ h) k 0) q) (ap (λ (x : ℕ). has_rank x q) behind);
        }
      where
        go : (b c : Bool) → c ≡ b → m ++ cond b h (set h j (get_or h j 0 + 2 ^ q)) ≡ cond c (m ++ h) (set (m ++ h) k (get_or (m ++ h) k 0 + 2 ^ q))
        go true c u = rw u
        go false c u = let z : k ≡ length m + j = omega (arith, t.size) in rw u (rw (behind, z) (sym (set_behind m h j (get_or h j 0 + 2 ^ q))))

    pub region_flags : flags_of (m ++ h') ≡ set (flags_of (m ++ h)) (16 * k + q) 1
    region_flags = raised_flags (m ++ h) k q both_size l r (m ++ h') both_behind

    pub region_tally : Tallied m h' total
    region_tally =
        record {
          size = t.size;
          regions = ap length R.raised ∙ (raised_size h j q ∙ t.regions);
          fits = λ g lg. raised_fit h j q r (omega (arith, t.regions)) h' R g (t.fits g lg);
          count = sym (raised_count (m ++ h) k q both_size l r (m ++ h') both_behind
              ∙ (rw (le-ltb k plan_masks (omega arith)) (none (has_rank (get_or (m ++ h) k 0) q)) ∙ sym t.count));
        }
      where
        none : (b : Bool) → flag_count (flags_of (m ++ h)) + cond b 0 0 ≡ flag_count (flags_of (m ++ h))
        none true = omega arith
        none false = omega arith
