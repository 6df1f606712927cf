-- Serving an access: its mask gets ranks that it does not have.
use Prim.Native.Nat.{ℕ, ◌+◌, ◌*◌, ◌/◌, ◌%◌, ◌^◌, ◌<◌}
use mathlib.Core.Path.{◌≡◌, refl, sym, ◌∙◌, ap, ap₂}
use mathlib.Core.Bool.{Bool, true, false, not, ◌&&◌, ◌||◌}
use mathlib.Core.List.{List, ◌++◌}
use native.Mathlib.Decide.{ℕ_discrete}
use native.Mathlib.Omega.{arith}
use borrow.Author.Tests.{lt-ltb, ltb-true}
use lib.Bits.{bit_or}
use lib.Count.{ones}
use lib.Dec.{eqb, ltb}
use lib.ListN.{length, get_or, set, length-set, get_or-append}
use lib.Seq.{get_or-set_same, get_or-set_other}
use Rattle.finite.specs.Below.{count_below}
use Rattle.finite.proofs.Below.{count_ext}
use Rattle.finite.proofs.Bits.{bits_of, bits_below_lem}
use Rattle.finite.proofs.Bitwise.{bits_or, ones_bits}
use Rattle.finite.proofs.Sums.{count_or_apart}
use Rattle.finite.proofs.Tests.{and-true}
use Rattle.transfers.specs.Wanted.{plan_masks, mask_of, has_rank}
use Rattle.transfers.specs.Search.{flag_count, flags_of, Tallied, access_flags, per_flag, late_of}
use Rattle.transfers.proofs.FlagsOf.{flags_at}
use Rattle.transfers.proofs.Masks.{mask_has}
use Rattle.transfers.proofs.Tally.{count_more_at}

-- the test of a flag in the masks of accesses
abbrev flag_in : List ℕ → ℕ → ℕ → ℕ → Bool
flag_in m i a q = has_rank (get_or m (8 * i + a) 0) q

count_in : (m h : List ℕ) → length m ≡ plan_masks → flag_count (flags_of (m ++ h)) ≡ count_below access_flags (per_flag (flag_in m))
unfolding flag_count
count_in m h size = count_ext access_flags (λ j. not (eqb (get_or (flags_of (m ++ h)) j 0) 0)) (per_flag (flag_in m)) at
  where
    test : (b : ℕ) → b < 2 → not (eqb b 0) ≡ eqb b 1
    test b l =
        elim (ℕ_discrete b 0) [
          | yes e ↦ rw e refl
          | no n ↦ (let u : b ≡ 1 = omega arith in rw u refl)
        ]

    at : (j : ℕ) → j < access_flags → not (eqb (get_or (flags_of (m ++ h)) j 0) 0) ≡ per_flag (flag_in m) j
    at j l =
        let e : get_or (m ++ h) (j / 16) 0 ≡ get_or m (j / 16) 0 = get_or-append m h 0 (j / 16) (omega arith) in
        let u : 8 * (j / 128) + j / 16 % 8 ≡ j / 16 = omega arith in
        rw (flags_at (m ++ h) j (omega arith), e, u) (test (get_or m (j / 16) 0 / 2 ^ (j % 16) % 2) (omega arith))

module _ (f x : ℕ) (fl : f < 65536) (xl : x < 65536) (apart : (q : ℕ) → q < 16 → has_rank x q ≡ true → has_rank f q ≡ false) where
  both : bit_or f x ≡ mask_of (λ q. has_rank f q || has_rank x q)
  both = ap₂ bit_or (sym (bits_of 16 f fl)) (sym (bits_of 16 x xl)) ∙ bits_or 16 (has_rank f) (has_rank x)

  both_below : bit_or f x < 65536
  both_below = rw both (bits_below_lem 16 (λ q. has_rank f q || has_rank x q))

  both_count : count_below 16 (has_rank (bit_or f x)) ≡ count_below 16 (has_rank f) + ones x
  both_count =
      count_ext 16 (has_rank (bit_or f x)) (λ q. has_rank f q || (ltb q 16 && has_rank x q))
      (λ q l. mask_has (bit_or f x) (λ q. has_rank f q || has_rank x q) both q l ∙ rw (lt-ltb q 16 l) refl)
      ∙ (count_or_apart 16 (has_rank f) (λ q. ltb q 16 && has_rank x q) apart_all
      ∙ ap (λ (y : ℕ). count_below 16 (has_rank f) + y)
      (count_ext 16 (λ q. ltb q 16 && has_rank x q) (has_rank x) (λ q l. rw (lt-ltb q 16 l) refl)
      ∙ sym (ap ones (sym (bits_of 16 x xl)) ∙ ones_bits 16 (has_rank x))))
    where
      apart_all : (q : ℕ) → (ltb q 16 && has_rank x q) ≡ true → has_rank f q ≡ false
      apart_all q e = let a = and-true (ltb q 16) (has_rank x q) e in apart q (ltb-true q 16 a.0) a.1

module _ (m h : List ℕ) (total : ℕ) (t : Tallied m h total) (fits : (j : ℕ) → j < plan_masks → get_or m j 0 < 65536) (k x : ℕ) (l : k < plan_masks) (xl : x < 65536)
    (apart : (q : ℕ) → q < 16 → has_rank x q ≡ true → has_rank (get_or m k 0) q ≡ false) where
  abbrev served : List ℕ
  served = set m k (bit_or (get_or m k 0) x)

  served_tally : Tallied (set m k (bit_or (get_or m k 0) x)) h (total + ones x)
  unfolding count_below
  served_tally =
      record {
        size = length-set m k (bit_or (get_or m k 0) x) ∙ t.size;
        regions = t.regions;
        fits = t.fits;
        count =
            ap (λ (y : ℕ). y + ones x) (t.count ∙ count_in m h t.size)
            ∙ sym (count_in served h (length-set m k (bit_or (get_or m k 0) x) ∙ t.size)
            ∙ count_more_at (flag_in m) (flag_in served) (k / 8) (k % 8) (ones x) (omega arith) (omega arith) own other);
      }
    where
      own : count_below 16 (flag_in served (k / 8) (k % 8)) ≡ count_below 16 (flag_in m (k / 8) (k % 8)) + ones x
      own =
          let u : 8 * (k / 8) + k % 8 ≡ k = omega arith in
          rw (u, get_or-set_same m k (bit_or (get_or m k 0) x) 0 (omega (arith, t.size))) (both_count (get_or m k 0) x (fits k l) xl apart)

      other : (j b q : ℕ) → b < 8 → q < 16 → (j ≡ k / 8 → b ≡ k % 8 → ⊥) → flag_in served j b q ≡ flag_in m j b q
      other j b q bl ql n = ap (λ (y : ℕ). has_rank y q) (get_or-set_other m k (8 * j + b) (bit_or (get_or m k 0) x) 0 (λ z. n (omega arith) (omega arith)))

  pub served_total : (f d : ℕ) → f ≡ get_or m k 0 → d ≡ ones x → Tallied (set m k (bit_or f x)) h (total + d)
  served_total f d e u = rw (e, u) served_tally

  pub served_fit : (f : ℕ) → f ≡ get_or m k 0 → (j : ℕ) → j < plan_masks → get_or (set m k (bit_or f x)) j 0 < 65536
  served_fit f e j b =
      rw e
      (elim (ℕ_discrete j k) [
        | yes z ↦ rw (z, get_or-set_same m k (bit_or (get_or m k 0) x) 0 (omega (arith, t.size))) (both_below (get_or m k 0) x (fits k l) xl apart)
        | no z ↦ rw (get_or-set_other m k j (bit_or (get_or m k 0) x) 0 z) (fits j b)
      ])

-- the ranks that it does not have
pub late_apart : (a s f g x : ℕ) → f ≡ g → x ≡ late_of a s f → (q : ℕ) → q < 16 → has_rank x q ≡ true → has_rank g q ≡ false
late_apart a s f g x u e q l h =
    let p = sym (mask_has x (λ q. (has_rank a q && has_rank s q) && not (has_rank f q)) e q l) ∙ h in
    ap (λ (y : ℕ). has_rank y q) (sym u) ∙ unset (has_rank f q) (and-true (has_rank a q && has_rank s q) (not (has_rank f q)) p).1
  where
    unset : (b : Bool) → not b ≡ true → b ≡ false
    unset true z = sym z
    unset false z = refl
