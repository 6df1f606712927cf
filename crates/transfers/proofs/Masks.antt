-- The masks of a test of task, access and rank: what a caller reads from them, how one of them is
-- put, and that those of the visit hold what its flags do.
use Prim.Native.Nat.{ℕ, ◌+◌, ◌*◌, ◌/◌, ◌%◌, ◌^◌, ◌<◌}
use mathlib.Core.Path.{◌≡◌, refl, sym, ◌∙◌, ap, ap₂}
use mathlib.Core.Bool.{Bool, true, false, cond}
use mathlib.Core.List.{List, ◌++◌}
use native.Mathlib.Decide.{ℕ_discrete}
use native.Mathlib.Omega.{arith}
use lib.Dec.{eqb}
use lib.ListN.{length, get_or, set, replicate, length-set, get_or-append}
use lib.Seq.{ext_get_or, get_or-append-add, get_or-set_same, get_or-set_other}
use Rattle.finite.proofs.Bits.{bits_ext, bits_at, bits_of}
use Rattle.finite.proofs.Lists.{length_tabulate, get_d_tabulate}
use Rattle.finite.proofs.Tabulate.{tabulate_ext}
use Rattle.plan.specs.Limits.{max_tasks, max_regions, max_accesses}
use Rattle.plan.specs.Layout.{regions_of, tasks_of}
use Rattle.plan.proofs.Facts.{Formed}
use Rattle.transfers.specs.Wanted.{plan_masks, all_masks, mask_of, mask_by, masks_by, ahead_at, ahead_masks, has_rank}
use Rattle.transfers.specs.Search.{no_writers, marked_tasks, plan_flags, flags_of, forward_at}
use Rattle.transfers.proofs.Flags.{set_before, flags_tasks, access_flag, region_flag}
use Rattle.transfers.proofs.FlagsOf.{flag_own}

module _ (p : ℕ → ℕ → ℕ → Bool) where
  pub mask_bit : (i a q : ℕ) → q < 16 → mask_by p i a / 2 ^ q % 2 ≡ cond (p i a q) 1 0
  mask_bit i a q l = bits_at 16 (p i a) q l

  pub masks_size : length (masks_by p) ≡ plan_masks
  masks_size = length_tabulate (λ k. mask_by p (k / 8) (k % 8)) plan_masks

  pub mask_at : (i a : ℕ) → i < max_tasks → a < max_accesses → get_or (masks_by p) (8 * i + a) 0 ≡ mask_by p i a
  mask_at i a l m =
      let u : (8 * i + a) / 8 ≡ i = omega arith in
      let v : (8 * i + a) % 8 ≡ a = omega arith in
      get_d_tabulate (λ k. mask_by p (k / 8) (k % 8)) plan_masks (8 * i + a) 0 (omega arith) ∙ rw (u, v)

pub ahead_at_lem : (w : List ℕ) (g : ℕ) → g < max_regions → get_or (ahead_masks w) g 0 ≡ mask_of (ahead_at w g)
ahead_at_lem w g l = get_d_tabulate (λ g. mask_of (ahead_at w g)) max_regions g 0 l

-- of another test
pub masks_ext : (p r : ℕ → ℕ → ℕ → Bool) → ((i a q : ℕ) → q < 16 → p i a q ≡ r i a q) → masks_by p ≡ masks_by r
masks_ext p r h =
    tabulate_ext plan_masks (λ k. mask_by p (k / 8) (k % 8)) (λ k. mask_by r (k / 8) (k % 8))
    (λ k l. bits_ext 16 (p (k / 8) (k % 8)) (r (k / 8) (k % 8)) (h (k / 8) (k % 8)))

-- one of them is put, and the test differs there alone
pub masks_put : (p r : ℕ → ℕ → ℕ → Bool) (i a v : ℕ) → i < max_tasks → a < max_accesses → v ≡ mask_by r i a
    → ((j b q : ℕ) → q < 16 → (j ≡ i → b ≡ a → ⊥) → r j b q ≡ p j b q) → set (masks_by p) (8 * i + a) v ≡ masks_by r
masks_put p r i a v li la e h =
    ext_get_or 0 (set (masks_by p) (8 * i + a) v) (masks_by r) (length-set (masks_by p) (8 * i + a) v ∙ (masks_size p ∙ sym (masks_size r)))
    (λ k l. at k (omega (arith, length-set (masks_by p) (8 * i + a) v, masks_size p)))
  where
    at : (k : ℕ) → k < plan_masks → get_or (set (masks_by p) (8 * i + a) v) k 0 ≡ get_or (masks_by r) k 0
    at k l =
        elim (ℕ_discrete k (8 * i + a)) [
          | yes z ↦ rw z (get_or-set_same (masks_by p) (8 * i + a) v 0 (omega (arith, masks_size p)) ∙ (e ∙ sym (mask_at r i a li la)))
          | no z ↦
              get_or-set_other (masks_by p) (8 * i + a) k v 0 z
              ∙ (get_d_tabulate (λ k. mask_by p (k / 8) (k % 8)) plan_masks k 0 l
              ∙ (sym (bits_ext 16 (r (k / 8) (k % 8)) (p (k / 8) (k % 8)) (λ q m. h (k / 8) (k % 8) q m (λ x y. z (omega arith))))
              ∙ sym (get_d_tabulate (λ k. mask_by r (k / 8) (k % 8)) plan_masks k 0 l)))
        ]

-- a mask of 16 bits by its bits, and its bits
flag_test : (b : Bool) → eqb (cond b 1 0) 1 ≡ b
flag_test true = refl
flag_test false = refl

mask_is : (x : ℕ) (p : ℕ → Bool) → x < 65536 → ((q : ℕ) → q < 16 → x / 2 ^ q % 2 ≡ cond (p q) 1 0) → x ≡ mask_of p
mask_is x p l h = sym (bits_of 16 x l) ∙ bits_ext 16 (has_rank x) p (λ q m. ap (λ (y : ℕ). eqb y 1) (h q m) ∙ flag_test (p q))

pub mask_has : (x : ℕ) (p : ℕ → Bool) → x ≡ mask_of p → (q : ℕ) → q < 16 → has_rank x q ≡ p q
mask_has x p e q l = ap (λ (y : ℕ). has_rank y q) e ∙ (ap (λ (b : ℕ). eqb b 1) (bits_at 16 p q l) ∙ flag_test (p q))

-- masks of 16 bits that hold the flags of the visit
module _ (w m : List ℕ) (F : Formed w) (size : length m ≡ all_masks) (fits : (k : ℕ) → k < all_masks → get_or m k 0 < 65536)
    (found : flags_of m ≡ marked_tasks w (no_writers (regions_of w)) (tasks_of w) (replicate plan_flags 0)) where
  pub flag_found : (k : ℕ) → k < plan_flags → get_or (flags_of m) k 0 ≡ cond (set_before w (tasks_of w) k) 1 0
  flag_found k l = ap (λ (f : List ℕ). get_or f k 0) found ∙ (flags_tasks w F (tasks_of w) (omega arith)).each k l

  bit_found : (k q : ℕ) → k < all_masks → q < 16 → get_or m k 0 / 2 ^ q % 2 ≡ cond (set_before w (tasks_of w) (16 * k + q)) 1 0
  bit_found k q l n = sym (flag_own m k q size l n) ∙ flag_found (16 * k + q) (omega arith)

  access_found : (k : ℕ) → k < plan_masks → get_or m k 0 ≡ mask_by (forward_at w) (k / 8) (k % 8)
  access_found k l =
      mask_is (get_or m k 0) (forward_at w (k / 8) (k % 8)) (fits k (omega arith))
      (λ q n. let e : 16 * k + q ≡ 128 * (k / 8) + 16 * (k % 8) + q = omega arith in
      bit_found k q (omega arith) n ∙ (ap (λ (j : ℕ). cond (set_before w (tasks_of w) j) 1 0) e
      ∙ ap (λ (b : Bool). cond b 1 0) (access_flag w F (k / 8) (k % 8) q (omega arith) (omega arith) n)))

  region_found : (g : ℕ) → g < max_regions → get_or m (plan_masks + g) 0 ≡ mask_of (ahead_at w g)
  region_found g l =
      mask_is (get_or m (plan_masks + g) 0) (ahead_at w g) (fits (plan_masks + g) (omega arith))
      (λ q n. bit_found (plan_masks + g) q (omega arith) n ∙ ap (λ (b : Bool). cond b 1 0) (region_flag w F g q n))

  -- m has the masks of accesses xs, and behind them those of regions ys
  module _ (xs ys : List ℕ) (front : length xs ≡ plan_masks) (behind : length ys ≡ max_regions) (e : xs ++ ys ≡ m) where
    pub access_masks : xs ≡ masks_by (forward_at w)
    access_masks =
        ext_get_or 0 xs (masks_by (forward_at w)) (front ∙ sym (masks_size (forward_at w)))
        (λ k l. let n : k < plan_masks = omega arith in
        sym (get_or-append xs ys 0 k l)
        ∙ (ap (λ (zs : List ℕ). get_or zs k 0) e ∙ (access_found k n ∙ sym (get_d_tabulate (λ k. mask_by (forward_at w) (k / 8) (k % 8)) plan_masks k 0 n))))

    pub region_masks : ys ≡ ahead_masks w
    region_masks =
        ext_get_or 0 ys (ahead_masks w) (behind ∙ sym (length_tabulate (λ g. mask_of (ahead_at w g)) max_regions))
        (λ g l. let n : g < max_regions = omega arith in
        sym (get_or-append-add xs ys g 0)
        ∙ (ap₂ (λ (zs : List ℕ) (k : ℕ). get_or zs (k + g) 0) e front ∙ (region_found g n ∙ sym (ahead_at_lem w g n))))
