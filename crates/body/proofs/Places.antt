-- The numbering of places: copies and slots are apart, and what they hold at the opening.
use Prim.Native.Nat.{ℕ, suc, ◌+◌, ◌*◌, ◌/◌, ◌%◌, ◌≤◌, ◌<◌}
use mathlib.Core.Path.{◌≡◌, sym, ◌∙◌, ap}
use native.Mathlib.Nat.{mul-add-mod_self_right, mod-eq_of_lt, mul-add-div_right, div-eq_of_lt, add-zero, mul-le-mul_right, suc-mul}
use native.Mathlib.Omega.{arith}
use borrow.Author.Tests.{lt-ltb, le-ltb}
use Rattle.body.specs.Body.{Body, Fits}
use Rattle.body.specs.Places.{slot, copy, initial}

pub slots_apart : (a b : ℕ) → slot a ≡ slot b → a ≡ b
unfolding slot
slots_apart a b e = omega arith

module _ (B : Body) where
  copy_region : (q g : ℕ) → g < B.regions → copy B q g % B.regions ≡ g
  unfolding copy
  copy_region q g h = mul-add-mod_self_right _ B.regions g ∙ mod-eq_of_lt h

  copy_rank : (q g : ℕ) → g < B.regions → copy B q g / B.regions ≡ q
  unfolding copy
  copy_rank q g h = let k : 0 < B.regions = omega arith in mul-add-div_right k _ g ∙ rw (div-eq_of_lt h) (add-zero q)

  pub copies_apart : (q g r h : ℕ) → g < B.regions → h < B.regions → copy B q g ≡ copy B r h → (q ≡ r) × (g ≡ h)
  copies_apart q g r h l m e =
      (sym (copy_rank q g l) ∙ (ap (λ (x : ℕ). x / B.regions) e ∙ copy_rank r h m), sym (copy_region q g l) ∙ (ap (λ (x : ℕ). x % B.regions) e ∙ copy_region r h m))

  pub copy_below : (q g : ℕ) → q < B.ranks → g < B.regions → copy B q g < B.ranks * B.regions
  unfolding copy
  copy_below q g l m = let h : suc q * B.regions ≤ B.ranks * B.regions = mul-le-mul_right B.regions l in omega (arith, suc-mul q B.regions)

  pub copy_opening : (q g : ℕ) → q < B.ranks → g < B.regions → initial B (copy B q g) ≡ B.starting g
  unfolding initial
  copy_opening q g l m = rw (lt-ltb (copy B q g) (B.ranks * B.regions) (copy_below q g l m)) (ap B.starting (copy_region q g m))

  pub copy_no_slot : Fits B → (q g a : ℕ) → q < B.ranks → g < B.regions → copy B q g ≡ slot a → ⊥
  unfolding slot
  copy_no_slot F q g a l m e = omega (arith, copy_below q g l m, F.room)

  pub slot_opening : Fits B → (a : ℕ) → initial B (slot a) ≡ 0
  unfolding initial slot
  slot_opening F a = rw (le-ltb (2048 + a) (B.ranks * B.regions) (omega (arith, F.room)))
