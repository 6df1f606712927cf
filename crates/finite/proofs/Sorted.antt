-- Lists whose elements stand in order by a relation.
use Prim.Native.Nat.{ℕ, zero, suc, ◌+◌, ◌≤◌, ◌<◌}
use mathlib.Core.Path.{◌≡◌, refl, sym, ◌∙◌, ap₂, subst}
use mathlib.Core.Bool.{Bool, true, false, cond, not, and-eq-true_iff}
use mathlib.Core.Logic.{⊎_elim}
use mathlib.Core.List.{List, [], ◌∷◌, ◌++◌, flat_map}
use mathlib.Core.List.Memᴰ.{cases_cons as in-cases}
use mathlib.Core.List.Memᴰ.{head as here}
use mathlib.Core.List.Memᴰ.{not-nil as in-nil}
use mathlib.Core.List.Memᴰ.{tail as there}
use mathlib.Core.List.{Memᴰ as In}
use mathlib.Core.List.Memᴰ.{append_cases as in-append}
use mathlib.Core.List.Memᴰ.{eq_of_singleton as in_one}
use native.Mathlib.Omega.{arith}
use borrow.Author.Tests.{eq-eqb, ne_eqb, not-true}
use lib.ListN.{length, get_or}
use Rattle.finite.specs.Lists.{mem, distinct, position, range, gather}
use Rattle.finite.proofs.Tests.{not_both}
use Rattle.finite.proofs.Members.{in_mem, in_at, at_in, in_flat_map_from}
use Rattle.finite.proofs.Lists.{in_range_from, in_gather_from}

module _ {X : Type 0} where
  -- each element stands in the relation to every later one
  abbrev pub Sorted : (X → X → Type 0) → List X → Type 0
  Sorted R [] = Unit {0}
  Sorted R (x ∷ l) = ((y : X) → In y l → R x y) × Sorted R l

  pub sorted_at : (R : X → X → Type 0) (d : X) (l : List X) → Sorted R l → (a b : ℕ) → a < b → b < length l → R (get_or l a d) (get_or l b d)
  sorted_at R d [] s a b h k = absurd (omega arith)
  sorted_at R d (x ∷ l) s a zero h k = absurd (omega arith)
  sorted_at R d (x ∷ l) s zero (suc b) h k = s.0 (get_or l b d) (at_in (get_or l b d) d l b (omega arith) refl)
  sorted_at R d (x ∷ l) s (suc a) (suc b) h k = sorted_at R d l s.1 a b (omega arith) (omega arith)

  pub sorted_imp : (R Q : X → X → Type 0) (l : List X) → ((x y : X) → In x l → In y l → R x y → Q x y) → Sorted R l → Sorted Q l
  sorted_imp R Q [] f s = tt
  sorted_imp R Q (x ∷ l) f s = (λ y m. f x y (here refl) (there m) (s.0 y m), sorted_imp R Q l (λ y z m n. f y z (there m) (there n)) s.1)

  pub sorted_append : (R : X → X → Type 0) (l k : List X) → Sorted R l → Sorted R k → ((x y : X) → In x l → In y k → R x y) → Sorted R (l ++ k)
  sorted_append R [] k s t f = t
  sorted_append R (x ∷ l) k s t f =
      (λ y m. ⊎_elim (s.0 y) (f x y (here refl)) (in-append l m), sorted_append R l k s.1 t (λ y z m. f y z (there m)))

  -- the numbers below n of which p holds, taken to elements in order
  pub sorted_gather : (R : X → X → Type 0) (n : ℕ) (p : ℕ → Bool) (f : ℕ → X) → ((j k : ℕ) → j < k → R (f j) (f k)) → Sorted R (gather n p f)
  unfolding gather
  sorted_gather R zero p f h = tt
  sorted_gather R (suc n) p f h = sorted_append R (gather n p f) (cond (p n) (f n ∷ []) []) (sorted_gather R n p f h) (one (p n)) (λ x y m k. last (p n) x y (in_gather_from n p f x m) k)
    where
      one : (b : Bool) → Sorted R (cond b (f n ∷ []) [])
      one true = (λ y m. absurd (in-nil m), tt)
      one false = tt

      last : (b : Bool) (x y : X) → (k : ℕ) × (k < n) × (p k ≡ true) × (x ≡ f k) → In y (cond b (f n ∷ []) []) → R x y
      last true x y (k, l, t, e) m = subst (λ z. R x z) (sym (in_one m)) (subst (λ z. R z (f n)) (sym e) (h k n l))
      last false x y t m = absurd (in-nil m)

-- the lists of elements in order, each in order and before the next
pub sorted_flat_map : {X Y : Type 0} (Q : X → X → Type 0) (R : Y → Y → Type 0) (f : X → List Y) (l : List X) → Sorted Q l → ((x : X) → In x l → Sorted R (f x)) →
    ((x x' : X) → In x l → In x' l → Q x x' → (y y' : Y) → In y (f x) → In y' (f x') → R y y') → Sorted R (flat_map f l)
unfolding flat_map
sorted_flat_map Q R f [] s own between = tt
sorted_flat_map Q R f (x ∷ l) s own between =
    sorted_append R (f x) (flat_map f l) (own x (here refl))
    (sorted_flat_map Q R f l s.1 (λ z m. own z (there m)) (λ z z' m m'. between z z' (there m) (there m')))
    (λ y y' m m'. later y y' m (in_flat_map_from f y' l m'))
  where
    later : (y y' : _) → In y (f x) → (x' : _) × In x' l × In y' (f x') → R y y'
    later y y' m (x', u, v) = between x x' (here refl) (there u) (s.0 x' u) y y' m v

pub sorted_range : (a n : ℕ) → Sorted (λ (j k : ℕ). j < k) (range a n)
unfolding range
sorted_range a zero = tt
sorted_range a (suc n) = (λ y m. let r : (suc a ≤ y) × (y < suc a + n) = in_range_from y (suc a) n m in r.0, sorted_range (suc a) n)

-- a list of distinct numbers is in the order of their positions
position_head : (x : ℕ) (l : List ℕ) → position x (x ∷ l) ≡ 0
unfolding position
position_head x l = rw (eq-eqb x x refl)

position_tail : (x y : ℕ) (l : List ℕ) → In y l → mem x l ≡ false → position y (x ∷ l) ≡ suc (position y l)
unfolding position
position_tail x y l m h = rw (ne_eqb y x (λ e. not_both (subst (λ (z : ℕ). mem z l ≡ true) e (in_mem y l m)) h))

pub sorted_distinct : (l : List ℕ) → distinct l ≡ true → Sorted (λ (x y : ℕ). position x l < position y l) l
unfolding distinct
sorted_distinct [] h = tt
sorted_distinct (x ∷ l) h =
    let d = (and-eq-true_iff (not (mem x l)) (distinct l)).0 h in
    let n : mem x l ≡ false = not-true (mem x l) d.0 in (
      λ y m. omega (arith, position_head x l, position_tail x y l m n),
      sorted_imp (λ (y z : ℕ). position y l < position z l) (λ (y z : ℕ). position y (x ∷ l) < position z (x ∷ l)) l
          (λ y z m k s. omega (arith, position_tail x y l m n, position_tail x z l k n)) (sorted_distinct l d.1),
    )

module _ {X : Type 0} (R : X → X → Type 0) where
  -- by their indices
  pub sorted_from : (d : X) (l : List X) → ((i j : ℕ) → i < j → j < length l → R (get_or l i d) (get_or l j d)) → Sorted R l
  sorted_from d [] f = tt
  sorted_from d (x ∷ l) f = (
    λ y m. let r = in_at y d l m in subst (λ z. R x z) r.2 (f 0 (suc r.0) (omega arith) (omega (arith, r.1))),
    sorted_from d l (λ i j h k. f (suc i) (suc j) (omega arith) (omega arith)),
  )

  -- by an order that no element has both ways with another, or with itself: the same elements make the same list
  pub sorted_unique : ((x y : X) → R x y → R y x → ⊥) → (l k : List X) → Sorted R l → Sorted R k → ((x : X) → In x l → In x k) → ((x : X) → In x k → In x l) → l ≡ k
  sorted_unique n [] [] s t f g = refl
  sorted_unique n [] (y ∷ k) s t f g = absurd (in-nil (g y (here refl)))
  sorted_unique n (x ∷ l) [] s t f g = absurd (in-nil (f x (here refl)))
  sorted_unique n (x ∷ l) (y ∷ k) s t f g =
      ap₂ ◌∷◌ same (sorted_unique n l k s.1 t.1
      (λ z m. ⊎_elim (λ e. absurd (self x (subst (λ w. R x w) (e ∙ sym same) (s.0 z m)))) (λ u. u) (in-cases (f z (there m))))
      (λ z m. ⊎_elim (λ e. absurd (self y (subst (λ w. R y w) (e ∙ same) (t.0 z m)))) (λ u. u) (in-cases (g z (there m)))))
    where
      self : (z : X) → R z z → ⊥
      self z h = n z z h h

      same : x ≡ y
      same = ⊎_elim (λ e. e) (λ m. ⊎_elim (λ e. sym e) (λ u. absurd (n x y (s.0 y u) (t.0 x m))) (in-cases (g y (here refl)))) (in-cases (f x (here refl)))
