-- Laws of membership: of numbers by `mem`, and of any elements by the kit's List.Memᴰ, here In. And of `distinct`.
use Prim.Native.Nat.{ℕ, zero, suc, ◌<◌}
use mathlib.Core.Path.{◌≡◌, refl, sym, ◌∙◌, ap, ap₂, subst}
use mathlib.Core.Bool.{Bool, true, false, cond, not, ◌&&◌, ◌||◌, or-true, or-false, or_assoc, and-eq-true_iff}
use mathlib.Core.Logic.{◌⊎◌, inl, inr, ⊎_elim}
use mathlib.Core.List.{List, [], ◌∷◌, ◌++◌, map, flat_map, append-nil}
use mathlib.Core.List.Memᴰ.{cases_cons as in-cases}
use mathlib.Core.List.Memᴰ.{head as here}
use mathlib.Core.List.Memᴰ.{not-nil as in-nil}
use mathlib.Core.List.Memᴰ.{tail as there}
use mathlib.Core.List.{Memᴰ as In}
use mathlib.Core.List.Memᴰ.{append_cases as in-append}
use mathlib.Core.List.Memᴰ.{append_left as in_left}
use mathlib.Core.List.Memᴰ.{append_right as in_right}
use native.Mathlib.Omega.{arith}
use borrow.Author.Tests.{eqb-true, eq-eqb, not-true}
use lib.Dec.{eqb}
use lib.ListN.{length, get_or}
use Rattle.finite.specs.Below.{any_below}
use Rattle.finite.specs.Lists.{mem, distinct, gather}
use Rattle.finite.proofs.Tests.{or_cases, false_of, not_both}
use Rattle.finite.proofs.Below.{any_from}

-- mem

pub mem_nil : (x : ℕ) → mem x [] ≡ true → ⊥
unfolding mem
mem_nil x h = not_both h refl

pub mem_head : (x : ℕ) (l : List ℕ) → mem x (x ∷ l) ≡ true
unfolding mem
mem_head x l = rw (eq-eqb x x refl)

pub mem_tail : (x y : ℕ) (l : List ℕ) → mem x l ≡ true → mem x (y ∷ l) ≡ true
unfolding mem
mem_tail x y l h = rw h (or-true (eqb x y))

pub mem_cases : (x y : ℕ) (l : List ℕ) → mem x (y ∷ l) ≡ true → (x ≡ y) ⊎ (mem x l ≡ true)
unfolding mem
mem_cases x y l h = ⊎_elim (λ e. inl (eqb-true x y e)) (λ e. inr e) (or_cases (eqb x y) (mem x l) h)

pub mem_one : (x y : ℕ) → mem x (y ∷ []) ≡ true → x ≡ y
mem_one x y h = ⊎_elim (λ e. e) (λ e. absurd (mem_nil x e)) (mem_cases x y [] h)

pub mem_append_left : (x : ℕ) (l k : List ℕ) → mem x l ≡ true → mem x (l ++ k) ≡ true
mem_append_left x [] k h = absurd (mem_nil x h)
mem_append_left x (y ∷ l) k h =
    ⊎_elim
    (λ (e : x ≡ y). rw e (mem_head y (l ++ k)))
    (λ m. mem_tail x y (l ++ k) (mem_append_left x l k m))
    (mem_cases x y l h)

pub mem_append_right : (x : ℕ) (l k : List ℕ) → mem x k ≡ true → mem x (l ++ k) ≡ true
mem_append_right x [] k h = h
mem_append_right x (y ∷ l) k h = mem_tail x y (l ++ k) (mem_append_right x l k h)

-- as tests
pub mem_append : (x : ℕ) (l k : List ℕ) → mem x (l ++ k) ≡ (mem x l || mem x k)
unfolding mem
mem_append x [] k = refl
mem_append x (y ∷ l) k = rw (mem_append x l k) (sym (or_assoc (eqb x y) (mem x l) (mem x k)))

mem_one_if : (x y : ℕ) (b : Bool) → mem x (cond b (y ∷ []) []) ≡ (b && eqb x y)
unfolding mem
mem_one_if x y true = or-false (eqb x y)
mem_one_if x y false = refl

pub mem_gather : (n : ℕ) (p : ℕ → Bool) (f : ℕ → ℕ) (x : ℕ) → mem x (gather n p f) ≡ any_below n (λ k. p k && eqb x (f k))
unfolding gather any_below mem
mem_gather zero p f x = refl
mem_gather (suc n) p f x = mem_append x (gather n p f) (cond (p n) (f n ∷ []) []) ∙ rw (mem_gather n p f x, mem_one_if x (f n) (p n))

pub mem_map : (f : ℕ → ℕ) (x : ℕ) (l : List ℕ) → mem x l ≡ true → mem (f x) (map f l) ≡ true
mem_map f x [] h = absurd (mem_nil x h)
mem_map f x (y ∷ l) h =
    ⊎_elim
    (λ (e : x ≡ y). rw e (mem_head (f y) (map f l)))
    (λ m. mem_tail (f x) (f y) (map f l) (mem_map f x l m))
    (mem_cases x y l h)

pub mem_map_from : (f : ℕ → ℕ) (z : ℕ) (l : List ℕ) → mem z (map f l) ≡ true → (x : ℕ) × (mem x l ≡ true) × (z ≡ f x)
mem_map_from f z [] h = absurd (mem_nil z h)
mem_map_from f z (y ∷ l) h =
    ⊎_elim
    (λ (e : z ≡ f y). (y, mem_head y l, e))
    (λ m. let r : (x : ℕ) × (mem x l ≡ true) × (z ≡ f x) = mem_map_from f z l m in (r.0, mem_tail r.0 y l r.1, r.2))
    (mem_cases z (f y) (map f l) h)

-- functions that agree on the list
pub map_ext : (f g : ℕ → ℕ) (l : List ℕ) → ((x : ℕ) → mem x l ≡ true → f x ≡ g x) → map f l ≡ map g l
map_ext f g [] h = refl
map_ext f g (x ∷ l) h = ap₂ ◌∷◌ (h x (mem_head x l)) (map_ext f g l (λ y m. h y (mem_tail y x l m)))

pub map_map : (f g : ℕ → ℕ) (l : List ℕ) → map f (map g l) ≡ map (λ x. f (g x)) l
map_map f g [] = refl
map_map f g (x ∷ l) = ap (λ (r : List ℕ). f (g x) ∷ r) (map_map f g l)

-- In

pub in_flat_map : {X Y : Type 0} (f : X → List Y) (y : Y) (x : X) (l : List X) → In x l → In y (f x) → In y (flat_map f l)
unfolding flat_map
in_flat_map f y x [] h k = absurd (in-nil h)
in_flat_map f y x (z ∷ l) h k =
    ⊎_elim
    (λ (e : x ≡ z). in_left (flat_map f l) (subst (λ w. In y (f w)) e k))
    (λ m. in_right (f z) (in_flat_map f y x l m k))
    (in-cases h)

pub in_flat_map_from : {X Y : Type 0} (f : X → List Y) (y : Y) (l : List X) → In y (flat_map f l) → (x : X) × In x l × In y (f x)
unfolding flat_map
in_flat_map_from f y [] h = absurd (in-nil h)
in_flat_map_from f y (z ∷ l) h = ⊎_elim (λ m. (z, here refl, m)) (λ m. later (in_flat_map_from f y l m)) (in-append (f z) h)
  where
    later : (x : _) × In x l × In y (f x) → (x : _) × In x (z ∷ l) × In y (f x)
    later (x, h, k) = (x, there h, k)

pub in_mem : (x : ℕ) (l : List ℕ) → In x l → mem x l ≡ true
in_mem x [] h = absurd (in-nil h)
in_mem x (y ∷ l) h = ⊎_elim (λ (e : x ≡ y). rw e (mem_head y l)) (λ m. mem_tail x y l (in_mem x l m)) (in-cases h)

pub mem_in : (x : ℕ) (l : List ℕ) → mem x l ≡ true → In x l
mem_in x [] h = absurd (mem_nil x h)
mem_in x (y ∷ l) h = ⊎_elim (λ e. here e) (λ m. there (mem_in x l m)) (mem_cases x y l h)

-- an element stands at some index
pub in_at : {X : Type 0} (x d : X) (l : List X) → In x l → (i : ℕ) × (i < length l) × (get_or l i d ≡ x)
in_at x d [] h = absurd (in-nil h)
in_at x d (y ∷ l) h =
    ⊎_elim
    (λ e. (0, omega arith, sym e))
    (λ m. let r : (i : ℕ) × (i < length l) × (get_or l i d ≡ x) = in_at x d l m in (suc r.0, omega (arith, r.1), r.2))
    (in-cases h)

pub at_in : {X : Type 0} (x d : X) (l : List X) (i : ℕ) → i < length l → get_or l i d ≡ x → In x l
at_in x d [] i h e = absurd (omega arith)
at_in x d (y ∷ l) zero h e = here (sym e)
at_in x d (y ∷ l) (suc i) h e = there (at_in x d l i (omega arith) e)

-- distinct

pub distinct_snoc : (l : List ℕ) (x : ℕ) → distinct l ≡ true → mem x l ≡ false → distinct (l ++ (x ∷ [])) ≡ true
unfolding distinct mem
distinct_snoc [] x h m = refl
distinct_snoc (y ∷ l) x h m =
    let d = (and-eq-true_iff (not (mem y l)) (distinct l)).0 h in
    let other : (x ≡ y) → ⊥ = λ e. not_both (subst (λ k. mem k (y ∷ l) ≡ true) (sym e) (mem_head y l)) m in
    let rest : mem x l ≡ false = false_of (mem x l) (λ k. not_both (mem_tail x y l k) m) in
    let one : mem y (x ∷ []) ≡ false = false_of (mem y (x ∷ [])) (λ k. other (sym (mem_one y x k))) in
    rw (mem_append y l (x ∷ []), not-true (mem y l) d.0, one, distinct_snoc l x d.1 rest)

-- numbers taken to others, no two to the same
pub distinct_gather : (n : ℕ) (p : ℕ → Bool) (f : ℕ → ℕ) → ((j k : ℕ) → j < k → k < n → f j ≡ f k → ⊥) → distinct (gather n p f) ≡ true
unfolding gather distinct
distinct_gather zero p f h = refl
distinct_gather (suc n) p f h = last (p n) (distinct_gather n p f (λ j k u v. h j k u (omega arith)))
  where
    new : mem (f n) (gather n p f) ≡ true → ⊥
    new m =
        let r = any_from (λ k. p k && eqb (f n) (f k)) n (sym (mem_gather n p f (f n)) ∙ m) in
        h r.0 n r.1 (omega arith) (sym (eqb-true (f n) (f r.0) ((and-eq-true_iff (p r.0) (eqb (f n) (f r.0))).0 r.2).1))

    last : (b : Bool) → distinct (gather n p f) ≡ true → distinct (gather n p f ++ cond b (f n ∷ []) []) ≡ true
    last true d = distinct_snoc (gather n p f) (f n) d (false_of (mem (f n) (gather n p f)) new)
    last false d = rw (append-nil (gather n p f)) d
