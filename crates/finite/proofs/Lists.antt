-- Laws of range, tabulate, replicate, gather and flat_map. Those that end in _none, _more and _done
-- are a loop's that fills a list: before its first turn, over a turn, and after its last.
use Prim.Native.Nat.{ℕ, zero, suc, ◌+◌, ◌≤◌, ◌<◌}
use mathlib.Core.Path.{◌≡◌, refl, sym, ◌∙◌, ap, ap₂}
use mathlib.Core.Bool.{Bool, true, false, cond}
use mathlib.Core.Logic.{⊎_elim}
use mathlib.Core.List.{List, [], ◌∷◌, ◌++◌, flat_map, append-nil, append_assoc}
use mathlib.Core.List.Memᴰ.{cases_cons as in-cases}
use mathlib.Core.List.Memᴰ.{head as here}
use mathlib.Core.List.Memᴰ.{not-nil as in-nil}
use mathlib.Core.List.Memᴰ.{tail as there}
use mathlib.Core.List.{Memᴰ as In}
use mathlib.Core.List.Memᴰ.{append_cases as in-append}
use mathlib.Core.List.Memᴰ.{append_left as in_left}
use mathlib.Core.List.Memᴰ.{append_right as in_right}
use mathlib.Core.List.Memᴰ.{eq_of_singleton as in_one}
use native.Mathlib.Decide.{dec_lt}
use native.Mathlib.Nat.{add-zero}
use native.Mathlib.Numerals.{add-one}
use native.Mathlib.Omega.{arith}
use borrow.Author.Fill.{fill_more}
use lib.ListN.{length, get_or, take, drop, set, replicate, length-append, drop_of_length-le, get_or-append}
use lib.Seq.{take-suc-set, take-set-le, take_all, get_or_at, get_or-append-add}
use Rattle.finite.specs.Below.{count_below, sum_below}
use Rattle.finite.specs.Lists.{range, tabulate, gather}
use Rattle.finite.proofs.Below.{count_add, count_ext}

-- range

pub in_range : (x a n : ℕ) → a ≤ x → x < a + n → In x (range a n)
unfolding range
in_range x a zero h l = absurd (omega arith)
in_range x a (suc n) h l =
    elim (dec_lt a x) [
      | yes k ↦ there (in_range x (suc a) n (omega arith) (omega arith))
      | no k ↦ (let e : x ≡ a = omega arith in here e)
    ]

pub in_range_from : (x a n : ℕ) → In x (range a n) → (a ≤ x) × (x < a + n)
unfolding range
in_range_from x a zero h = absurd (in-nil h)
in_range_from x a (suc n) h =
    ⊎_elim
    (λ (e : x ≡ a). (omega arith, omega arith))
    (λ m. let r : (suc a ≤ x) × (x < suc a + n) = in_range_from x (suc a) n m in (omega arith, omega arith))
    (in-cases h)

pub range_snoc : (a n : ℕ) → range a (suc n) ≡ range a n ++ ((a + n) ∷ [])
unfolding range
range_snoc a zero = ap (λ (k : ℕ). k ∷ []) (omega arith)
range_snoc a (suc n) = ap (λ (r : List ℕ). a ∷ r) (range_snoc (suc a) n ∙ ap (λ (k : ℕ). range (suc a) n ++ (k ∷ [])) (omega arith))

-- flat_map

pub flat_map_append : {X Y : Type 0} (f : X → List Y) (l k : List X) → flat_map f (l ++ k) ≡ flat_map f l ++ flat_map f k
unfolding flat_map
flat_map_append f [] k = refl
flat_map_append f (x ∷ l) k = ap (λ r. f x ++ r) (flat_map_append f l k) ∙ sym (append_assoc (f x) (flat_map f l) (flat_map f k))

-- over one number more
pub flat_map_range : {Y : Type 0} (f : ℕ → List Y) (n : ℕ) → flat_map f (range 0 (suc n)) ≡ flat_map f (range 0 n) ++ f n
unfolding flat_map
flat_map_range f n =
    ap (flat_map f) (range_snoc 0 n)
    ∙ (flat_map_append f (range 0 n) ((0 + n) ∷ [])
    ∙ (ap (λ r. flat_map f (range 0 n) ++ r) (append-nil (f (0 + n))) ∙ (let e : 0 + n ≡ n = omega arith in ap (λ (k : ℕ). flat_map f (range 0 n) ++ f k) e)))

pub length_flat_map_range : {Y : Type 0} (f : ℕ → List Y) (n : ℕ) → length (flat_map f (range 0 n)) ≡ sum_below n (λ i. length (f i))
unfolding range flat_map sum_below
length_flat_map_range f zero = refl
length_flat_map_range f (suc n) = ap length (flat_map_range f n) ∙ (length-append (flat_map f (range 0 n)) (f n) ∙ rw (length_flat_map_range f n))

-- replicate

-- a turn that stores v at i
pub replicate_more : (v i : ℕ) (xs ys : List ℕ) → ys ≡ replicate i v ++ drop i xs → i < length xs → set ys i v ≡ replicate (i + 1) v ++ drop (i + 1) xs
replicate_more v i xs ys h l = rw h (fill_more i v xs l)

pub replicate_done : (v i : ℕ) (xs ys : List ℕ) → ys ≡ replicate i v ++ drop i xs → length xs ≤ i → i ≤ length xs → ys ≡ replicate (length xs) v
replicate_done v i xs ys h a b =
    let e : length xs ≡ i = omega arith in
    h ∙ rw (drop_of_length-le xs a, append-nil, e)

module _ {X : Type 0} where
  -- tabulate

  pub tabulate_none : (f : ℕ → X) (xs : List X) → take 0 xs ≡ tabulate 0 f
  unfolding tabulate
  tabulate_none f xs = refl

  -- a turn that stores v at i
  pub tabulate_more : (f : ℕ → X) (i : ℕ) (v : X) (xs : List X) → take i xs ≡ tabulate i f → i < length xs → v ≡ f i → take (i + 1) (set xs i v) ≡ tabulate (i + 1) f
  unfolding tabulate
  tabulate_more f i v xs h l e = rw add-one (take-suc-set xs i v l ∙ rw (h, e))

  pub tabulate_done : (f : ℕ → X) (n i : ℕ) (xs : List X) → take i xs ≡ tabulate i f → length xs ≡ n → n ≤ i → i ≤ n → xs ≡ tabulate n f
  tabulate_done f n i xs h l a b =
      let e : n ≡ i = omega arith in
      let m : length xs ≤ i = omega arith in
      rw e (sym (take_all i xs m) ∙ h)

  pub length_tabulate : (f : ℕ → X) (n : ℕ) → length (tabulate n f) ≡ n
  unfolding tabulate
  length_tabulate f zero = refl
  length_tabulate f (suc n) = length-append (tabulate n f) (f n ∷ []) ∙ rw (length_tabulate f n, add-one)

  pub get_d_tabulate : (f : ℕ → X) (n i : ℕ) (d : X) → i < n → get_or (tabulate n f) i d ≡ f i
  unfolding tabulate
  get_d_tabulate f zero i d h = absurd (omega arith)
  get_d_tabulate f (suc n) i d h =
      elim (dec_lt i n) [
        | yes k ↦ get_or-append (tabulate n f) (f n ∷ []) d i (omega (arith, length_tabulate f n)) ∙ get_d_tabulate f n i d k
        | no k ↦ (let e : i ≡ n = omega arith in rw e (get_or_at (tabulate n f) (f n) [] d n (length_tabulate f n)))
      ]

  -- gather

  pub gather_none : (p : ℕ → Bool) (f : ℕ → X) (xs : List X) → take 0 xs ≡ gather 0 p f
  unfolding gather
  gather_none p f xs = refl

  take_next : (xs : List X) (n : ℕ) (v : X) (b : Bool) → n < length xs → take (n + cond b 1 0) (set xs n v) ≡ take n xs ++ cond b (v ∷ []) []
  take_next xs n v true h = rw add-one (take-suc-set xs n v h)
  take_next xs n v false h = rw (add-zero, append-nil) (take-set-le n xs n v (omega arith))

  -- a turn that stores v at n, and goes on behind it where the test holds
  pub gather_more : (p : ℕ → Bool) (f : ℕ → X) (i n s : ℕ) (v : X) (t : Bool) (xs : List X)
      → take n xs ≡ gather i p f → n < length xs → s ≡ cond t 1 0 → t ≡ p i → v ≡ f i → take (n + s) (set xs n v) ≡ gather (i + 1) p f
  unfolding gather
  gather_more p f i n s v t xs h l e q g = rw (e, add-one) (take_next xs n v t l ∙ rw (h, q, g))

  pub gather_done : (p : ℕ → Bool) (f : ℕ → X) (n i : ℕ) (xs : List X) → xs ≡ gather i p f → n ≤ i → i ≤ n → xs ≡ gather n p f
  gather_done p f n i xs h a b = let e : n ≡ i = omega arith in rw e h

  pub gather_ext : (n : ℕ) (p q : ℕ → Bool) (f : ℕ → X) → ((k : ℕ) → k < n → p k ≡ q k) → gather n p f ≡ gather n q f
  unfolding gather
  gather_ext zero p q f h = refl
  gather_ext (suc n) p q f h = ap₂ (λ l b. l ++ cond b (f n ∷ []) []) (gather_ext n p q f (λ k l. h k (omega arith))) (h n (omega arith))

  length_one : (b : Bool) (v : X) → length (cond b (v ∷ []) []) ≡ cond b 1 0
  length_one true v = refl
  length_one false v = refl

  pub length_gather : (n : ℕ) (p : ℕ → Bool) (f : ℕ → X) → length (gather n p f) ≡ count_below n p
  unfolding gather count_below
  length_gather zero p f = refl
  length_gather (suc n) p f = simp (length-append, length_one, length_gather n p f)

  pub in_gather : (n : ℕ) (p : ℕ → Bool) (f : ℕ → X) (k : ℕ) → k < n → p k ≡ true → In (f k) (gather n p f)
  unfolding gather
  in_gather zero p f k l h = absurd (omega arith)
  in_gather (suc n) p f k l h =
      elim (dec_lt k n) [
        | yes m ↦ in_left (cond (p n) (f n ∷ []) []) (in_gather n p f k m h)
        | no m ↦ (let e : k ≡ n = omega arith in in_right (gather n p f) (rw (← e, h) (here refl)))
      ]

  pub in_gather_from : (n : ℕ) (p : ℕ → Bool) (f : ℕ → X) (x : X) → In x (gather n p f) → (k : ℕ) × (k < n) × (p k ≡ true) × (x ≡ f k)
  unfolding gather
  in_gather_from zero p f x h = absurd (in-nil h)
  in_gather_from (suc n) p f x h = ⊎_elim (λ m. earlier (in_gather_from n p f x m)) (λ m. last (p n) refl m) (in-append (gather n p f) h)
    where
      earlier : (k : ℕ) × (k < n) × (p k ≡ true) × (x ≡ f k) → (k : ℕ) × (k < suc n) × (p k ≡ true) × (x ≡ f k)
      earlier (k, l, h, e) = (k, omega arith, h, e)

      last : (b : Bool) → p n ≡ b → In x (cond b (f n ∷ []) []) → (k : ℕ) × (k < suc n) × (p k ≡ true) × (x ≡ f k)
      last true e m = (n, omega arith, e, in_one m)
      last false e m = absurd (in-nil m)

-- of each number that p holds of, a list
pub length_flat_map_gather : {X Y : Type 0} (f : X → List Y) (n : ℕ) (p : ℕ → Bool) (g : ℕ → X)
    → length (flat_map f (gather n p g)) ≡ sum_below n (λ k. cond (p k) (length (f (g k))) 0)
unfolding gather flat_map sum_below
length_flat_map_gather f zero p g = refl
length_flat_map_gather f (suc n) p g =
    ap length (flat_map_append f (gather n p g) (cond (p n) (g n ∷ []) []))
    ∙ (length-append (flat_map f (gather n p g)) (flat_map f (cond (p n) (g n ∷ []) [])) ∙ rw (length_flat_map_gather f n p g, one (p n)))
  where
    one : (b : Bool) → length (flat_map f (cond b (g n ∷ []) [])) ≡ cond b (length (f (g n))) 0
    one true = ap length (append-nil (f (g n)))
    one false = refl

-- the elements of a list of which p holds, among its first ones

pub count_left : {X : Type 0} (p : X → Bool) (d : X) (l m : List X) (a : ℕ) → a ≤ length l → count_below a (λ k. p (get_or (l ++ m) k d)) ≡ count_below a (λ k. p (get_or l k d))
count_left p d l m a h = count_ext a (λ k. p (get_or (l ++ m) k d)) (λ k. p (get_or l k d)) (λ k n. ap p (get_or-append l m d k (omega arith)))

pub count_right : {X : Type 0} (p : X → Bool) (d : X) (l m : List X) (a : ℕ) →
    count_below (length l + a) (λ k. p (get_or (l ++ m) k d)) ≡ count_below (length l) (λ k. p (get_or l k d)) + count_below a (λ k. p (get_or m k d))
count_right p d l m a =
    omega (
      arith,
      count_add (length l) a (λ k. p (get_or (l ++ m) k d)),
      count_left p d l m (length l) (omega arith),
      count_ext a (λ k. p (get_or (l ++ m) (length l + k) d)) (λ k. p (get_or m k d)) (λ k n. ap p (get_or-append-add l m k d)),
    )
