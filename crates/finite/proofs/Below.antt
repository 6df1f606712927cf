-- Laws of the quantifiers, counts and sums below n. Those that end in _none, _more and _done are a
-- loop's: before its first turn, over a turn, and after its last.
use Prim.Native.Nat.{ℕ, zero, suc, ◌+◌, ◌*◌, ◌≤◌, ◌<◌}
use mathlib.Core.Path.{◌≡◌, refl, sym, ◌∙◌, ap, subst}
use mathlib.Core.Bool.{Bool, true, false, cond, ◌&&◌, ◌||◌, or-true, and-true as and-always, and_assoc, and-eq-true_iff, not}
use mathlib.Core.Logic.{⊎_elim}
use native.Mathlib.Decide.{dec_lt, ℕ_discrete}
use native.Mathlib.Nat.{add-zero, add-suc, zero-mul, suc-mul}
use native.Mathlib.Numerals.{add-one}
use native.Mathlib.Omega.{arith}
use borrow.Author.Tests.{eqb-false, ne_eqb, not-true}
use lib.Dec.{eqb}
use Rattle.finite.specs.Below.{all_below, any_below, count_below, sum_below}
use Rattle.finite.proofs.Tests.{and-true, false_of, not_both, or_cases, test_ext}

-- what holds below n and of n holds below n + 1
pub below_suc : (P : ℕ → Type 0) (n : ℕ) → ((k : ℕ) → k < n → P k) → P n → (k : ℕ) → k < suc n → P k
below_suc P n f h k l = elim (dec_lt k n) [ yes m ↦ f k m | no m ↦ (let e : n ≡ k = omega arith in rw e at h) ]

-- all_below

pub all_none : (p : ℕ → Bool) → true ≡ all_below 0 p
unfolding all_below
all_none p = refl

pub all_next : (p : ℕ → Bool) (i : ℕ) → all_below (i + 1) p ≡ (all_below i p && p i)
unfolding all_below
all_next p i = rw add-one

-- a turn `ok = ok & t`: the flag before it, and the test's answer
pub all_more : (p : ℕ → Bool) (i : ℕ) (ok t : Bool) → ok ≡ all_below i p → t ≡ p i → (ok && t) ≡ all_below (i + 1) p
all_more p i ok t h e = rw (all_next, h, e)

pub all_done : (p : ℕ → Bool) (n i : ℕ) (ok : Bool) → ok ≡ all_below i p → n ≤ i → i ≤ n → ok ≡ all_below n p
all_done p n i ok h a b = let e : n ≡ i = omega arith in rw e h

pub all_at : (p : ℕ → Bool) (n i : ℕ) → all_below n p ≡ true → i < n → p i ≡ true
unfolding all_below
all_at p zero i h l = absurd (omega arith)
all_at p (suc n) i h l =
    let b = (and-eq-true_iff (all_below n p) (p n)).0 h in
    below_suc (λ k. p k ≡ true) n (λ k m. all_at p n k b.0 m) b.1 i l

pub all_of : (p : ℕ → Bool) (n : ℕ) → ((i : ℕ) → i < n → p i ≡ true) → all_below n p ≡ true
unfolding all_below
all_of p zero f = refl
all_of p (suc n) f = rw (all_of p n (λ i l. f i (omega arith)), f n (omega arith))

pub all_ext : (n : ℕ) (p q : ℕ → Bool) → ((i : ℕ) → i < n → p i ≡ q i) → all_below n p ≡ all_below n q
unfolding all_below
all_ext zero p q h = refl
all_ext (suc n) p q h = rw (all_ext n p q (λ i l. h i (omega arith)), h n (omega arith))

pub all_split : (m n : ℕ) (p : ℕ → Bool) → all_below (m + n) p ≡ (all_below m p && all_below n (λ i. p (m + i)))
unfolding all_below
all_split m zero p = rw add-zero (sym (and-always (all_below m p)))
all_split m (suc n) p = rw (add-suc, all_split m n p) (and_assoc (all_below m p) (all_below n (λ i. p (m + i))) (p (m + n)))

pub all_fails : (p : ℕ → Bool) (n i : ℕ) → i < n → p i ≡ false → all_below n p ≡ false
all_fails p n i l h = false_of (all_below n p) (λ e. not_both (all_at p n i e l) h)

-- any_below

pub any_none : (p : ℕ → Bool) → false ≡ any_below 0 p
unfolding any_below
any_none p = refl

pub any_next : (p : ℕ → Bool) (i : ℕ) → any_below (i + 1) p ≡ (any_below i p || p i)
unfolding any_below
any_next p i = rw add-one

-- a turn `found = found | t`
pub any_more : (p : ℕ → Bool) (i : ℕ) (found t : Bool) → found ≡ any_below i p → t ≡ p i → (found || t) ≡ any_below (i + 1) p
any_more p i found t h e = rw (any_next, h, e)

pub any_done : (p : ℕ → Bool) (n i : ℕ) (found : Bool) → found ≡ any_below i p → n ≤ i → i ≤ n → found ≡ any_below n p
any_done p n i found h a b = let e : n ≡ i = omega arith in rw e h

pub any_at : (p : ℕ → Bool) (n i : ℕ) → i < n → p i ≡ true → any_below n p ≡ true
unfolding any_below
any_at p zero i l h = absurd (omega arith)
any_at p (suc n) i l h =
    elim (dec_lt i n) [
      | yes k ↦ rw (any_at p n i k h)
      | no k ↦ (let e : i ≡ n = omega arith in rw (← e, h) (or-true (any_below i p)))
    ]

pub any_never : (p : ℕ → Bool) (n : ℕ) → ((i : ℕ) → i < n → p i ≡ false) → any_below n p ≡ false
unfolding any_below
any_never p zero h = refl
any_never p (suc n) h = rw (any_never p n (λ i l. h i (omega arith)), h n (omega arith))

pub any_from : (p : ℕ → Bool) (n : ℕ) → any_below n p ≡ true → (i : ℕ) × (i < n) × (p i ≡ true)
unfolding any_below
any_from p zero h = absurd (not_both h refl)
any_from p (suc n) h =
    ⊎_elim
    (λ e. let r : (i : ℕ) × (i < n) × (p i ≡ true) = any_from p n e in (r.0, omega (arith, r.1), r.2))
    (λ e. (n, omega arith, e))
    (or_cases (any_below n p) (p n) h)

pub any_ext : (n : ℕ) (p q : ℕ → Bool) → ((i : ℕ) → i < n → p i ≡ q i) → any_below n p ≡ any_below n q
unfolding any_below
any_ext zero p q h = refl
any_ext (suc n) p q h = rw (any_ext n p q (λ i k. h i (omega arith)), h n (omega arith))

pub any_or : (n : ℕ) (p q : ℕ → Bool) → any_below n (λ i. p i || q i) ≡ (any_below n p || any_below n q)
unfolding any_below
any_or zero p q = refl
any_or (suc n) p q = ap (λ (b : Bool). b || (p n || q n)) (any_or n p q) ∙ go (any_below n p) (any_below n q) (p n)
  where
    go : (a b c : Bool) → ((a || b) || (c || q n)) ≡ ((a || c) || (b || q n))
    go true b c = refl
    go false true true = refl
    go false true false = refl
    go false false true = refl
    go false false false = refl

-- a test that holds of one number at most
pub any_only : (p : ℕ → Bool) (n i : ℕ) → i < n → ((j : ℕ) → j < n → (j ≡ i → ⊥) → p j ≡ false) → any_below n p ≡ p i
any_only p n i l f = test_ext (any_below n p) (p i) (λ h. there (any_from p n h)) (λ h. any_at p n i l h)
  where
    there : (j : ℕ) × (j < n) × (p j ≡ true) → p i ≡ true
    there (j, k, h) =
        elim (ℕ_discrete j i) [
          | yes e ↦ subst (λ (x : ℕ). p x ≡ true) e h
          | no e ↦ absurd (not_both h (f j k e))
        ]

pub all_not : (n : ℕ) (p : ℕ → Bool) → all_below n (λ i. not (p i)) ≡ not (any_below n p)
unfolding all_below any_below
all_not zero p = refl
all_not (suc n) p = rw (all_not n p) (both (any_below n p) (p n))
  where
    both : (a b : Bool) → (not a && not b) ≡ not (a || b)
    both true b = refl
    both false b = refl

-- count_below

pub count_none : (p : ℕ → Bool) → 0 ≡ count_below 0 p
unfolding count_below
count_none p = refl

pub count_next : (p : ℕ → Bool) (i : ℕ) → count_below (i + 1) p ≡ count_below i p + cond (p i) 1 0
unfolding count_below
count_next p i = rw add-one

-- a turn that adds 1 where the test holds, else 0
pub count_more : (p : ℕ → Bool) (i n s : ℕ) (t : Bool) → n ≡ count_below i p → s ≡ cond t 1 0 → t ≡ p i → n + s ≡ count_below (i + 1) p
count_more p i n s t h e f = rw (count_next, h, e, f)

pub count_done : (p : ℕ → Bool) (n i k : ℕ) → k ≡ count_below i p → n ≤ i → i ≤ n → k ≡ count_below n p
count_done p n i k h a b = let e : n ≡ i = omega arith in rw e h

pub count_never : (n : ℕ) (p : ℕ → Bool) → ((k : ℕ) → k < n → p k ≡ false) → count_below n p ≡ 0
unfolding count_below
count_never zero p h = refl
count_never (suc n) p h = rw (count_never n p (λ k l. h k (omega arith)), h n (omega arith))

pub one_at_most : (b : Bool) → cond b 1 0 ≤ 1
one_at_most true = omega arith
one_at_most false = omega arith

pub count_le : (p : ℕ → Bool) (n : ℕ) → count_below n p ≤ n
unfolding count_below
count_le p zero = omega arith
count_le p (suc n) = omega (arith, count_le p n, one_at_most (p n))

-- sum_below

pub sum_none : (f : ℕ → ℕ) → 0 ≡ sum_below 0 f
unfolding sum_below
sum_none f = refl

pub sum_more : (f : ℕ → ℕ) (i s v : ℕ) → s ≡ sum_below i f → v ≡ f i → s + v ≡ sum_below (i + 1) f
unfolding sum_below
sum_more f i s v h e = rw (add-one, sum_below, h, e)

pub sum_done : (f : ℕ → ℕ) (n i s : ℕ) → s ≡ sum_below i f → n ≤ i → i ≤ n → s ≡ sum_below n f
sum_done f n i s h a b = let e : n ≡ i = omega arith in rw e h

pub sum_const : (n c : ℕ) → sum_below n (λ k. c) ≡ n * c
unfolding sum_below
sum_const zero c = sym (zero-mul c)
sum_const (suc n) c = omega (arith, sum_const n c, suc-mul n c)

pub sum_ext : (n : ℕ) (f g : ℕ → ℕ) → ((k : ℕ) → k < n → f k ≡ g k) → sum_below n f ≡ sum_below n g
unfolding sum_below
sum_ext zero f g h = refl
sum_ext (suc n) f g h = omega (arith, sum_ext n f g (λ k l. h k (omega arith)), h n (omega arith))

pub sum_le : (n : ℕ) (f g : ℕ → ℕ) → ((k : ℕ) → k < n → f k ≤ g k) → sum_below n f ≤ sum_below n g
unfolding sum_below
sum_le zero f g h = omega arith
sum_le (suc n) f g h = omega (arith, sum_le n f g (λ k l. h k (omega arith)), h n (omega arith))

-- sums that are equal, of terms that are at most the others', have equal terms
pub sum_tight : (n : ℕ) (f g : ℕ → ℕ) → ((k : ℕ) → k < n → f k ≤ g k) → sum_below n f ≡ sum_below n g → (k : ℕ) → k < n → f k ≡ g k
unfolding sum_below
sum_tight zero f g h e k l = absurd (omega arith)
sum_tight (suc n) f g h e k l =
    let below : sum_below n f ≤ sum_below n g = sum_le n f g (λ j m. h j (omega arith)) in
    below_suc (λ j. f j ≡ g j) n (sum_tight n f g (λ j m. h j (omega arith)) (omega (arith, below, h n (omega arith)))) (omega (arith, below, h n (omega arith))) k l

-- one term is more by d
pub sum_more_at : (n : ℕ) (f g : ℕ → ℕ) (a d : ℕ) → a < n → g a ≡ f a + d → ((k : ℕ) → (k ≡ a → ⊥) → k < n → g k ≡ f k) → sum_below n g ≡ sum_below n f + d
unfolding sum_below
sum_more_at zero f g a d l e h = absurd (omega arith)
sum_more_at (suc n) f g a d l e h =
    elim (ℕ_discrete n a) [
      | yes k ↦ omega (arith, sum_ext n g f (λ j m. h j (λ q. omega arith) (omega arith)), ap f k, ap g k)
      | no k ↦ omega (arith, sum_more_at n f g a d (omega arith) e (λ j q m. h j q (omega arith)), h n k (omega arith))
    ]

-- by 1
pub sum_suc : (n : ℕ) (f g : ℕ → ℕ) (a : ℕ) → a < n → g a ≡ suc (f a) → ((k : ℕ) → (k ≡ a → ⊥) → g k ≡ f k) → sum_below n g ≡ suc (sum_below n f)
sum_suc n f g a l e h = omega (arith, sum_more_at n f g a 1 l (omega arith) (λ k q m. h k q))

-- what lies beyond n adds nothing
pub sum_beyond : (m n : ℕ) (f : ℕ → ℕ) → n ≤ m → ((k : ℕ) → n ≤ k → k < m → f k ≡ 0) → sum_below m f ≡ sum_below n f
unfolding sum_below
sum_beyond zero n f l h = let e : n ≡ 0 = omega arith in rw e
sum_beyond (suc m) n f l h =
    elim (ℕ_discrete n (suc m)) [
      | yes e ↦ rw e
      | no e ↦ omega (arith, sum_beyond m n f (omega arith) (λ k u v. h k u (omega arith)), h m (omega arith) (omega arith))
    ]

-- counts as sums

pub count_sum : (n : ℕ) (p : ℕ → Bool) → count_below n p ≡ sum_below n (λ k. cond (p k) 1 0)
unfolding count_below sum_below
count_sum zero p = refl
count_sum (suc n) p = omega (arith, count_sum n p)

pub count_ext : (n : ℕ) (p q : ℕ → Bool) → ((k : ℕ) → k < n → p k ≡ q k) → count_below n p ≡ count_below n q
count_ext n p q h = count_sum n p ∙ (sum_ext n (λ k. cond (p k) 1 0) (λ k. cond (q k) 1 0) (λ k l. ap (λ (b : Bool). cond b 1 0) (h k l)) ∙ sym (count_sum n q))

-- of one number more
pub count_suc : (n : ℕ) (p q : ℕ → Bool) (a : ℕ) → a < n → p a ≡ false → q a ≡ true → ((k : ℕ) → (k ≡ a → ⊥) → q k ≡ p k) → count_below n q ≡ suc (count_below n p)
count_suc n p q a l e f h =
    count_sum n q
    ∙ (sum_suc n (λ k. cond (p k) 1 0) (λ k. cond (q k) 1 0) a l (rw (e, f)) (λ k m. ap (λ (b : Bool). cond b 1 0) (h k m))
    ∙ ap suc (sym (count_sum n p)))

pub count_beyond : (m n : ℕ) (p : ℕ → Bool) → n ≤ m → ((k : ℕ) → n ≤ k → k < m → p k ≡ false) → count_below m p ≡ count_below n p
count_beyond m n p l h = count_sum m p ∙ (sum_beyond m n (λ k. cond (p k) 1 0) l (λ k u v. rw (h k u v)) ∙ sym (count_sum n p))

pub count_add : (a n : ℕ) (p : ℕ → Bool) → count_below (a + n) p ≡ count_below a p + count_below n (λ j. p (a + j))
unfolding count_below
count_add a zero p = rw (add-zero a, add-zero)
count_add a (suc n) p = rw add-suc (omega (arith, count_add a n p))

-- m stretches of n numbers
pub count_split : (m n : ℕ) (p : ℕ → Bool) → count_below (m * n) p ≡ sum_below m (λ i. count_below n (λ j. p (i * n + j)))
unfolding count_below sum_below
count_split zero n p = rw zero-mul
count_split (suc m) n p = rw suc-mul (omega (arith, count_add (m * n) n p, count_split m n p))

-- numbers that others cover: each of the first is h of one of the second, so there are no more of
-- them
count_without : (n x : ℕ) (p : ℕ → Bool) → count_below n p ≤ suc (count_below n (λ k. p k && not (eqb k x)))
unfolding count_below
count_without zero x p = omega arith
count_without (suc n) x p =
    elim (ℕ_discrete n x) [
      | yes e ↦ omega (arith, count_ext n p (λ k. p k && not (eqb k x)) (λ k l. apart k (λ z. omega arith)), one_at_most (p n))
      | no e ↦ (let q : ◌≡◌ {A = ℕ} (cond (p n) 1 0) (cond (p n && not (eqb n x)) 1 0) = ap (λ (b : Bool). cond b 1 0) (apart n e) in omega (arith, count_without n x p))
    ]
  where
    and_kept : (a : Bool) → a ≡ (a && true)
    and_kept true = refl
    and_kept false = refl

    apart : (k : ℕ) → (k ≡ x → ⊥) → p k ≡ (p k && not (eqb k x))
    apart k e = rw (ne_eqb k x e) (and_kept (p k))

pub count_cover : (n m : ℕ) (p r : ℕ → Bool) (h : ℕ → ℕ) → ((k : ℕ) → k < n → p k ≡ true → (j : ℕ) × (j < m) × (r j ≡ true) × (h j ≡ k)) → count_below n p ≤ count_below m r
unfolding count_below
count_cover n zero p r h c = omega (arith, count_never n p (λ k l. false_of (p k) (λ e. let j = c k l e in absurd (omega (arith, j.1)))))
count_cover n (suc m) p r h c = turn (r m) refl (count_cover n m)
  where
    turn : (b : Bool) → r m ≡ b → ((p' r' : ℕ → Bool) (h' : ℕ → ℕ) → ((k : ℕ) → k < n → p' k ≡ true → (j : ℕ) × (j < m) × (r' j ≡ true) × (h' j ≡ k)) → count_below n p' ≤ count_below m r') →
        count_below n p ≤ count_below m r + cond b 1 0
    turn true e ih =
        omega (
          arith,
          count_without n (h m) p,
          ih (λ k. p k && not (eqb k (h m))) r h
              (λ k l q.
              let b = and-true (p k) (not (eqb k (h m))) q in
              let j = c k l b.0 in
              let other : j.0 ≡ m → ⊥ = λ z. eqb-false k (h m) (not-true (eqb k (h m)) b.1) (sym j.3 ∙ ap h z) in
              (j.0, omega (arith, j.1), j.2, j.3)),
        )
    turn false e ih =
        omega (
          arith,
          ih p r h
              (λ k l q.
              let j = c k l q in
              let other : j.0 ≡ m → ⊥ = λ z. not_both j.2 (ap r z ∙ e) in
              (j.0, omega (arith, j.1), j.2, j.3)),
        )
