-- Sums of sums, and counts bounded by others.
use Prim.Native.Nat.{ℕ, zero, suc, ◌+◌, ◌*◌, ◌≤◌, ◌<◌}
use mathlib.Core.Path.{◌≡◌, refl, sym, ◌∙◌, subst}
use mathlib.Core.Bool.{Bool, true, false, cond, not, ◌&&◌, ◌||◌}
use mathlib.Core.Logic.{⊎_elim}
use native.Mathlib.Decide.{dec_lt}
use native.Mathlib.Nat.{add-mul, one-mul, zero-mul}
use native.Mathlib.Omega.{arith}
use borrow.Author.Tests.{eqb-true, eq-eqb}
use lib.Dec.{eqb}
use Rattle.finite.specs.Below.{any_below, count_below, sum_below}
use Rattle.finite.proofs.Below.{any_from, count_le, count_never, count_sum, sum_const, sum_ext, sum_le}
use Rattle.finite.proofs.Tests.{and_intro, and-true, false_of, not_both, true_or_false}

-- sums

pub sum_add : (n : ℕ) (f g : ℕ → ℕ) → sum_below n (λ k. f k + g k) ≡ sum_below n f + sum_below n g
unfolding sum_below
sum_add zero f g = refl
sum_add (suc n) f g = omega (arith, sum_add n f g)

pub sum_swap : (m n : ℕ) (f : ℕ → ℕ → ℕ) → sum_below m (λ i. sum_below n (f i)) ≡ sum_below n (λ j. sum_below m (λ i. f i j))
unfolding sum_below
sum_swap zero n f = sym (sum_const n 0 ∙ omega arith)
sum_swap (suc m) n f = omega (arith, sum_swap m n f, sum_add n (λ j. sum_below m (λ i. f i j)) (f m))

-- x for each number of which p holds, y for each other
pub sum_cond : (n : ℕ) (p : ℕ → Bool) (x y : ℕ) → sum_below n (λ k. cond (p k) x y) ≡ count_below n p * x + count_below n (λ k. not (p k)) * y
unfolding sum_below count_below
sum_cond zero p x y = rw (zero-mul x, zero-mul y)
sum_cond (suc n) p x y =
    rw (sum_cond n p x y, add-mul (count_below n p) (cond (p n) 1 0) x, add-mul (count_below n (λ k. not (p k))) (cond (not (p n)) 1 0) y) (one (p n))
  where
    one : (b : Bool) →
        count_below n p * x + count_below n (λ k. not (p k)) * y + cond b x y
        ≡ (count_below n p * x + cond b 1 0 * x) + (count_below n (λ k. not (p k)) * y + cond (not b) 1 0 * y)
    one true = omega (arith, one-mul x, zero-mul y)
    one false = omega (arith, zero-mul x, one-mul y)

-- counts

pub count_not : (n : ℕ) (p : ℕ → Bool) → count_below n p + count_below n (λ k. not (p k)) ≡ n
unfolding count_below
count_not zero p = refl
count_not (suc n) p = one (p n) (count_not n p)
  where
    one : (b : Bool) → count_below n p + count_below n (λ k. not (p k)) ≡ n → (count_below n p + cond b 1 0) + (count_below n (λ k. not (p k)) + cond (not b) 1 0) ≡ suc n
    one true h = omega arith
    one false h = omega arith

pub count_or : (n : ℕ) (p q : ℕ → Bool) → count_below n (λ k. p k || q k) ≤ count_below n p + count_below n q
unfolding count_below
count_or zero p q = omega arith
count_or (suc n) p q = omega (arith, count_or n p q, one (p n) (q n))
  where
    one : (a b : Bool) → cond (a || b) 1 0 ≤ cond a 1 0 + cond b 1 0
    one true b = omega arith
    one false b = omega arith

-- where at most one of them holds
pub count_or_apart : (n : ℕ) (p q : ℕ → Bool) → ((k : ℕ) → q k ≡ true → p k ≡ false) → count_below n (λ k. p k || q k) ≡ count_below n p + count_below n q
unfolding count_below
count_or_apart zero p q h = refl
count_or_apart (suc n) p q h = omega (arith, count_or_apart n p q h, one (p n) (q n) (h n))
  where
    one : (a b : Bool) → (b ≡ true → a ≡ false) → cond (a || b) 1 0 ≡ cond a 1 0 + cond b 1 0
    one true true e = absurd (not_both refl (e refl))
    one true false e = refl
    one false b e = omega arith

-- with q and without
pub count_parts : (n : ℕ) (p q : ℕ → Bool) → count_below n p ≡ count_below n (λ k. p k && q k) + count_below n (λ k. p k && not (q k))
unfolding count_below
count_parts zero p q = refl
count_parts (suc n) p q = omega (arith, count_parts n p q, one (p n) (q n))
  where
    one : (a b : Bool) → ◌≡◌ {A = ℕ} (cond a 1 0) (cond (a && b) 1 0 + cond (a && not b) 1 0)
    one true true = refl
    one true false = refl
    one false b = refl

pub count_some : (n : ℕ) (p : ℕ → Bool) (k : ℕ) → k < n → p k ≡ true → 1 ≤ count_below n p
unfolding count_below
count_some zero p k l h = absurd (omega arith)
count_some (suc n) p k l h =
    elim (dec_lt k n) [
      | yes m ↦ omega (arith, count_some n p k m h)
      | no m ↦ (let e : k ≡ n = omega arith in let t : p n ≡ true = rw e at h in rw t (omega arith))
    ]

pub count_any : (m n : ℕ) (p : ℕ → ℕ → Bool) → count_below m (λ i. any_below n (p i)) ≤ sum_below m (λ i. count_below n (p i))
count_any m n p =
    rw (count_sum m (λ i. any_below n (p i)))
    (sum_le m (λ i. cond (any_below n (p i)) 1 0) (λ i. count_below n (p i)) (λ i _. one i (any_below n (p i)) refl))
  where
    one : (i : ℕ) (b : Bool) → any_below n (p i) ≡ b → cond b 1 0 ≤ count_below n (p i)
    one i true e = let r = any_from (p i) n e in count_some n (p i) r.0 r.1 r.2
    one i false e = omega arith

pub count_swap : (m n : ℕ) (p : ℕ → ℕ → Bool) → sum_below m (λ i. count_below n (p i)) ≡ sum_below n (λ j. count_below m (λ i. p i j))
count_swap m n p =
    sum_ext m (λ i. count_below n (p i)) (λ i. sum_below n (λ j. cond (p i j) 1 0)) (λ i _. count_sum n (p i))
    ∙ (sum_swap m n (λ i j. cond (p i j) 1 0)
    ∙ sym (sum_ext n (λ j. count_below m (λ i. p i j)) (λ j. sum_below m (λ i. cond (p i j) 1 0)) (λ j _. count_sum m (λ i. p i j))))

-- at most one number, and none unless t
pub count_once : (n : ℕ) (p : ℕ → Bool) (t : Bool) → ((k : ℕ) → k < n → p k ≡ true → t ≡ true) →
    ((j k : ℕ) → j < k → k < n → p j ≡ true → p k ≡ true → ⊥) → count_below n p ≤ cond t 1 0
unfolding count_below
count_once zero p t f u = omega arith
count_once (suc n) p t f u =
    ⊎_elim
    (λ e.
    let z : count_below n p ≡ 0 = count_never n p (λ k l. false_of (p k) (λ h. u k n l (omega arith) h e)) in
    let s : t ≡ true = f n (omega arith) e in
    rw (z, e, s) (omega arith))
    (λ e. rw e (omega (arith, count_once n p t (λ k l. f k (omega arith)) (λ j k l m. u j k l (omega arith)))))
    (true_or_false (p n))

-- tests that imply r, no two of them true of one number
pub count_disjoint : (m n : ℕ) (p : ℕ → ℕ → Bool) (r : ℕ → Bool) → ((i j : ℕ) → i < m → j < n → p i j ≡ true → r j ≡ true) →
    ((i k j : ℕ) → i < k → k < m → j < n → p i j ≡ true → p k j ≡ true → ⊥) → sum_below m (λ i. count_below n (p i)) ≤ count_below n r
count_disjoint m n p r f u =
    rw (count_swap m n p, count_sum n r)
    (sum_le n (λ j. count_below m (λ i. p i j)) (λ j. cond (r j) 1 0)
    (λ j l. count_once m (λ i. p i j) (r j) (λ i h. f i j h l) (λ i k h g. u i k j h g l)))

-- numbers taken to numbers below m of which r holds, no two to one
pub count_into : (n m : ℕ) (p r : ℕ → Bool) (f : ℕ → ℕ) → ((k : ℕ) → k < n → p k ≡ true → (f k < m) × (r (f k) ≡ true)) →
    ((j k : ℕ) → j < k → k < n → p j ≡ true → p k ≡ true → f j ≡ f k → ⊥) → count_below n p ≤ count_below m r
count_into n m p r f b u =
    omega (
      arith,
      rw (← count_sum n p) at (sum_le n (λ k. cond (p k) 1 0) (λ k. count_below m (to k)) (λ k l. one k l (p k) refl)),
      count_disjoint n m to r
          (λ k j l h e.
          let x = and-true (p k) (eqb (f k) j) e in
          subst (λ (i : ℕ). r i ≡ true) (eqb-true (f k) j x.1) (b k l x.0).1)
          (λ i k j l h v d e.
          let x = and-true (p i) (eqb (f i) j) d in
          let y = and-true (p k) (eqb (f k) j) e in
          u i k l h x.0 y.0 (eqb-true (f i) j x.1 ∙ sym (eqb-true (f k) j y.1))),
    )
  where
    to : ℕ → ℕ → Bool
    to k j = p k && eqb (f k) j

    one : (k : ℕ) → k < n → (c : Bool) → p k ≡ c → cond c 1 0 ≤ count_below m (to k)
    one k l true e = count_some m (to k) (f k) (b k l e).0 (and_intro (p k) (eqb (f k) (f k)) e (eq-eqb (f k) (f k) refl))
    one k l false e = omega arith

-- so there are at most m
pub count_apart : (n m : ℕ) (p : ℕ → Bool) (f : ℕ → ℕ) → ((k : ℕ) → k < n → p k ≡ true → f k < m) →
    ((j k : ℕ) → j < k → k < n → p j ≡ true → p k ≡ true → f j ≡ f k → ⊥) → count_below n p ≤ m
count_apart n m p f b u = omega (arith, count_le (λ _. true) m, count_into n m p (λ _. true) f (λ k l e. (b k l e, refl)) u)
