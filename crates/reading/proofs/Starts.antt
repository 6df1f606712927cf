-- The starting values that words say.
use Prim.Native.Nat.{ℕ, zero, suc, ◌+◌, ◌≤◌, ◌<◌}
use mathlib.Core.Path.{◌≡◌, refl, sym, ap, ◌∙◌}
use mathlib.Core.Bool.{Bool, true, false, cond, not}
use mathlib.Core.Logic.{◌↔◌, ⊎_elim}
use mathlib.Core.List.Memᴰ.{head as here}
use mathlib.Core.List.Memᴰ.{not-nil as in-nil}
use mathlib.Core.List.Memᴰ.{tail as there}
use mathlib.Core.List.{List, [], ◌∷◌, Memᴰ as In}
use mathlib.Core.List.Memᴰ.{cases_cons as in-cases}
use mathlib.Core.List.Memᴰ.{map as in_map}
use native.Mathlib.Omega.{arith}
use native.Mathlib.Decide.{ℕ_discrete}
use borrow.Author.Tests.{ltb-true, eqb-true, eqb-false, lt-ltb, eq-eqb, ne_eqb, not-true}
use lib.Dec.{eqb, ltb}
use lib.ListN.{get_or}
use Rattle.finite.specs.Lists.{distinct, mem}
use Rattle.finite.proofs.Members.{in_mem}
use Rattle.finite.proofs.Sorted.{Sorted, sorted_unique}
use Rattle.finite.proofs.Tests.{and-true, not_both}
use Rattle.reading.specs.Plan.{Start, start_at, started, starts_of}
use Rattle.reading.specs.Valid.{every, in_word, start_fits}
use Rattle.reading.specs.Written.{Rising}

-- no `start` names a region from n on
pub start_none : (n x : ℕ) (l : List Start) → every (start_fits n) l ≡ true → n ≤ x → start_at l x ≡ 0
start_none n x [] h k = refl
start_none n x (s ∷ l) h k =
    let a = and-true (start_fits n s) (every (start_fits n) l) h in
    let b : s.region < n = ltb-true _ _ (and-true (ltb s.region n) _ a.0).0 in
    rw (ne_eqb s.region x (λ e. omega arith)) (start_none n x l a.1 k)

pub start_fits_lem : (n x : ℕ) (l : List Start) → every (start_fits n) l ≡ true → in_word (start_at l x) ≡ true
start_fits_lem n x [] h = refl
start_fits_lem n x (s ∷ l) h =
    let a = and-true (start_fits n s) (every (start_fits n) l) h in
    go (eqb s.region x) (and-true (ltb s.region n) (in_word s.value) a.0).1 (start_fits_lem n x l a.1)
  where
    go : (t : Bool) → in_word s.value ≡ true → in_word (start_at l x) ≡ true → in_word (cond t s.value (start_at l x)) ≡ true
    go true p q = p
    go false p q = q

-- a `start` of a value stands in the list exactly if its region starts at that value
pub start_in_lem : (s : Start) (l : List Start) → (s.value ≡ 0 → ⊥) → start_at l s.region ≡ s.value → In s l
start_in_lem s [] n e = absurd (n (sym e))
start_in_lem s (t ∷ l) n e = go (eqb t.region s.region) refl (start_in_lem s l n) e
  where
    same : t.region ≡ s.region → t.value ≡ s.value → s ≡ t
    same p q = λ i. record { region = sym p i; value = sym q i }

    go : (b : Bool) → eqb t.region s.region ≡ b → (start_at l s.region ≡ s.value → In s l) → cond b t.value (start_at l s.region) ≡ s.value → In s (t ∷ l)
    go true p ih e = here (same (eqb-true _ _ p) e)
    go false p ih e = there (ih e)

pub in_start : (s : Start) (l : List Start) → distinct (started l) ≡ true → In s l → start_at l s.region ≡ s.value
unfolding distinct
in_start s [] d m = absurd (in-nil m)
in_start s (t ∷ l) d m =
    let a = and-true (not (mem t.region (started l))) (distinct (started l)) d in
    ⊎_elim first (λ k. later (not-true _ a.0) k (in_start s l a.1 k)) (in-cases m)
  where
    first : s ≡ t → start_at (t ∷ l) s.region ≡ s.value
    first e = rw (e, eq-eqb t.region t.region refl)

    later : mem t.region (started l) ≡ false → In s l → start_at l s.region ≡ s.value → start_at (t ∷ l) s.region ≡ s.value
    later n k ih = rw (ne_eqb t.region s.region (λ e. not_both (in_mem s.region (started l) (in_map (λ x. x.region) k)) (rw e at n))) ih

-- rising `start` records
rising_lower : (g : ℕ) (l : List Start) → Rising (suc g) l → Rising g l
rising_lower g [] r = tt
rising_lower g (s ∷ l) r = (omega (arith, r.0), r.1, r.2)

rising_in : (g : ℕ) (l : List Start) → Rising g l → (s : Start) → In s l → (g ≤ s.region) × (s.value ≡ 0 → ⊥)
rising_in g [] r s m = absurd (in-nil m)
rising_in g (t ∷ l) r s m =
    ⊎_elim
    (λ e. rw e (r.0, r.1))
    (λ k. later (rising_in (suc t.region) l r.2 s k))
    (in-cases m)
  where
    later : (suc t.region ≤ s.region) × (s.value ≡ 0 → ⊥) → (g ≤ s.region) × (s.value ≡ 0 → ⊥)
    later a = (omega (arith, r.0, a.0), a.1)

rising_sorted : (g : ℕ) (l : List Start) → Rising g l → Sorted (λ (s t : Start). s.region < t.region) l
rising_sorted g [] r = tt
rising_sorted g (s ∷ l) r = (λ t m. (rising_in (suc s.region) l r.2 t m).0, rising_sorted (suc s.region) l r.2)

pub rising_unique : (l k : List Start) → Rising 0 l → Rising 0 k → ((s : Start) → (s.value ≡ 0 → ⊥) → In s l ↔ In s k) → l ≡ k
rising_unique l k r q f =
    sorted_unique (λ (s t : Start). s.region < t.region) (λ s t a b. omega arith) l k (rising_sorted 0 l r) (rising_sorted 0 k q)
    (λ s m. (f s (rising_in 0 l r s m).1).0 m)
    (λ s m. (f s (rising_in 0 k q s m).1).1 m)

module _ (w : List ℕ) where
  abbrev value : ℕ → ℕ
  value g = get_or w (4 + g) 0

  pub starts_out : (g n x : ℕ) → ((y : ℕ) → g ≤ y → y < g + n → y ≡ x → ⊥) → start_at (starts_of w g n) x ≡ 0
  starts_out g zero x h = refl
  starts_out g (suc n) x h = go (eqb (value g) 0) (starts_out (suc g) n x (λ y a b. h y (omega arith) (omega arith)))
    where
      go : (t : Bool) → start_at (starts_of w (suc g) n) x ≡ 0 →
          start_at (cond t (starts_of w (suc g) n) (record { region = g; value = value g } ∷ starts_of w (suc g) n)) x ≡ 0
      go true ih = ih
      go false ih = rw (ne_eqb g x (h g (omega arith) (omega arith))) ih

  mem_out : (g n x : ℕ) → x < g → mem x (started (starts_of w g n)) ≡ false
  unfolding mem
  mem_out g zero x h = refl
  mem_out g (suc n) x h = go (eqb (value g) 0) (mem_out (suc g) n x (omega arith))
    where
      go : (t : Bool) → mem x (started (starts_of w (suc g) n)) ≡ false →
          mem x (started (cond t (starts_of w (suc g) n) (record { region = g; value = value g } ∷ starts_of w (suc g) n))) ≡ false
      go true ih = ih
      go false ih = rw (ne_eqb x g (λ e. omega arith)) ih

  pub starts_once : (g n : ℕ) → distinct (started (starts_of w g n)) ≡ true
  unfolding distinct
  starts_once g zero = refl
  starts_once g (suc n) = go (eqb (value g) 0) (starts_once (suc g) n)
    where
      go : (t : Bool) → distinct (started (starts_of w (suc g) n)) ≡ true →
          distinct (started (cond t (starts_of w (suc g) n) (record { region = g; value = value g } ∷ starts_of w (suc g) n))) ≡ true
      go true ih = ih
      go false ih = rw (mem_out (suc g) n g (omega arith)) ih

  pub starts_every : (m g n : ℕ) → g + n ≤ m → ((x : ℕ) → x < m → in_word (value x) ≡ true) → every (start_fits m) (starts_of w g n) ≡ true
  starts_every m g zero h f = refl
  starts_every m g (suc n) h f = go (eqb (value g) 0) (starts_every m (suc g) n (omega arith) f)
    where
      go : (t : Bool) → every (start_fits m) (starts_of w (suc g) n) ≡ true →
          every (start_fits m) (cond t (starts_of w (suc g) n) (record { region = g; value = value g } ∷ starts_of w (suc g) n)) ≡ true
      go true ih = ih
      go false ih = rw (lt-ltb g m (omega arith), f g (omega arith)) ih

  pub starts_rising : (g n : ℕ) → Rising g (starts_of w g n)
  starts_rising g zero = tt
  starts_rising g (suc n) = go (eqb (value g) 0) refl (starts_rising (suc g) n)
    where
      go : (t : Bool) → eqb (value g) 0 ≡ t → Rising (suc g) (starts_of w (suc g) n) →
          Rising g (cond t (starts_of w (suc g) n) (record { region = g; value = value g } ∷ starts_of w (suc g) n))
      go true e r = rising_lower g (starts_of w (suc g) n) r
      go false e r = (omega arith, eqb-false (value g) 0 e, r)

  pub starts_in : (g n x : ℕ) → g ≤ x → x < g + n → start_at (starts_of w g n) x ≡ value x
  starts_in g zero x h k = absurd (omega arith)
  starts_in g (suc n) x h k =
      elim (ℕ_discrete g x) [
        | yes e ↦ here e (eqb (value g) 0) refl
        | no e ↦ there e (eqb (value g) 0) (starts_in (suc g) n x (next e) (omega arith))
      ]
    where
      next : (g ≡ x → ⊥) → suc g ≤ x
      next e = omega arith

      here : g ≡ x → (t : Bool) → eqb (value g) 0 ≡ t →
          start_at (cond t (starts_of w (suc g) n) (record { region = g; value = value g } ∷ starts_of w (suc g) n)) x ≡ value x
      here e true p = starts_out (suc g) n x (λ y a b c. omega arith) ∙ sym (ap value (sym e) ∙ eqb-true _ _ p)
      here e false p = rw (eq-eqb g x e) (ap value e)

      there : (g ≡ x → ⊥) → (t : Bool) → start_at (starts_of w (suc g) n) x ≡ value x →
          start_at (cond t (starts_of w (suc g) n) (record { region = g; value = value g } ∷ starts_of w (suc g) n)) x ≡ value x
      there e true ih = ih
      there e false ih = rw (ne_eqb g x e) ih
