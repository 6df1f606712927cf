-- Numbers lowered one after another, and the items that become ready by it.
use Prim.Native.Nat.{ℕ, zero, suc, ◌+◌, ◌-◌, ◌≤◌, ◌<◌}
use mathlib.Core.Path.{◌≡◌, refl, sym, ◌∙◌, ap, ap₂, subst}
use mathlib.Core.Bool.{Bool, true, false, cond}
use mathlib.Core.List.{List, [], ◌∷◌, ◌++◌, append-nil}
use native.Mathlib.Decide.{ℕ_discrete}
use native.Mathlib.Numerals.{add-one}
use native.Mathlib.Omega.{arith}
use borrow.Author.Tests.{eqb-true, ne_eqb}
use lib.Dec.{eqb}
use lib.ListN.{length, get_or, set}
use lib.Seq.{set-get_or, get_or-set_same, get_or-set_other}
use Rattle.finite.specs.Lists.{mem}
use Rattle.finite.proofs.Members.{mem_append}
use Rattle.plan.specs.Sizes.{max_items, count_words, first_unmet}
use Rattle.masks.specs.Masks.{in_mask, Entered}
use Rattle.steps.specs.State.{unmet_by}
use Rattle.prepared.specs.Tables.{first_target, start_in, target_count, target_in}
use Rattle.prepared.specs.Steps.{lowered_by, freed_by}
use Rattle.prepared.proofs.Lowering.{lowered_more, lowered_length}
use Rattle.engine.specs.Usable.{Targets, Apart}

-- one number

pub number_stays : (counts : List ℕ) (b : ℕ) → unmet_by counts b ≡ 0 → counts ≡ set counts (first_unmet + b) (unmet_by counts b - 1)
number_stays counts b z =
    let e : unmet_by counts b ≡ unmet_by counts b - 1 = omega arith in
    sym (set-get_or counts (first_unmet + b) 0) ∙ ap (λ (v : ℕ). set counts (first_unmet + b) v) e

-- target k of item a, read at its index
pub target_read : (tables : List ℕ) (a : ℕ) → Targets tables a → (k from x : ℕ) → k < target_count tables a → from ≡ start_in tables a → x ≡ get_or tables (first_target + (from + k)) 0 →
    (x ≡ target_in tables a k) × (x < max_items)
target_read tables a T k from x l e h =
    let q : x ≡ target_in tables a k = h ∙ ap (λ (j : ℕ). get_or tables (first_target + (j + k)) 0) e in
    (q, omega (arith, q, T.below k l))

-- one item more, b, from the counts after k: it is freed or not
module _ (f : ℕ → ℕ) (counts : List ℕ) (k : ℕ) (counts' : List ℕ) (L : counts' ≡ lowered_by f k counts) (b : ℕ) (e : b ≡ f k) where
  freed_next : freed_by f k counts ++ cond (eqb (unmet_by counts' b) 1) (b ∷ []) [] ≡ freed_by f (k + 1) counts
  unfolding freed_by
  freed_next = rw (e, L, add-one k)

-- an item with number 0 keeps it, and is not freed
lowered_zero : (f : ℕ → ℕ) (counts : List ℕ) (k b : ℕ) → unmet_by counts b ≡ 0 → unmet_by (lowered_by f k counts) b ≡ 0
unfolding lowered_by
lowered_zero f counts zero b z = z
lowered_zero f counts (suc k) b z =
    elim (ℕ_discrete b (f k)) [
      | yes e ↦ same (lowered_by f k counts) (first_unmet + b) (first_unmet + f k) (ap (λ (x : ℕ). first_unmet + x) e) (lowered_zero f counts k b z)
      | no e ↦
          get_or-set_other (lowered_by f k counts) (first_unmet + f k) (first_unmet + b) (unmet_by (lowered_by f k counts) (f k) - 1) 0 (λ i. e (omega arith))
          ∙ lowered_zero f counts k b z
    ]
  where
    same : (xs : List ℕ) (i j : ℕ) → i ≡ j → get_or xs i 0 ≡ 0 → get_or (set xs j (get_or xs j 0 - 1)) i 0 ≡ 0
    same xs i j e z = let y : get_or xs j 0 ≡ 0 = ap (λ (x : ℕ). get_or xs x 0) (sym e) ∙ z in kept xs j i (get_or xs j 0 - 1) (omega arith) z
      where
        kept : (xs : List ℕ) (j i v : ℕ) → v ≡ 0 → get_or xs i 0 ≡ 0 → get_or (set xs j v) i 0 ≡ 0
        kept [] j i v e z = z
        kept (x ∷ xs) zero zero v e z = e
        kept (x ∷ xs) zero (suc i) v e z = z
        kept (x ∷ xs) (suc j) zero v e z = z
        kept (x ∷ xs) (suc j) (suc i) v e z = kept xs j i v e z

pub freed_not : (f : ℕ → ℕ) (counts : List ℕ) (k b : ℕ) → unmet_by counts b ≡ 0 → mem b (freed_by f k counts) ≡ false
unfolding freed_by mem
freed_not f counts zero b z = refl
freed_not f counts (suc k) b z =
    mem_append b (freed_by f k counts) (cond (eqb (unmet_by (lowered_by f k counts) (f k)) 1) (f k ∷ []) [])
    ∙ rw (freed_not f counts k b z) (side (eqb (unmet_by (lowered_by f k counts) (f k)) 1) refl)
  where
    side : (t : Bool) → eqb (unmet_by (lowered_by f k counts) (f k)) 1 ≡ t → mem b (cond t (f k ∷ []) []) ≡ false
    side true q = rw (ne_eqb b (f k) (λ e. omega (arith, lowered_zero f counts k b z, eqb-true (unmet_by (lowered_by f k counts) (f k)) 1 q, ap (unmet_by (lowered_by f k counts)) e)))
    side false q = refl

-- an item that still has a number is not freed
pub freed_none : (f : ℕ → ℕ) (counts : List ℕ) → count_words ≤ length counts → (k c : ℕ) → c < max_items → (unmet_by (lowered_by f k counts) c ≡ 0 → ⊥) →
    mem c (freed_by f k counts) ≡ false
unfolding freed_by lowered_by mem
freed_none f counts room zero c l h = refl
freed_none f counts room (suc k) c l h =
    mem_append c (freed_by f k counts) (cond (eqb (unmet_by (lowered_by f k counts) (f k)) 1) (f k ∷ []) [])
    ∙ elim (ℕ_discrete c (f k)) [
      | yes e ↦
          let own : unmet_by (lowered_by f (suc k) counts) c ≡ unmet_by (lowered_by f k counts) (f k) - 1 =
          ap (unmet_by (lowered_by f (suc k) counts)) e
          ∙ get_or-set_same (lowered_by f k counts) (first_unmet + f k) (unmet_by (lowered_by f k counts) (f k) - 1) 0 (omega (arith, lowered_length f k counts)) in
          rw (
            freed_none f counts room k c l (λ z. h (own ∙ omega (arith, ap (unmet_by (lowered_by f k counts)) e))),
            ne_eqb (unmet_by (lowered_by f k counts) (f k)) 1 (λ z. h (own ∙ omega arith)),
          ) refl
      | no e ↦
          rw (freed_none f counts room k c l
          (λ z.
          h (get_or-set_other (lowered_by f k counts) (first_unmet + f k) (first_unmet + c) (unmet_by (lowered_by f k counts) (f k) - 1) 0 (λ i. e (omega arith)) ∙ z)))
          (side (eqb (unmet_by (lowered_by f k counts) (f k)) 1) e)
    ]
  where
    side : (t : Bool) → (c ≡ f k → ⊥) → mem c (cond t (f k ∷ []) []) ≡ false
    side true e = rw (ne_eqb c (f k) e) refl
    side false e = refl

-- an item that is about to be freed does not stand in the set
pub freed_outside : (f : ℕ → ℕ) (counts words words' : List ℕ) → count_words ≤ length counts → Apart counts words → (k c : ℕ) → c < max_items →
    unmet_by (lowered_by f k counts) c ≡ 1 → Entered words (λ b. mem b (freed_by f k counts)) words' → in_mask words' c ≡ false
freed_outside f counts words words' room h k c l e E =
    E.each c l ∙ rw (h c l (λ z. omega (arith, lowered_zero f counts k c z)), freed_none f counts room k c l (λ z. omega arith)) refl

-- the counts, and what is put, after k items
module _ (S : Type 0) (puts : S → List ℕ → S → Type 0) (f : ℕ → ℕ) (counts : List ℕ) (s : S) where
  pub record Lowered (k : ℕ) (counts' : List ℕ) (t : S) : Type 0 where
    pub numbers : counts' ≡ lowered_by f k counts
    pub freed : puts s (freed_by f k counts) t

module _ {S : Type 0} {puts : S → List ℕ → S → Type 0} (f : ℕ → ℕ) (counts : List ℕ) (s : S) where
  pub lowered_none : puts s [] s → Lowered S puts f counts s 0 counts s
  unfolding lowered_by freed_by
  lowered_none p = record { numbers = refl; freed = p }

  module _ (k : ℕ) (counts' : List ℕ) (t : S) (L : Lowered S puts f counts s k counts' t) where
    pub lowered_size : length counts' ≡ length counts
    lowered_size = ap length L.numbers ∙ lowered_length f k counts

    -- an item that becomes ready had a number of 1
    pub lowered_one : (b : ℕ) → b ≡ f k → (r : Bool) → r ≡ eqb (unmet_by counts' b) 1 → r ≡ true → unmet_by (lowered_by f k counts) (f k) ≡ 1
    lowered_one b e r h q = sym (ap₂ unmet_by L.numbers e) ∙ eqb-true (unmet_by counts' b) 1 (sym h ∙ q)

    -- one item more, b
    module _ (b : ℕ) (e : b ≡ f k) (counts'' : List ℕ) (n : counts'' ≡ set counts' (first_unmet + b) (unmet_by counts' b - 1)) (r : Bool) (h : r ≡ eqb (unmet_by counts' b) 1) where
      more_freed : freed_by f k counts ++ cond r (b ∷ []) [] ≡ freed_by f (k + 1) counts
      more_freed = ap (λ (s : Bool). freed_by f k counts ++ cond s (b ∷ []) []) h ∙ freed_next f counts k counts' L.numbers b e

      pub lowered_put : ((s t u : S) (xs ys : List ℕ) → puts s xs t → puts t ys u → puts s (xs ++ ys) u) → r ≡ true → (u : S) → puts t (b ∷ []) u →
          Lowered S puts f counts s (k + 1) counts'' u
      lowered_put more q u p =
          record {
            numbers = n ∙ lowered_more f k b (unmet_by counts' b - 1) counts counts' L.numbers e refl;
            freed =
                subst (λ (xs : List ℕ). puts s xs u) (ap (λ (s : Bool). freed_by f k counts ++ cond s (b ∷ []) []) (sym q) ∙ more_freed)
                (more s t u (freed_by f k counts) (b ∷ []) L.freed p);
          }

      pub lowered_not : r ≡ false → Lowered S puts f counts s (k + 1) counts'' t
      lowered_not q =
          record {
            numbers = n ∙ lowered_more f k b (unmet_by counts' b - 1) counts counts' L.numbers e refl;
            freed =
                subst (λ (xs : List ℕ). puts s xs t)
                (sym (append-nil (freed_by f k counts)) ∙ (ap (λ (s : Bool). freed_by f k counts ++ cond s (b ∷ []) []) (sym q) ∙ more_freed)) L.freed;
          }

  pub lowered_all : (n k : ℕ) (counts' : List ℕ) (t : S) → Lowered S puts f counts s k counts' t → n ≤ k → k ≤ n → Lowered S puts f counts s n counts' t
  lowered_all n k counts' t L u v = let e : n ≡ k = omega arith in rw e L
