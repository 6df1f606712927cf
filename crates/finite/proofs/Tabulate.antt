-- Laws of tabulate, and of membership and distinctness in lists built at their end.
use Prim.Native.Nat.{ℕ, zero, suc, ◌<◌}
use mathlib.Core.Path.{◌≡◌, refl, sym, ◌∙◌, ap, ap₂}
use mathlib.Core.Bool.{Bool, true, false, not, ◌||◌, and-eq-true_iff}
use mathlib.Core.List.{List, [], ◌∷◌, ◌++◌, map}
use native.Mathlib.Omega.{arith}
use borrow.Author.Tests.{not-true}
use lib.Dec.{eqb}
use lib.ListN.{length, get_or}
use lib.Seq.{ext_get_or}
use Rattle.finite.specs.Below.{any_below}
use Rattle.finite.specs.Lists.{distinct, mem, tabulate}
use Rattle.finite.proofs.Below.{any_at, any_never, below_suc}
use Rattle.finite.proofs.Lists.{get_d_tabulate, length_tabulate}
use Rattle.finite.proofs.Members.{distinct_snoc, mem_append}
use Rattle.finite.proofs.Tests.{eqb_comm, false_of, not_both, or_parts}

pub distinct_before : (l : List ℕ) (x : ℕ) (r : List ℕ) → distinct (l ++ (x ∷ r)) ≡ true → mem x l ≡ false
unfolding distinct mem
distinct_before [] x r h = refl
distinct_before (y ∷ l) x r h =
    let a = (and-eq-true_iff (not (mem y (l ++ (x ∷ r)))) (distinct (l ++ (x ∷ r)))).0 h in
    let n = or_parts (mem y l) (mem y (x ∷ r)) (sym (mem_append y l (x ∷ r)) ∙ not-true _ a.0) in
    let e = or_parts (eqb y x) (mem y r) n.1 in
    rw (eqb_comm x y ∙ e.0) (distinct_before l x r a.1)

distinct_init : (l : List ℕ) (x : ℕ) → distinct (l ++ (x ∷ [])) ≡ true → distinct l ≡ true
unfolding distinct mem
distinct_init [] x h = refl
distinct_init (y ∷ l) x h =
    let a = (and-eq-true_iff (not (mem y (l ++ (x ∷ [])))) (distinct (l ++ (x ∷ [])))).0 h in
    let n = or_parts (mem y l) (mem y (x ∷ [])) (sym (mem_append y l (x ∷ [])) ∙ not-true _ a.0) in
    rw n.0 (distinct_init l x a.1)

pub mem_tabulate : (x n : ℕ) (f : ℕ → ℕ) → mem x (tabulate n f) ≡ any_below n (λ i. eqb x (f i))
unfolding tabulate any_below mem
mem_tabulate x zero f = refl
mem_tabulate x (suc n) f = mem_append x (tabulate n f) (f n ∷ []) ∙ rw (mem_tabulate x n f) (last (any_below n (λ i. eqb x (f i))) (eqb x (f n)))
  where
    last : (a b : Bool) → (a || (b || false)) ≡ (a || b)
    last true b = refl
    last false true = refl
    last false false = refl

-- the values differ
pub distinct_tabulate : (n : ℕ) (f : ℕ → ℕ) → ((i j : ℕ) → i < j → j < n → eqb (f i) (f j) ≡ false) → distinct (tabulate n f) ≡ true
unfolding tabulate distinct
distinct_tabulate zero f h = refl
distinct_tabulate (suc n) f h =
    distinct_snoc (tabulate n f) (f n) (distinct_tabulate n f (λ i j k m. h i j k (omega arith)))
    (mem_tabulate (f n) n f ∙ any_never (λ i. eqb (f n) (f i)) n (λ i l. eqb_comm (f n) (f i) ∙ h i n l (omega arith)))

pub distinct_tabulate_at : (n : ℕ) (f : ℕ → ℕ) (i j : ℕ) → distinct (tabulate n f) ≡ true → i < j → j < n → eqb (f i) (f j) ≡ false
unfolding tabulate
distinct_tabulate_at zero f i j h k m = absurd (omega arith)
distinct_tabulate_at (suc n) f i j h k m =
    below_suc (λ j. i < j → eqb (f i) (f j) ≡ false) n
    (λ j m k. distinct_tabulate_at n f i j (distinct_init (tabulate n f) (f n) h) k m)
    (λ k. false_of _ (λ e. not_both (any_at (λ i. eqb (f n) (f i)) n i k (eqb_comm (f n) (f i) ∙ e)) (sym (mem_tabulate (f n) n f) ∙ distinct_before (tabulate n f) (f n) [] h)))
    j m k

module _ {X : Type 0} where
  pub tabulate_ext : (n : ℕ) (f g : ℕ → X) → ((i : ℕ) → i < n → f i ≡ g i) → tabulate n f ≡ tabulate n g
  unfolding tabulate
  tabulate_ext zero f g h = refl
  tabulate_ext (suc n) f g h = ap₂ (λ l x. l ++ (x ∷ [])) (tabulate_ext n f g (λ i k. h i (omega arith))) (h n (omega arith))

  -- a list by its elements
  pub tabulate_list : (l : List X) (d : X) → tabulate (length l) (λ i. get_or l i d) ≡ l
  tabulate_list l d = ext_get_or d _ l (length_tabulate _ (length l)) (λ i k. get_d_tabulate _ (length l) i d (omega (arith, length_tabulate (λ i. get_or l i d) (length l))))

pub map_append : {X Y : Type 0} (f : X → Y) (l k : List X) → map f (l ++ k) ≡ map f l ++ map f k
map_append f [] k = refl
map_append f (x ∷ l) k = ap (λ r. f x ∷ r) (map_append f l k)

pub map_tabulate : {X Y : Type 0} (g : X → Y) (n : ℕ) (f : ℕ → X) → map g (tabulate n f) ≡ tabulate n (λ i. g (f i))
unfolding tabulate
map_tabulate g zero f = refl
map_tabulate g (suc n) f = map_append g (tabulate n f) (f n ∷ []) ∙ ap (λ l. l ++ (g (f n) ∷ [])) (map_tabulate g n f)
