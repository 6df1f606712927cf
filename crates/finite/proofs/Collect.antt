-- Laws of collect, and of lists mapped.
use Prim.Native.Nat.{ℕ, zero, suc, ◌+◌, ◌*◌, ◌≤◌, ◌<◌}
use mathlib.Core.Path.{◌≡◌, refl, sym, ◌∙◌, ap, ap₂, subst}
use mathlib.Core.Bool.{Bool, true, false, cond}
use mathlib.Core.List.{List, [], ◌∷◌, ◌++◌, map, flat_map, append_assoc, append-nil}
use native.Mathlib.Decide.{dec_lt, ℕ_discrete}
use native.Mathlib.Numerals.{add-one}
use native.Mathlib.Omega.{arith}
use borrow.Author.Tests.{eq-eqb, ne_eqb}
use lib.Dec.{eqb}
use lib.ListN.{length, get_or, length-append}
use Rattle.finite.specs.Below.{sum_below}
use Rattle.finite.specs.Lists.{range, gather, collect}
use Rattle.finite.proofs.Below.{sum_le, sum_const}
use Rattle.finite.proofs.Lists.{flat_map_append, flat_map_range, length_flat_map_range}
use Rattle.finite.proofs.Tabulate.{map_append}

module _ {X : Type 0} where
  pub collect_next : (f : ℕ → List X) (i : ℕ) → collect (i + 1) f ≡ collect i f ++ f i
  unfolding collect
  collect_next f i = rw add-one

  pub collect_range : (n : ℕ) (f : ℕ → List X) → collect n f ≡ flat_map f (range 0 n)
  unfolding collect range flat_map
  collect_range zero f = refl
  collect_range (suc n) f = ap (λ l. l ++ f n) (collect_range n f) ∙ sym (flat_map_range f n)

  pub gather_collect : (n : ℕ) (p : ℕ → Bool) (f : ℕ → X) → gather n p f ≡ collect n (λ k. cond (p k) (f k ∷ []) [])
  unfolding gather collect
  gather_collect zero p f = refl
  gather_collect (suc n) p f = ap (λ (l : List X). l ++ cond (p n) (f n ∷ []) []) (gather_collect n p f)

  pub collect_first : (n : ℕ) (f : ℕ → List X) → collect (suc n) f ≡ f 0 ++ collect n (λ k. f (suc k))
  unfolding collect
  collect_first zero f = sym (append-nil (f 0))
  collect_first (suc n) f = ap (λ (l : List X). l ++ f (suc n)) (collect_first n f) ∙ append_assoc (f 0) (collect n (λ k. f (suc k))) (f (suc n))

  pub collect_most : (n m : ℕ) (f : ℕ → List X) → ((k : ℕ) → k < n → length (f k) ≤ m) → length (collect n f) ≤ n * m
  collect_most n m f h =
      subst (λ (x : ℕ). length (collect n f) ≤ x) (sum_const n m)
      (subst (λ (x : ℕ). x ≤ sum_below n (λ k. m)) (sym (ap length (collect_range n f) ∙ length_flat_map_range f n)) (sum_le n (λ k. length (f k)) (λ k. m) h))

  pub collect_ext : (n : ℕ) (f g : ℕ → List X) → ((k : ℕ) → k < n → f k ≡ g k) → collect n f ≡ collect n g
  unfolding collect
  collect_ext zero f g h = refl
  collect_ext (suc n) f g h = ap₂ ◌++◌ (collect_ext n f g (λ k l. h k (omega arith))) (h n (omega arith))

  -- what lies beyond n adds nothing
  pub collect_beyond : (m n : ℕ) (f : ℕ → List X) → n ≤ m → ((k : ℕ) → n ≤ k → k < m → f k ≡ []) → collect m f ≡ collect n f
  unfolding collect
  collect_beyond zero n f l h = let e : n ≡ 0 = omega arith in rw e
  collect_beyond (suc m) n f l h =
      elim (ℕ_discrete n (suc m)) [
        | yes e ↦ rw e
        | no e ↦ ap₂ ◌++◌ (collect_beyond m n f (omega arith) (λ k u v. h k u (omega arith))) (h m (omega arith) (omega arith)) ∙ append-nil (collect n f)
      ]

  pub collect_never : (n : ℕ) (f : ℕ → List X) → ((k : ℕ) → k < n → f k ≡ []) → collect n f ≡ []
  unfolding collect
  collect_never n f h = collect_beyond n 0 f (omega arith) (λ k u v. h k v)

  -- the first list that is not empty, and the others
  pub collect_front : (n q : ℕ) (f : ℕ → List X) → q < n → ((k : ℕ) → k < q → f k ≡ []) → collect n f ≡ f q ++ collect n (λ k. cond (eqb k q) [] (f k))
  unfolding collect
  collect_front zero q f l h = absurd (omega arith)
  collect_front (suc n) q f l h =
      elim (ℕ_discrete n q) [
        | yes e ↦
            (let none : collect n (λ k. cond (eqb k q) [] (f k)) ≡ [] =
            collect_never n (λ k. cond (eqb k q) [] (f k)) (λ k m. rw (ne_eqb k q (λ z. omega arith)) (h k (omega arith))) in
            rw (none, eq-eqb n q e, collect_never n f (λ k m. h k (omega arith)), append-nil, e))
        | no e ↦
            rw (ne_eqb n q e)
            (ap (λ (l : List X). l ++ f n) (collect_front n q f (omega arith) h) ∙ append_assoc (f q) (collect n (λ k. cond (eqb k q) [] (f k))) (f n))
      ]

  -- one list of k has room among them behind those before it
  pub collect_room : (k i : ℕ) (f : ℕ → List X) → i < k → length (collect i f) + length (f i) ≤ length (collect k f)
  unfolding collect
  collect_room zero i f h = absurd (omega arith)
  collect_room (suc k) i f h =
      elim (dec_lt i k) [
        | yes u ↦ omega (arith, collect_room k i f u, length-append (collect k f) (f k))
        | no u ↦ (let e : i ≡ k = omega arith in omega (arith, length-append (collect k f) (f k), ap (λ (j : ℕ). length (collect j f)) e, ap (λ (j : ℕ). length (f j)) e))
      ]

module _ {X Y : Type 0} where
  pub map_collect : (g : X → Y) (n : ℕ) (f : ℕ → List X) → map g (collect n f) ≡ collect n (λ k. map g (f k))
  unfolding collect
  map_collect g zero f = refl
  map_collect g (suc n) f = map_append g (collect n f) (f n) ∙ ap (λ l. l ++ map g (f n)) (map_collect g n f)

  pub flat_map_collect : (g : X → List Y) (n : ℕ) (f : ℕ → List X) → flat_map g (collect n f) ≡ collect n (λ k. flat_map g (f k))
  unfolding collect flat_map
  flat_map_collect g zero f = refl
  flat_map_collect g (suc n) f = flat_map_append g (collect n f) (f n) ∙ ap (λ l. l ++ flat_map g (f n)) (flat_map_collect g n f)

  pub flat_map_gather : (g : X → List Y) (n : ℕ) (p : ℕ → Bool) (f : ℕ → X) → flat_map g (gather n p f) ≡ collect n (λ k. cond (p k) (g (f k)) [])
  unfolding collect gather flat_map
  flat_map_gather g zero p f = refl
  flat_map_gather g (suc n) p f = flat_map_append g (gather n p f) (cond (p n) (f n ∷ []) []) ∙ ap₂ ◌++◌ (flat_map_gather g n p f) (one (p n))
    where
      one : (b : Bool) → flat_map g (cond b (f n ∷ []) []) ≡ cond b (g (f n)) []
      one true = append-nil (g (f n))
      one false = refl

pub map_flat_map : {X Y Z : Type 0} (g : Y → Z) (f : X → List Y) (l : List X) → map g (flat_map f l) ≡ flat_map (λ x. map g (f x)) l
unfolding flat_map
map_flat_map g f [] = refl
map_flat_map g f (x ∷ l) = map_append g (f x) (flat_map f l) ∙ ap (λ r. map g (f x) ++ r) (map_flat_map g f l)

-- element i, whatever stands for those beyond the end
pub get_d_map : {X Y : Type 0} (f : X → Y) (l : List X) (i : ℕ) (d : X) (e : Y) → i < length l → get_or (map f l) i e ≡ f (get_or l i d)
get_d_map f [] i d e h = absurd (omega arith)
get_d_map f (x ∷ l) zero d e h = refl
get_d_map f (x ∷ l) (suc i) d e h = get_d_map f l i d e (omega arith)

pub map_gather : {X Y : Type 0} (g : X → Y) (n : ℕ) (p : ℕ → Bool) (f : ℕ → X) → map g (gather n p f) ≡ gather n p (λ k. g (f k))
unfolding gather
map_gather g zero p f = refl
map_gather {X} {Y} g (suc n) p f = map_append g (gather n p f) (cond (p n) (f n ∷ []) []) ∙ ap₂ ◌++◌ (map_gather g n p f) (one (p n))
  where
    one : (b : Bool) → map g (cond b (f n ∷ []) []) ≡ cond b (g (f n) ∷ []) []
    one true = refl
    one false = refl

pub flat_map_at : {X Y : Type 0} (f : X → List Y) (l : List X) (d : X) → flat_map f l ≡ collect (length l) (λ k. f (get_or l k d))
unfolding flat_map collect
flat_map_at f [] d = refl
flat_map_at f (x ∷ l) d = ap (λ r. f x ++ r) (flat_map_at f l d) ∙ sym (collect_first (length l) (λ k. f (get_or (x ∷ l) k d)))
