-- The numbers in a list, in the shape of code, and the laws of the loop that lowers them (-none,
-- _more, _done: before its first turn, over a turn, and after its last).
use Prim.Native.Nat.{ℕ, suc, ◌+◌, ◌-◌, ◌≤◌, ◌<◌}
use mathlib.Core.Path.{◌≡◌, refl, sym, ◌∙◌, ap}
use mathlib.Core.Bool.{Bool, true, false, cond, ◌&&◌, ◌||◌}
use mathlib.Core.Logic.{◌⊎◌, ⊎_elim}
use mathlib.Core.List.{List}
use native.Mathlib.Decide.{dec_lt, ℕ_discrete}
use native.Mathlib.Omega.{arith}
use borrow.Author.Tests.{eq-eqb, ne_eqb, lt-ltb, le-ltb, le-leb, lt-leb}
use lib.Dec.{eqb, ltb, leb}
use lib.ListN.{length, get_or, set, length-set}
use lib.Seq.{get_or-set_other}
use Rattle.finite.specs.Update.{update}
use Rattle.finite.proofs.Tests.{eqb_from}
use Rattle.finite.proofs.Update.{set_at}
use Rattle.finite.proofs.Replaced.{length_replaced, replaced_at, replaced_not, replaced_nowhere, replaced_where, replaced_set}
use Rattle.unroll.specs.System.{System}
use Rattle.waits.specs.Waits.{fresh_count, meets, lowered, numbers_after}
use Rattle.waits.specs.Stored.{lowered_to, finished_numbers}

-- a test of the places from `first` on
module _ (first : ℕ) where
  -- tests that are equal there
  pub from_ext : (i : ℕ) (p q : ℕ → Bool) → ((a : ℕ) → p a ≡ q a) → (leb first i && p (i - first)) ≡ (leb first i && q (i - first))
  from_ext i p q h = rw (h (i - first))

  pub from_at : (p : ℕ → Bool) (a : ℕ) → (leb first (first + a) && p (first + a - first)) ≡ p a
  from_at p a = let e : first + a - first ≡ a = omega arith in rw (le-leb first (first + a) (omega arith), e)

  pub from_before : (p : ℕ → Bool) (i : ℕ) → i < first → (leb first i && p (i - first)) ≡ false
  from_before p i l = rw (lt-leb first i l)

  from_eqb : (i x : ℕ) → first ≤ i → eqb i (first + x) ≡ eqb (i - first) x
  from_eqb i x l = let e : first + (i - first) ≡ i = omega arith in ap (λ (j : ℕ). eqb j (first + x)) (sym e) ∙ eqb_from first (i - first) x

  -- one place more
  pub from_one : (p : ℕ → Bool) (x i : ℕ) → (eqb i (first + x) || (leb first i && p (i - first))) ≡ (leb first i && (eqb (i - first) x || p (i - first)))
  from_one p x i =
      elim (dec_lt i first) [
        | yes l ↦ rw (lt-leb first i l, ne_eqb i (first + x) (λ e. omega arith))
        | no l ↦ (let m : first ≤ i = omega arith in rw (le-leb first i m, from_eqb i x m))
      ]

module _ (S : System) (edge : ℕ → ℕ → Bool) (first : ℕ) where
  module _ (fin : ℕ → ℕ) (b : ℕ) where
    abbrev among : ℕ → ℕ → Bool
    among k a = ltb a k && meets S edge fin b a

    pub lower_length : (k : ℕ) (l : List ℕ) → length (lowered_to S edge first fin b k l) ≡ length l
    unfolding lowered_to
    lower_length k l = length_replaced (λ i. leb first i && among k (i - first)) (λ i. get_or l i 0 - 1) l

    pub lower_before : (k : ℕ) (l : List ℕ) (i : ℕ) → i < first → get_or (lowered_to S edge first fin b k l) i 0 ≡ get_or l i 0
    unfolding lowered_to
    lower_before k l i h = replaced_not (λ i. leb first i && among k (i - first)) (λ i. get_or l i 0 - 1) l i (from_before first (among k) i h)

    lower_behind : (k : ℕ) (l : List ℕ) (i : ℕ) → first + k ≤ i → get_or (lowered_to S edge first fin b k l) i 0 ≡ get_or l i 0
    unfolding lowered_to
    lower_behind k l i h =
        replaced_not (λ i. leb first i && among k (i - first)) (λ i. get_or l i 0 - 1) l i
        (rw (le-leb first i (omega arith), le-ltb (i - first) k (omega arith)))

    lower_at : (k : ℕ) (l : List ℕ) (a : ℕ) → a < k → first + a < length l →
        get_or (lowered_to S edge first fin b k l) (first + a) 0 ≡ cond (meets S edge fin b a) (get_or l (first + a) 0 - 1) (get_or l (first + a) 0)
    unfolding lowered_to
    lower_at k l a h m =
        let e : among k a ≡ meets S edge fin b a = rw (lt-ltb a k h) in
        replaced_at (λ i. leb first i && among k (i - first)) (λ i. get_or l i 0 - 1) l (first + a) m
        ∙ ap (λ (t : Bool). cond t (get_or l (first + a) 0 - 1) (get_or l (first + a) 0)) (from_at first (among k) a ∙ e)

    pub lower_none : (l : List ℕ) → l ≡ lowered_to S edge first fin b 0 l
    unfolding lowered_to
    lower_none l = replaced_nowhere (λ i. leb first i && among 0 (i - first)) (λ i. get_or l i 0 - 1) l (λ i m. rw (le-ltb (i - first) 0 (omega arith)) (never (leb first i)))
      where
        never : (t : Bool) → (t && false) ≡ false
        never true = refl
        never false = refl

    -- a turn: where the finish meets the wait of item x, its number becomes one less
    pub lower_more : (x : ℕ) (l m m' : List ℕ) (t : Bool) → first + x < length l → m ≡ lowered_to S edge first fin b x l → t ≡ meets S edge fin b x →
        m' ≡ cond t (set m (first + x) (get_or m (first + x) 0 - 1)) m → m' ≡ lowered_to S edge first fin b (x + 1) l
    unfolding lowered_to
    lower_more x l m m' true h e u f =
        f
        ∙ (ap (λ (y : List ℕ). set y (first + x) (get_or m (first + x) 0 - 1)) e
        ∙ (replaced_set (λ i. leb first i && among x (i - first)) (λ i. get_or l i 0 - 1) l (first + x) (get_or m (first + x) 0 - 1) h
        (ap (λ (y : ℕ). y - 1) (ap (λ (y : List ℕ). get_or y (first + x) 0) e ∙ lower_behind x l (first + x) (omega arith)))
        ∙ replaced_where (λ i. eqb i (first + x) || (leb first i && among x (i - first))) (λ i. leb first i && among (x + 1) (i - first)) (λ i. get_or l i 0 - 1) l
        (λ i k. from_one first (among x) x i ∙ from_ext first i (λ a. eqb a x || among x a) (among (x + 1)) one)))
      where
        one : (a : ℕ) → (eqb a x || among x a) ≡ among (x + 1) a
        one a =
            elim (ℕ_discrete a x) [
              | yes q ↦ rw (q, eq-eqb x x refl, lt-ltb x (x + 1) (omega arith)) u
              | no q ↦ elim (dec_lt a x) [
                | yes k ↦ rw (ne_eqb a x q, lt-ltb a x k, lt-ltb a (x + 1) (omega arith))
                | no k ↦ rw (ne_eqb a x q, le-ltb a x (omega arith), le-ltb a (x + 1) (omega arith))
              ]
            ]
    lower_more x l m m' false h e u f =
        f ∙ (e ∙ replaced_where (λ i. leb first i && among x (i - first)) (λ i. leb first i && among (x + 1) (i - first)) (λ i. get_or l i 0 - 1) l
        (λ i k. from_ext first i (among x) (among (x + 1)) one))
      where
        one : (a : ℕ) → among x a ≡ among (x + 1) a
        one a =
            elim (ℕ_discrete a x) [
              | yes q ↦ rw (q, le-ltb x x (omega arith), lt-ltb x (x + 1) (omega arith)) u
              | no q ↦ elim (dec_lt a x) [
                | yes k ↦ rw (lt-ltb a x k, lt-ltb a (x + 1) (omega arith))
                | no k ↦ rw (le-ltb a x (omega arith), le-ltb a (x + 1) (omega arith))
              ]
            ]

    pub lower_done : (n x : ℕ) (l m : List ℕ) → m ≡ lowered_to S edge first fin b x l → n ≤ x → x ≤ n → m ≡ lowered_to S edge first fin b n l
    lower_done n x l m e h k = let q : n ≡ x = omega arith in rw q e

    pub finished_length : (l : List ℕ) → length (finished_numbers S edge first fin b l) ≡ length l
    unfolding finished_numbers
    finished_length l = length-set (lowered_to S edge first fin b S.items l) (first + b) _ ∙ lower_length S.items l

    -- what is no number of an item stays
    pub finished_stays : (l : List ℕ) (i : ℕ) → b < S.items → first + S.items ≤ length l → (i < first) ⊎ (first + S.items ≤ i) →
        get_or (finished_numbers S edge first fin b l) i 0 ≡ get_or l i 0
    unfolding finished_numbers
    finished_stays l i lb h k =
        get_or-set_other (lowered_to S edge first fin b S.items l) (first + b) i _ 0 (λ e. ⊎_elim (λ q. omega arith) (λ q. omega arith) k)
        ∙ ⊎_elim (lower_before S.items l i) (lower_behind S.items l i) k

  pub finished_at : (fin : ℕ → ℕ) (l : List ℕ) (b a : ℕ) → first + S.items ≤ length l → b < S.items → a < S.items →
      get_or (finished_numbers S edge first fin b l) (first + a) 0 ≡ numbers_after S edge fin b (λ c. get_or l (first + c) 0) a
  unfolding finished_numbers numbers_after lowered update
  finished_at fin l b a h lb la =
      set_at (lowered_to S edge first fin b S.items l) (first + b) (first + a) _ 0 (omega (arith, lower_length fin b S.items l))
      ∙ (ap (λ (q : Bool). cond q (fresh_count S edge (update fin b (suc (fin b))) b) (get_or (lowered_to S edge first fin b S.items l) (first + a) 0)) (eqb_from first a b)
      ∙ ap (λ (x : ℕ). cond (eqb a b) (fresh_count S edge (update fin b (suc (fin b))) b) x) (lower_at fin b S.items l a la (omega arith)))
