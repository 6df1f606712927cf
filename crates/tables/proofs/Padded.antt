-- Laws of padded parts: numbers and zeros behind them.
use Prim.Native.Nat.{ℕ, ◌+◌, ◌-◌, ◌≤◌, ◌<◌}
use mathlib.Core.Path.{◌≡◌, sym, ◌∙◌, ap, subst}
use mathlib.Core.List.{List, ◌++◌, append_assoc}
use native.Mathlib.Decide.{dec_lt}
use native.Mathlib.Omega.{arith}
use lib.ListN.{length, get_or, take, drop, set, replicate, length-append, length-drop, length-replicate, get_or-replicate, replicate-append-replicate, get_or-append, get_or-eq_default}
use lib.Seq.{get_or-set_same, get_or-set_other, length-take-le, take_at, drop_at, get_or-take, get_or-append-add, drop-drop, sets-eq}
use Rattle.finite.specs.Put.{Added}
use Rattle.finite.proofs.Lists.{length_tabulate, get_d_tabulate}
use Rattle.finite.proofs.Replaced.{list_ext}
use Rattle.finite.proofs.Puts.{added, added_same, added_put}
use Rattle.prepared.specs.Tables.{padded}

pub length_padded : (k : ℕ) (l : List ℕ) → length (padded k l) ≡ k
unfolding padded
length_padded k l = length_tabulate (λ i. get_or l i 0) k

pub padded_is : (k : ℕ) (l xs : List ℕ) → length xs ≡ k → ((i : ℕ) → i < k → get_or xs i 0 ≡ get_or l i 0) → xs ≡ padded k l
unfolding padded
padded_is k l xs e h =
    list_ext xs (padded k l) (e ∙ sym (length_padded k l))
    (λ i m. let o : i < k = omega (arith, e) in h i o ∙ sym (get_d_tabulate (λ j. get_or l j 0) k i 0 o))

-- zeros behind a list that has room
pub padded_zeros : (k : ℕ) (l : List ℕ) → length l ≤ k → l ++ replicate (k - length l) 0 ≡ padded k l
padded_zeros k l h = padded_is k l (l ++ zs) size each
  where
    zs : List ℕ
    zs = replicate (k - length l) 0

    size : length (l ++ zs) ≡ k
    size = length-append l zs ∙ omega (arith, length-replicate {A = ℕ} (k - length l) 0)

    each : (i : ℕ) → i < k → get_or (l ++ zs) i 0 ≡ get_or l i 0
    each i m =
        elim (dec_lt i (length l)) [
          | yes o ↦ get_or-append l zs 0 i o
          | no o ↦
              let e : length l + (i - length l) ≡ i = omega arith in
              ap (λ (j : ℕ). get_or (l ++ zs) j 0) (sym e)
              ∙ (get_or-append-add l zs (i - length l) 0
              ∙ (get_or-replicate {A = ℕ} (k - length l) (i - length l) 0 0 (omega arith) ∙ sym (get_or-eq_default l 0 (omega arith))))
        ]

zeros_split : (a k : ℕ) → a ≤ k → ◌≡◌ {A = List ℕ} (replicate k 0) (replicate a 0 ++ replicate (k - a) 0)
zeros_split a k h = let e : a + (k - a) ≡ k = omega arith in sym (replicate-append-replicate {A = ℕ} a (k - a) 0 ∙ ap (λ (n : ℕ). replicate {A = ℕ} n 0) e)

pub take_zeros : (a k : ℕ) → a ≤ k → ◌≡◌ {A = List ℕ} (take a (replicate k 0)) (replicate a 0)
take_zeros a k h = ap (take a) (zeros_split a k h) ∙ take_at (replicate a 0) (replicate (k - a) 0) a (length-replicate {A = ℕ} a 0)

pub drop_zeros : (a k : ℕ) → a ≤ k → ◌≡◌ {A = List ℕ} (drop a (replicate k 0)) (replicate (k - a) 0)
drop_zeros a k h = ap (drop a) (zeros_split a k h) ∙ drop_at (replicate a 0) (replicate (k - a) 0) a (length-replicate {A = ℕ} a 0)

-- numbers put at the front of zeros
pub padded_front : (k : ℕ) (l zs xs : List ℕ) → length l ≤ k → zs ≡ replicate k 0 → xs ≡ l ++ drop (length l) zs → xs ≡ padded k l
padded_front k l zs xs h z e =
    e ∙ (ap (λ (t : List ℕ). l ++ drop (length l) t) z ∙ (ap (λ (t : List ℕ). l ++ t) (drop_zeros (length l) k h) ∙ padded_zeros k l h))

pub padded_added : (k : ℕ) (l zs : List ℕ) (r : ℕ) (xs : List ℕ) → length l ≤ k → zs ≡ replicate k 0 → Added l 0 zs r xs → xs ≡ padded k l
padded_added k l zs r xs h z a =
    padded_front k l zs xs h z (added_put (omega (arith, ap length z, length-replicate {A = ℕ} k 0)) a).begins

-- the loop of `pad`
pub copied_more : (from front : List ℕ) (k : ℕ) → ((j : ℕ) → j < k → get_or front j 0 ≡ get_or from j 0) → k < length front →
    (j : ℕ) → j < k + 1 → get_or (set front k (get_or from k 0)) j 0 ≡ get_or from j 0
copied_more from front k h l j m =
    elim (dec_lt j k) [
      | yes o ↦ get_or-set_other front k j (get_or from k 0) 0 (λ e. omega (arith, e, o)) ∙ h j o
      | no o ↦ let e : k ≡ j = omega arith in subst (λ (i : ℕ). get_or (set front k (get_or from k 0)) i 0 ≡ get_or from i 0) e (get_or-set_same front k (get_or from k 0) 0 l)
    ]

pub copied_done : (from front : List ℕ) (n : ℕ) → length front ≡ n → n ≤ length from → ((j : ℕ) → j < n → get_or front j 0 ≡ get_or from j 0) → front ≡ take n from
copied_done from front n e l h =
    list_ext front (take n from) (omega (arith, e, length-take-le n from l)) (λ i m. let o : i < n = omega (arith, e) in h i o ∙ sym (get_or-take n from i 0 o))

-- `pad`
pub pad_done : (from front rest : List ℕ) (n k : ℕ) → n ≤ length from → n ≤ k → front ≡ take n from → rest ≡ replicate (k - n) 0 → front ++ rest ≡ padded k (take n from)
pad_done from front rest n k l m h z =
    let e : length (take n from) ≡ n = length-take-le n from l in
    rw (h, z) (ap (λ (j : ℕ). take n from ++ replicate {A = ℕ} (k - j) 0) (sym e) ∙ padded_zeros k (take n from) (omega (arith, e)))

-- the part of xs from a to e is lent and comes back as ys
pub lent_added : (a e : ℕ) (xs ys : List ℕ) → a ≤ e → e ≤ length xs → length ys ≡ e - a → Added ys a xs e (take a xs ++ (ys ++ drop (e - a) (drop a xs)))
lent_added a e xs ys h k l =
    let z : a + (e - a) ≡ a + length ys = omega arith in
    added (omega arith) (rw (drop-drop (e - a) a xs, z) (sym (sets-eq ys xs a (omega arith) ∙ append_assoc (take a xs) ys (drop (a + length ys) xs))))

-- `put_part`
pub lent_length : (a e : ℕ) (xs : List ℕ) → a ≤ e → e ≤ length xs → length (take (e - a) (drop a xs)) ≡ e - a
lent_length a e xs h k = length-take-le (e - a) (drop a xs) (omega (arith, length-drop a xs))

pub part_added : (a e : ℕ) (xs ys l : List ℕ) → a ≤ e → e ≤ length xs → ys ≡ padded (length (take (e - a) (drop a xs))) l →
    Added (padded (e - a) l) a xs e (take a xs ++ (ys ++ drop (e - a) (drop a xs)))
part_added a e xs ys l h k y =
    let z : ys ≡ padded (e - a) l = y ∙ ap (λ (n : ℕ). padded n l) (lent_length a e xs h k) in
    added_same z (lent_added a e xs ys h k (ap length z ∙ length_padded (e - a) l))
