-- Laws of replaced: a list with other values at the places that a test picks.
use Prim.Native.Nat.{ℕ, ◌+◌, ◌-◌, ◌≤◌, ◌<◌}
use mathlib.Core.Path.{◌≡◌, refl, sym, ◌∙◌, ap}
use mathlib.Core.Bool.{Bool, true, false, cond, ◌&&◌, ◌||◌, or-false}
use mathlib.Core.List.{List, [], ◌∷◌, ◌++◌}
use native.Mathlib.Decide.{dec_lt}
use native.Mathlib.Omega.{arith}
use borrow.Author.Tests.{eqb-true, le-leb, lt-leb}
use lib.Dec.{eqb, leb}
use lib.ListN.{length, get_or, take, drop, set, length-append, length-set, length-drop, get_or-append, get_or-eq_default}
use lib.Seq.{length-take-le, get_or-take, get_or-drop, get_or-append-add}
use Rattle.finite.specs.Lists.{mem, tabulate}
use Rattle.finite.specs.Update.{replaced}
use Rattle.finite.proofs.Lists.{length_tabulate, get_d_tabulate}
use Rattle.finite.proofs.Tabulate.{tabulate_ext, tabulate_list}
use Rattle.finite.proofs.Update.{set_at}

-- lists of one length that agree at each place
pub list_ext : (xs ys : List ℕ) → length xs ≡ length ys → ((i : ℕ) → i < length xs → get_or xs i 0 ≡ get_or ys i 0) → xs ≡ ys
list_ext xs ys e h =
    sym (tabulate_list xs 0)
    ∙ (tabulate_ext (length xs) (λ i. get_or xs i 0) (λ i. get_or ys i 0) h
    ∙ (ap (λ (n : ℕ). tabulate n (λ i. get_or ys i 0)) e ∙ tabulate_list ys 0))

pub length_replaced : (p : ℕ → Bool) (f : ℕ → ℕ) (xs : List ℕ) → length (replaced p f xs) ≡ length xs
unfolding replaced
length_replaced p f xs = length_tabulate (λ i. cond (p i) (f i) (get_or xs i 0)) (length xs)

pub replaced_at : (p : ℕ → Bool) (f : ℕ → ℕ) (xs : List ℕ) (i : ℕ) → i < length xs → get_or (replaced p f xs) i 0 ≡ cond (p i) (f i) (get_or xs i 0)
unfolding replaced
replaced_at p f xs i h = get_d_tabulate (λ i. cond (p i) (f i) (get_or xs i 0)) (length xs) i 0 h

-- a list that has what is replaced at each place
pub replaced_is : (p : ℕ → Bool) (f : ℕ → ℕ) (xs ys : List ℕ) → length ys ≡ length xs →
    ((i : ℕ) → i < length xs → get_or ys i 0 ≡ cond (p i) (f i) (get_or xs i 0)) → ys ≡ replaced p f xs
replaced_is p f xs ys e h =
    list_ext ys (replaced p f xs) (e ∙ sym (length_replaced p f xs))
    (λ i l. let k : i < length xs = omega (arith, e) in h i k ∙ sym (replaced_at p f xs i k))

pub replaced_ext : (p q : ℕ → Bool) (f g : ℕ → ℕ) (xs : List ℕ) →
    ((i : ℕ) → i < length xs → cond (p i) (f i) (get_or xs i 0) ≡ cond (q i) (g i) (get_or xs i 0)) → replaced p f xs ≡ replaced q g xs
replaced_ext p q f g xs h =
    replaced_is q g xs (replaced p f xs) (length_replaced p f xs) (λ i l. replaced_at p f xs i l ∙ h i l)

-- the same places, tested otherwise
pub replaced_where : (p q : ℕ → Bool) (f : ℕ → ℕ) (xs : List ℕ) → ((i : ℕ) → i < length xs → p i ≡ q i) → replaced p f xs ≡ replaced q f xs
replaced_where p q f xs h = replaced_ext p q f f xs (λ i l. ap (λ (t : Bool). cond t (f i) (get_or xs i 0)) (h i l))

pub replaced_nowhere : (p : ℕ → Bool) (f : ℕ → ℕ) (xs : List ℕ) → ((i : ℕ) → i < length xs → p i ≡ false) → xs ≡ replaced p f xs
replaced_nowhere p f xs h = replaced_is p f xs xs refl (λ i l. sym (ap (λ (t : Bool). cond t (f i) (get_or xs i 0)) (h i l)))

-- a place that is not replaced, within the list or not
pub replaced_not : (p : ℕ → Bool) (f : ℕ → ℕ) (xs : List ℕ) (x : ℕ) → p x ≡ false → get_or (replaced p f xs) x 0 ≡ get_or xs x 0
replaced_not p f xs x e =
    elim (dec_lt x (length xs)) [
      | yes l ↦ replaced_at p f xs x l ∙ ap (λ (t : Bool). cond t (f x) (get_or xs x 0)) e
      | no l ↦ get_or-eq_default (replaced p f xs) 0 (omega (arith, length_replaced p f xs)) ∙ sym (get_or-eq_default xs 0 (omega arith))
    ]

-- no place, and one
pub replaced_none : (xs : List ℕ) (v : ℕ) → xs ≡ replaced (λ i. mem i []) (λ i. v) xs
unfolding mem
replaced_none xs v = replaced_nowhere (λ i. mem i []) (λ i. v) xs (λ i l. refl)

pub replaced_one : (xs : List ℕ) (k v : ℕ) → k < length xs → set xs k v ≡ replaced (λ i. mem i (k ∷ [])) (λ i. v) xs
unfolding mem
replaced_one xs k v h =
    replaced_is (λ i. mem i (k ∷ [])) (λ i. v) xs (set xs k v) (length-set xs k v)
    (λ i l. set_at xs k i v 0 h ∙ rw (or-false (eqb i k)))

-- one place more
pub replaced_set : (p : ℕ → Bool) (f : ℕ → ℕ) (xs : List ℕ) (k v : ℕ) → k < length xs → v ≡ f k →
    set (replaced p f xs) k v ≡ replaced (λ i. eqb i k || p i) f xs
replaced_set p f xs k v h e =
    replaced_is (λ i. eqb i k || p i) f xs (set (replaced p f xs) k v) (length-set (replaced p f xs) k v ∙ length_replaced p f xs)
    (λ i l. set_at (replaced p f xs) k i v 0 (omega (arith, length_replaced p f xs)) ∙ one i l (eqb i k) refl)
  where
    one : (i : ℕ) → i < length xs → (t : Bool) → eqb i k ≡ t → cond t v (get_or (replaced p f xs) i 0) ≡ cond (t || p i) (f i) (get_or xs i 0)
    one i l true q = e ∙ ap f (sym (eqb-true i k q))
    one i l false q = replaced_at p f xs i l

-- replaced again
pub replaced_twice : (p q : ℕ → Bool) (f g : ℕ → ℕ) (xs : List ℕ) →
    replaced q g (replaced p f xs) ≡ replaced (λ i. q i || p i) (λ i. cond (q i) (g i) (f i)) xs
replaced_twice p q f g xs =
    replaced_is (λ i. q i || p i) (λ i. cond (q i) (g i) (f i)) xs (replaced q g (replaced p f xs))
    (length_replaced q g (replaced p f xs) ∙ length_replaced p f xs)
    (λ i l. replaced_at q g (replaced p f xs) i (omega (arith, length_replaced p f xs)) ∙ one i l (q i))
  where
    one : (i : ℕ) → i < length xs → (t : Bool) → cond t (g i) (get_or (replaced p f xs) i 0) ≡ cond (t || p i) (cond t (g i) (f i)) (get_or xs i 0)
    one i l true = refl
    one i l false = replaced_at p f xs i l

-- the part of xs from a to e is lent and comes back as ys: what is replaced in the part is replaced
-- in the whole
pub replaced_lent : (p : ℕ → Bool) (f : ℕ → ℕ) (a e : ℕ) (xs ys : List ℕ) → a ≤ e → e ≤ length xs → ((i : ℕ) → p i ≡ true → i < e - a) →
    ys ≡ replaced p f (take (e - a) (drop a xs)) →
    take a xs ++ (ys ++ drop (e - a) (drop a xs)) ≡ replaced (λ i. leb a i && p (i - a)) (λ i. f (i - a)) xs
replaced_lent p f a e xs ys h k only b = replaced_is (λ i. leb a i && p (i - a)) (λ i. f (i - a)) xs (take a xs ++ (ys ++ rest)) sizes each
  where
    part : List ℕ
    part = take (e - a) (drop a xs)

    rest : List ℕ
    rest = drop (e - a) (drop a xs)

    front : length (take a xs) ≡ a
    front = length-take-le a xs (omega arith)

    middle : length ys ≡ e - a
    middle = ap length b ∙ (length_replaced p f part ∙ length-take-le (e - a) (drop a xs) (omega (arith, length-drop a xs)))

    sizes : length (take a xs ++ (ys ++ rest)) ≡ length xs
    sizes =
        length-append (take a xs) (ys ++ rest)
        ∙ omega (arith, front, middle, length-append ys rest, length-drop (e - a) (drop a xs), length-drop a xs)

    -- behind the front
    later : (i : ℕ) → a ≤ i → get_or (take a xs ++ (ys ++ rest)) i 0 ≡ get_or (ys ++ rest) (i - a) 0
    later i l =
        let s : length (take a xs) + (i - a) ≡ i = omega (arith, front) in
        ap (λ (j : ℕ). get_or (take a xs ++ (ys ++ rest)) j 0) (sym s) ∙ get_or-append-add (take a xs) (ys ++ rest) (i - a) 0

    within : (i : ℕ) → a ≤ i → i < e → get_or (ys ++ rest) (i - a) 0 ≡ cond (p (i - a)) (f (i - a)) (get_or xs i 0)
    within i l m =
        let t : a + (i - a) ≡ i = omega arith in
        get_or-append ys rest 0 (i - a) (omega (arith, middle))
        ∙ (ap (λ (zs : List ℕ). get_or zs (i - a) 0) b
        ∙ (replaced_at p f part (i - a) (omega (arith, length-take-le (e - a) (drop a xs) (omega (arith, length-drop a xs))))
        ∙ ap (λ (z : ℕ). cond (p (i - a)) (f (i - a)) z)
        (get_or-take (e - a) (drop a xs) (i - a) 0 (omega arith) ∙ (get_or-drop a xs (i - a) 0 ∙ ap (λ (j : ℕ). get_or xs j 0) t))))

    behind : (i : ℕ) → e ≤ i → get_or (ys ++ rest) (i - a) 0 ≡ get_or xs i 0
    behind i l =
        let s : length ys + (i - e) ≡ i - a = omega (arith, middle) in
        let t : a + ((e - a) + (i - e)) ≡ i = omega arith in
        ap (λ (j : ℕ). get_or (ys ++ rest) j 0) (sym s)
        ∙ (get_or-append-add ys rest (i - e) 0
        ∙ (get_or-drop (e - a) (drop a xs) (i - e) 0 ∙ (get_or-drop a xs ((e - a) + (i - e)) 0 ∙ ap (λ (j : ℕ). get_or xs j 0) t)))

    out : (i : ℕ) → e ≤ i → (t : Bool) → p (i - a) ≡ t → get_or xs i 0 ≡ cond t (f (i - a)) (get_or xs i 0)
    out i l true q = absurd (omega (arith, only (i - a) q))
    out i l false q = refl

    each : (i : ℕ) → i < length xs → get_or (take a xs ++ (ys ++ rest)) i 0 ≡ cond (leb a i && p (i - a)) (f (i - a)) (get_or xs i 0)
    each i l =
        elim (dec_lt i a) [
          | yes m ↦ get_or-append (take a xs) (ys ++ rest) 0 i (omega (arith, front)) ∙ (get_or-take a xs i 0 m ∙ rw (lt-leb a i m))
          | no m ↦
              let n : a ≤ i = omega arith in
              rw (le-leb a i n)
              (later i n
              ∙ elim (dec_lt i e) [
                | yes o ↦ within i n o
                | no o ↦ let u : e ≤ i = omega arith in behind i u ∙ out i u (p (i - a)) refl
              ])
        ]
