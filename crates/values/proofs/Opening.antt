-- Laws of opening the values of a state. Those that end in _none, _more and _done are a loop's:
-- before its first turn, over a turn, and after its last.
use Prim.Native.Nat.{ℕ, ◌+◌, ◌-◌, ◌*◌, ◌%◌, ◌≤◌, ◌<◌}
use mathlib.Core.Path.{◌≡◌, refl, sym, ◌∙◌, ap}
use mathlib.Core.Bool.{Bool, true, false, cond, ◌&&◌, ◌||◌, or-true, or-false, and-false}
use mathlib.Core.Logic.{⊎_elim}
use mathlib.Core.List.{List}
use native.Mathlib.Decide.{dec_lt, ℕ_discrete}
use native.Mathlib.Omega.{arith}
use borrow.Author.Tests.{lt-ltb, le-ltb, le-leb, lt-leb, eq-eqb, ne_eqb, leb-true}
use lib.Dec.{eqb, ltb, leb}
use lib.ListN.{length, get_or, set}
use Rattle.finite.specs.Update.{replaced}
use Rattle.finite.proofs.Tests.{or_cases, and-true, or_both}
use Rattle.finite.proofs.Replaced.{replaced_set, replaced_where, replaced_nowhere, replaced_twice, replaced_ext}
use Rattle.finite.proofs.Within.{within, ltb_none, ltb_next, within_none, within_next}
use Rattle.body.specs.Body.{Body, Fits, first_slot}
use Rattle.body.specs.Places.{initial}
use Rattle.edges.specs.Tests.{kind_at}
use Rattle.plan.specs.Sizes.{first_held}
use Rattle.plan.specs.Code.{code_kind}
use Rattle.plan.specs.Layout.{body_of}
use Rattle.graph.specs.Table.{Graph}
use Rattle.graph.proofs.Lookup.{body_fits, code_kind_lem}
use Rattle.steps.specs.Answers.{is_copy, is_slot, is_held}

-- i lies among the a numbers from k on, and is chosen by q, which counts from k
abbrev chosen : ℕ → (ℕ → Bool) → ℕ → ℕ → Bool
chosen k q a i = leb k i && (ltb i (k + a) && q (i - k))

chosen_none : (k : ℕ) (q : ℕ → Bool) (i : ℕ) → chosen k q 0 i ≡ false
chosen_none k q i =
    elim (dec_lt i k) [
      | yes l ↦ rw (lt-leb k i l)
      | no l ↦ rw (le-ltb i (k + 0) (omega arith)) (and-false (leb k i))
    ]

chosen_next : (k : ℕ) (q : ℕ → Bool) (a i : ℕ) → chosen k q (a + 1) i ≡ ((q a && eqb i (k + a)) || chosen k q a i)
chosen_next k q a i =
    elim (ℕ_discrete i (k + a)) [
      | yes e ↦
          let d : i - k ≡ a = omega arith in
          rw (le-leb k i (omega arith), lt-ltb i (k + (a + 1)) (omega arith), le-ltb i (k + a) (omega arith), eq-eqb i (k + a) e, d) (one (q a))
      | no e ↦
          elim (dec_lt i (k + a)) [
            | yes l ↦ rw (lt-ltb i (k + (a + 1)) (omega arith), ne_eqb i (k + a) e, lt-ltb i (k + a) l, and-false (q a))
            | no l ↦ rw (le-ltb i (k + (a + 1)) (omega arith), ne_eqb i (k + a) e, le-ltb i (k + a) (omega arith), and-false (q a))
          ]
    ]
  where
    one : (b : Bool) → b ≡ ((b && true) || false)
    one true = refl
    one false = refl

-- a place more, where t holds
replaced_put : (p : ℕ → Bool) (f : ℕ → ℕ) (xs : List ℕ) (k v : ℕ) (t : Bool) → k < length xs → v ≡ f k →
    cond t (set (replaced p f xs) k v) (replaced p f xs) ≡ replaced (λ i. (t && eqb i k) || p i) f xs
replaced_put p f xs k v true h e = replaced_set p f xs k v h e
replaced_put p f xs k v false h e = refl

-- a loop that puts f 0, f 1, .. at the front
module _ (f : ℕ → ℕ) where
  pub filled_none : (xs : List ℕ) → xs ≡ replaced (λ i. ltb i 0) f xs
  filled_none xs = replaced_nowhere (λ i. ltb i 0) f xs (λ i l. ltb_none i)

  pub filled_more : (xs ys : List ℕ) (x v : ℕ) → ys ≡ replaced (λ i. ltb i x) f xs → x < length xs → v ≡ f x → set ys x v ≡ replaced (λ i. ltb i (x + 1)) f xs
  filled_more xs ys x v h l e =
      ap (λ (zs : List ℕ). set zs x v) h
      ∙ (replaced_set (λ i. ltb i x) f xs x v l e ∙ replaced_where (λ i. eqb i x || ltb i x) (λ i. ltb i (x + 1)) f xs (λ i m. sym (ltb_next i x)))

  pub filled_done : (xs ys : List ℕ) (n x : ℕ) → ys ≡ replaced (λ i. ltb i x) f xs → n ≤ x → x ≤ n → ys ≡ replaced (λ i. ltb i n) f xs
  filled_done xs ys n x h k l = let e : x ≡ n = omega arith in h ∙ ap (λ (m : ℕ). replaced (λ i. ltb i m) f xs) e

-- the starting value of a copy
pub copy_starts : (B : Body) (x v r : ℕ) → x < B.ranks * B.regions → r ≡ B.regions → v ≡ B.starting (x % r) → v ≡ initial B x
unfolding initial
copy_starts B x v r k d e = e ∙ sym (rw (lt-ltb x (B.ranks * B.regions) k, d))

-- slots and held words

-- the number of a send in the item table
abbrev pub is_send : List ℕ → ℕ → Bool
is_send items a = eqb (code_kind (get_or items a 0)) 1

-- the slots of the sends among the items below a, and the words that the items below a hold
abbrev pub words_below : List ℕ → ℕ → ℕ → Bool
words_below items a x = chosen first_slot (is_send items) a x || within first_held a x

module _ (items : List ℕ) where
  pub words_none : (xs : List ℕ) → xs ≡ replaced (words_below items 0) (λ x. 0) xs
  words_none xs = replaced_nowhere (words_below items 0) (λ x. 0) xs (λ i l. rw (chosen_none first_slot (is_send items) i, within_none first_held i))

  pub words_more : (xs ys zs : List ℕ) (a code : ℕ) → ys ≡ replaced (words_below items a) (λ x. 0) xs → code ≡ get_or items a 0 →
      zs ≡ cond (eqb (code_kind code) 1) (set ys (first_slot + a) 0) ys → first_held + a < length xs → set zs (first_held + a) 0 ≡ replaced (words_below items (a + 1)) (λ x. 0) xs
  words_more xs ys zs a code h d e l =
      ap (λ (ws : List ℕ). set ws (first_held + a) 0)
      (e ∙ (rw d (ap (λ (ws : List ℕ). cond (is_send items a) (set ws (first_slot + a) 0) ws) h) ∙ replaced_put (words_below items a) (λ x. 0) xs (first_slot + a) 0 (is_send items a) (omega arith) refl))
      ∙ (replaced_set (λ i. (is_send items a && eqb i (first_slot + a)) || words_below items a i) (λ x. 0) xs (first_held + a) 0 l refl
      ∙ replaced_where (λ i. eqb i (first_held + a) || ((is_send items a && eqb i (first_slot + a)) || words_below items a i)) (words_below items (a + 1)) (λ x. 0) xs
      (λ i k.
      or_both (eqb i (first_held + a)) (is_send items a && eqb i (first_slot + a)) (chosen first_slot (is_send items) a i) (within first_held a i)
      ∙ sym (rw (chosen_next first_slot (is_send items) a i, within_next first_held a i))))

  word_behind : (a x : ℕ) → words_below items a x ≡ true → first_slot ≤ x
  word_behind a x h =
      ⊎_elim
      (λ k. leb-true first_slot x (and-true (leb first_slot x) (ltb x (first_slot + a) && is_send items (x - first_slot)) k).0)
      (λ k. let l : first_held ≤ x = leb-true first_held x (and-true (leb first_held x) (ltb x (first_held + a)) k).0 in omega arith)
      (or_cases (chosen first_slot (is_send items) a x) (within first_held a x) h)

-- tests that agree among the a numbers from k on
chosen_ext : (k : ℕ) (p q : ℕ → Bool) (a i : ℕ) → ((j : ℕ) → j < a → p j ≡ q j) → chosen k p a i ≡ chosen k q a i
chosen_ext k p q a i h =
    elim (dec_lt i k) [
      | yes l ↦ rw (lt-leb k i l)
      | no l ↦
          elim (dec_lt i (k + a)) [
            | yes m ↦ rw (h (i - k) (omega arith))
            | no m ↦ rw (le-ltb i (k + a) (omega arith))
          ]
    ]

initial_behind : (B : Body) → Fits B → (x : ℕ) → first_slot ≤ x → initial B x ≡ 0
unfolding initial
initial_behind B F x h = rw (le-ltb x (B.ranks * B.regions) (omega (arith, F.room)))

-- all values of a plan
module _ (w items : List ℕ) (n : ℕ) (G : Graph w items n) where
  abbrev B : Body
  B = body_of w

  word_used : (x : ℕ) → words_below items n x ≡ (is_slot B x || is_held B x)
  word_used x =
      rw (← G.count)
      (ap (λ (t : Bool). t || within first_held n x)
      (chosen_ext first_slot (is_send items) (λ a. eqb (kind_at B a) 1) n x (λ a l. ap (λ (k : ℕ). eqb k 1) (code_kind_lem w items n G a l (get_or items a 0) refl))))

  pub values_opened : (xs ys zs : List ℕ) → ys ≡ replaced (is_copy B) (initial B) xs → zs ≡ replaced (words_below items n) (λ x. 0) ys →
      zs ≡ replaced (λ x. is_copy B x || (is_slot B x || is_held B x)) (initial B) xs
  values_opened xs ys zs h k =
      k
      ∙ (ap (replaced (words_below items n) (λ x. 0)) h
      ∙ (replaced_twice (is_copy B) (words_below items n) (initial B) (λ x. 0) xs
      ∙ replaced_ext (λ x. words_below items n x || is_copy B x) (λ x. is_copy B x || (is_slot B x || is_held B x)) (λ x. cond (words_below items n x) 0 (initial B x)) (initial B) xs
      (λ x l. go x (words_below items n x) refl ∙ ap (λ (t : Bool). cond (is_copy B x || t) (initial B x) (get_or xs x 0)) (word_used x))))
    where
      go : (x : ℕ) (t : Bool) → words_below items n x ≡ t → cond (t || is_copy B x) (cond t 0 (initial B x)) (get_or xs x 0) ≡ cond (is_copy B x || t) (initial B x) (get_or xs x 0)
      go x true e = sym (rw (or-true (is_copy B x)) (initial_behind B (body_fits w items n G) x (word_behind items n x e)))
      go x false e = rw (or-false (is_copy B x))
