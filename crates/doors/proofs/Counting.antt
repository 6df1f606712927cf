-- Laws of the counts: started and finished passes, and numbers of unmet waits. Those that end in
-- _none, _more and _done are a loop's: before its first turn, over a turn, and after its last.
use Prim.Native.Nat.{ℕ, ◌+◌, ◌-◌, ◌^◌, ◌≤◌, ◌<◌}
use mathlib.Core.Path.{◌≡◌, refl, sym, ◌∙◌, ap, ap₂}
use mathlib.Core.Bool.{Bool, true, false, cond, ◌&&◌, ◌||◌}
use mathlib.Core.Logic.{⊎_elim}
use mathlib.Core.List.{List, []}
use native.Mathlib.Decide.{dec_lt, ℕ_discrete}
use native.Mathlib.Omega.{arith}
use borrow.Author.Tests.{ltb-true, leb-true, eqb-true, lt-ltb, le-ltb, le-leb, lt-leb, eq-eqb, ne_eqb}
use lib.Bits.{bit_or}
use lib.Dec.{eqb, ltb, leb}
use lib.ListN.{length, get_or, set}
use Rattle.finite.specs.Below.{all_below}
use Rattle.finite.specs.Update.{replaced}
use Rattle.finite.proofs.Tests.{test_ext, and-true, or_cases, or_both}
use Rattle.finite.proofs.Below.{all_more, all_ext}
use Rattle.finite.proofs.Bitwise.{or_below, or_more}
use Rattle.finite.proofs.Replaced.{replaced_set, replaced_where, replaced_nowhere, replaced_twice, replaced_ext}
use Rattle.finite.proofs.Within.{within, ltb_none, ltb_next, within_none, within_next}
use Rattle.body.specs.Body.{Body}
use Rattle.body.specs.Items.{item_count, item_passes}
use Rattle.plan.specs.Limits.{max_passes}
use Rattle.plan.specs.Sizes.{max_items, first_finished, first_unmet}
use Rattle.plan.specs.Layout.{passes_of, body_of}
use Rattle.plan.specs.Code.{code_fewer}
use Rattle.plan.specs.Counts.{top_bit, surplus_of}
use Rattle.plan.proofs.Surplus.{surplus_none}
use Rattle.graph.specs.Table.{Graph}
use Rattle.graph.proofs.Lookup.{own_passes_lem, passes_most}
use Rattle.steps.specs.State.{state_of, unmet_by}
use Rattle.steps.specs.Answers.{count_ok, is_complete, is_count, open_count}

-- the counts of an item are in form exactly if the words that are made of them are small
formed_words : (started finished own : ℕ) → started < 2 ^ 64 → finished < 2 ^ 64 → own ≤ max_passes →
    (ltb (surplus_of started finished) 2 && ltb (bit_or finished (surplus_of own started)) top_bit)
    ≡ (leb finished own && (eqb started finished || (eqb started (finished + 1) && ltb finished own)))
formed_words s f o ls lf lo = ap (λ (b : Bool). ltb (surplus_of s f) 2 && b) (or_below 63 f (surplus_of o s)) ∙ test_ext small ok onward back
  where
    small : Bool
    small = ltb (surplus_of s f) 2 && (ltb f top_bit && ltb (surplus_of o s) top_bit)

    ok : Bool
    ok = leb f o && (eqb s f || (eqb s (f + 1) && ltb f o))

    onward : small ≡ true → ok ≡ true
    onward h =
        let p = and-true (ltb (surplus_of s f) 2) (ltb f top_bit && ltb (surplus_of o s) top_bit) h in
        let q = and-true (ltb f top_bit) (ltb (surplus_of o s) top_bit) p.1 in
        let lead : surplus_of s f < 2 = ltb-true (surplus_of s f) 2 p.0 in
        let few : f < top_bit = ltb-true f top_bit q.0 in
        let left : surplus_of o s < top_bit = ltb-true (surplus_of o s) top_bit q.1 in
        elim (ℕ_discrete s f) [
          | yes e ↦ rw (le-leb f o (omega arith), eq-eqb s f e)
          | no n ↦ rw (le-leb f o (omega (arith, n)), ne_eqb s f n, eq-eqb s (f + 1) (omega (arith, n)), lt-ltb f o (omega (arith, n)))
        ]

    words : f ≤ s → s ≤ f + 1 → s ≤ o → small ≡ true
    words a b c = rw (lt-ltb (surplus_of s f) 2 (omega arith), lt-ltb f top_bit (omega arith), lt-ltb (surplus_of o s) top_bit (omega arith))

    back : ok ≡ true → small ≡ true
    back h =
        let p = and-true (leb f o) (eqb s f || (eqb s (f + 1) && ltb f o)) h in
        let most : f ≤ o = leb-true f o p.0 in
        ⊎_elim
        (λ e. let same = eqb-true s f e in words (omega arith) (omega arith) (omega arith))
        (λ e. let q = and-true (eqb s (f + 1)) (ltb f o) e in one_more (eqb-true s (f + 1) q.0) (ltb-true f o q.1))
        (or_cases (eqb s f) (eqb s (f + 1) && ltb f o) p.1)
      where
        one_more : s ≡ f + 1 → f < o → small ≡ true
        one_more e l = words (omega arith) (omega arith) (omega arith)

-- and a number is no more than `most` exactly if the word made of it is small
number_word : (most number : ℕ) → most ≤ max_items → number < 2 ^ 64 → ltb (bit_or number (surplus_of most number)) top_bit ≡ leb number most
number_word m x few l =
    or_below 63 x (surplus_of m x)
    ∙ elim (dec_lt m x) [
      | yes k ↦ (
          elim (dec_lt x top_bit) [
            | yes h ↦ rw (lt-leb x m k, lt-ltb x top_bit h, le-ltb (surplus_of m x) top_bit (omega arith))
            | no h ↦ rw (lt-leb x m k, le-ltb x top_bit (omega arith))
          ])
      | no k ↦ rw (le-leb x m (omega arith), lt-ltb x top_bit (omega arith), lt-ltb (surplus_of m x) top_bit (omega arith))
    ]

-- two tests of joined words
join_both : (p : ℕ → Bool) (i apart beyond lead rest : ℕ) → (ltb apart 2 && ltb beyond top_bit) ≡ all_below i p → (ltb lead 2 && ltb rest top_bit) ≡ p i →
    (ltb (bit_or apart lead) 2 && ltb (bit_or beyond rest) top_bit) ≡ all_below (i + 1) p
join_both p i apart beyond lead rest h e =
    ap₂ ◌&&◌ (or_below 1 apart lead) (or_below 63 beyond rest)
    ∙ (crossed (ltb apart 2) (ltb lead 2) (ltb beyond top_bit) (ltb rest top_bit) ∙ all_more p i (ltb apart 2 && ltb beyond top_bit) (ltb lead 2 && ltb rest top_bit) h e)
  where
    crossed : (a b c d : Bool) → ((a && b) && (c && d)) ≡ ((a && c) && (b && d))
    crossed false b c d = refl
    crossed true true c d = refl
    crossed true false true d = refl
    crossed true false false d = refl

module _ (counts table : List ℕ) (passes : ℕ) where
  -- the passes that item a has
  abbrev own_at : ℕ → ℕ
  own_at a = passes - code_fewer (get_or table a 0)

  -- the loop of `are_formed`
  abbrev pub formed_to : ℕ → Bool
  formed_to n = all_below n (λ a. count_ok (own_at a) (state_of counts []) a)

  pub formed_more : (a apart beyond own lead left : ℕ) → passes ≤ max_passes → get_or counts a 0 < 2 ^ 64 → get_or counts (first_finished + a) 0 < 2 ^ 64 →
      (ltb apart 2 && ltb beyond top_bit) ≡ formed_to a → own ≡ own_at a → lead ≡ surplus_of (get_or counts a 0) (get_or counts (first_finished + a) 0) → left ≡ surplus_of own (get_or counts a 0) →
      (ltb (bit_or apart lead) 2 && ltb (bit_or beyond (bit_or (get_or counts (first_finished + a) 0) left)) top_bit) ≡ formed_to (a + 1)
  formed_more a apart beyond own lead left few ls lf h o e f =
      join_both (λ a. count_ok (own_at a) (state_of counts []) a) a apart beyond lead (bit_or (get_or counts (first_finished + a) 0) left) h
      (rw (e, f, o) (formed_words (get_or counts a 0) (get_or counts (first_finished + a) 0) (own_at a) ls lf (omega arith)))

  -- the loop of `are_complete`
  abbrev pub complete_to : ℕ → Bool
  complete_to n = all_below n (λ a. eqb (get_or counts (first_finished + a) 0) (own_at a))

  pub complete_more : (a missing own left : ℕ) → passes < 2 ^ 64 → get_or counts (first_finished + a) 0 < 2 ^ 64 →
      ltb missing 1 ≡ complete_to a → own ≡ own_at a → left ≡ surplus_of own (get_or counts (first_finished + a) 0) → ltb (bit_or missing left) 1 ≡ complete_to (a + 1)
  complete_more a missing own left few l h o e =
      or_more 0 (λ a. eqb (get_or counts (first_finished + a) 0) (own_at a)) a missing left h
      (rw (e, o) (surplus_none (own_at a) (get_or counts (first_finished + a) 0) (omega arith) l))

-- both by the body of a plan
abbrev formed_all : List ℕ → Body → ℕ → Bool
formed_all counts B n = all_below n (λ a. count_ok (item_passes B a) (state_of counts []) a)

abbrev complete_all : List ℕ → Body → ℕ → Bool
complete_all counts B n = all_below n (λ a. eqb (get_or counts (first_finished + a) 0) (item_passes B a))

-- of the items of a plan
module _ {w items : List ℕ} {n : ℕ} (G : Graph w items n) where
  pub own_most : (a : ℕ) → item_passes (body_of w) a ≤ max_passes
  own_most a = omega (arith, passes_most w items n G)

  -- what the codes tell of all items
  pub formed_own : (counts : List ℕ) (passes : ℕ) → passes ≡ passes_of w → formed_to counts items passes n ≡ formed_all counts (body_of w) n
  formed_own counts passes p =
      all_ext n (λ a. count_ok (passes - code_fewer (get_or items a 0)) (state_of counts []) a) (λ a. count_ok (item_passes (body_of w) a) (state_of counts []) a)
      (λ a l. ap (λ (k : ℕ). count_ok k (state_of counts []) a) (own_passes_lem w items n G passes p a l (passes - code_fewer (get_or items a 0)) refl))

  pub complete_own : (counts : List ℕ) (passes : ℕ) → passes ≡ passes_of w → complete_to counts items passes n ≡ complete_all counts (body_of w) n
  complete_own counts passes p =
      all_ext n (λ a. eqb (get_or counts (first_finished + a) 0) (passes - code_fewer (get_or items a 0))) (λ a. eqb (get_or counts (first_finished + a) 0) (item_passes (body_of w) a))
      (λ a l. ap (eqb (get_or counts (first_finished + a) 0)) (own_passes_lem w items n G passes p a l (passes - code_fewer (get_or items a 0)) refl))

  -- the loop is complete
  pub complete_is : (counts values : List ℕ) → complete_all counts (body_of w) n ≡ is_complete (body_of w) (state_of counts values)
  complete_is counts values = rw G.count

-- the numbers of unmet waits in the loop of `are_formed`
module _ (counts : List ℕ) where
  abbrev pub numbers_to : ℕ → ℕ → Bool
  numbers_to most n = all_below n (λ a. leb (unmet_by counts a) most)

  pub numbers_more : (most n a above left : ℕ) → n ≤ max_items → most ≡ n → get_or counts (first_unmet + a) 0 < 2 ^ 64 →
      ltb above top_bit ≡ numbers_to n a → left ≡ surplus_of most (get_or counts (first_unmet + a) 0) →
      ltb (bit_or above (bit_or (get_or counts (first_unmet + a) 0) left)) top_bit ≡ numbers_to n (a + 1)
  numbers_more most n a above left few m l h e =
      or_more 63 (λ a. leb (unmet_by counts a) n) a above (bit_or (get_or counts (first_unmet + a) 0) left) h
      (rw (e, m) (number_word n (get_or counts (first_unmet + a) 0) few l))

-- both counts of each item below a
abbrev pub counts_below : ℕ → ℕ → Bool
counts_below a i = ltb i a || within first_finished a i

pub counts_none : (xs : List ℕ) → xs ≡ replaced (counts_below 0) (λ i. 0) xs
counts_none xs = replaced_nowhere (counts_below 0) (λ i. 0) xs (λ i l. rw (ltb_none i, within_none first_finished i))

pub counts_more : (xs ys : List ℕ) (a : ℕ) → ys ≡ replaced (counts_below a) (λ i. 0) xs → first_finished + a < length xs →
    set (set ys a 0) (first_finished + a) 0 ≡ replaced (counts_below (a + 1)) (λ i. 0) xs
counts_more xs ys a h l =
    ap (λ (zs : List ℕ). set (set zs a 0) (first_finished + a) 0) h
    ∙ (ap (λ (zs : List ℕ). set zs (first_finished + a) 0) (replaced_set (counts_below a) (λ i. 0) xs a 0 (omega arith) refl)
    ∙ (replaced_set (λ i. eqb i a || counts_below a i) (λ i. 0) xs (first_finished + a) 0 l refl
    ∙ replaced_where (λ i. eqb i (first_finished + a) || (eqb i a || counts_below a i)) (counts_below (a + 1)) (λ i. 0) xs
    (λ i k. or_both (eqb i (first_finished + a)) (eqb i a) (ltb i a) (within first_finished a i) ∙ sym (rw (ltb_next i a, within_next first_finished a i)))))

pub counts_done : (xs ys : List ℕ) (n a : ℕ) → ys ≡ replaced (counts_below a) (λ i. 0) xs → n ≤ a → a ≤ n → ys ≡ replaced (counts_below n) (λ i. 0) xs
counts_done xs ys n a h k l = let e : n ≡ a = omega arith in rw e h

-- the counts of passes stand before the numbers, and are 0 at the opening
passes_before : (n i : ℕ) → n ≤ max_items → counts_below n i ≡ true → i < first_unmet
passes_before n i few e =
    ⊎_elim
    (λ t. omega (arith, ltb-true i n t))
    (λ t. omega (arith, ltb-true i (first_finished + n) (and-true (leb first_finished i) (ltb i (first_finished + n)) t).1))
    (or_cases (ltb i n) (within first_finished n i) e)

open_passes : (B : Body) (n i : ℕ) → n ≤ max_items → counts_below n i ≡ true → open_count B i ≡ 0
unfolding open_count
open_passes B n i few e = rw (lt-leb first_unmet i (passes_before n i few e))

-- the passes at 0, and then the numbers of unmet waits counted
pub counts_opened : (B : Body) (n : ℕ) → n ≡ item_count B → n ≤ max_items → (xs ys zs : List ℕ) → ys ≡ replaced (counts_below n) (λ i. 0) xs →
    zs ≡ replaced (within first_unmet n) (open_count B) ys → zs ≡ replaced (is_count B) (open_count B) xs
counts_opened B n c few xs ys zs h k =
    k
    ∙ (ap (replaced (within first_unmet n) (open_count B)) h
    ∙ (replaced_twice (counts_below n) (within first_unmet n) (λ i. 0) (open_count B) xs
    ∙ replaced_ext (λ i. within first_unmet n i || counts_below n i) (is_count B) (λ i. cond (within first_unmet n i) (open_count B i) 0) (open_count B) xs
    (λ i l. rw (← c) (each (ltb i n) (within first_finished n i) (within first_unmet n i) (get_or xs i 0) (open_count B i) (open_passes B n i few)))))
  where
    each : (p q t : Bool) (x v : ℕ) → ((p || q) ≡ true → v ≡ 0) → cond (t || (p || q)) (cond t v 0) x ≡ cond (p || (q || t)) v x
    each true q true x v z = refl
    each true q false x v z = sym (z refl)
    each false true true x v z = refl
    each false true false x v z = sym (z refl)
    each false false true x v z = refl
    each false false false x v z = refl
