-- The rows of the tables: words gathered by a row, a word written by a row, and the word that an
-- item computes, which a start holds.
use Prim.Native.Nat.{ℕ, suc, ◌+◌, ◌*◌, ◌<◌}
use mathlib.Core.Path.{◌≡◌, refl, sym, ◌∙◌, ap, ap₂}
use mathlib.Core.Bool.{Bool, true, false, cond, ◌||◌}
use mathlib.Core.List.{List, [], ◌∷◌, map}
use native.Mathlib.Numerals.{add-one}
use native.Mathlib.Omega.{arith}
use borrow.Author.Tests.{eq-eqb, ne_eqb}
use lib.Dec.{eqb}
use lib.ListN.{length, get_or, set, get_or-eq_default}
use lib.Seq.{get_or-take}
use Rattle.finite.specs.Lists.{mem, tabulate}
use Rattle.finite.specs.Update.{replaced}
use Rattle.finite.proofs.Members.{mem_append}
use Rattle.finite.proofs.Replaced.{replaced_none, replaced_set, replaced_where}
use Rattle.finite.proofs.Tabulate.{map_tabulate}
use Rattle.kernels.specs.Kernels.{kernel_word}
use Rattle.plan.specs.Layout.{plan_words, kernel_of, constant_of, kernel_index, constant_index}
use Rattle.plan.specs.Sizes.{first_held}
use Rattle.plan.specs.Code.{code_kind, code_subject}
use Rattle.graph.specs.Answers.{plan_body}
use Rattle.steps.specs.Answers.{Left}
use Rattle.prepared.specs.Tables.{first_read, code_in, place_count, place_in, places_in}
use Rattle.prepared.specs.Steps.{word_in, started_in}
use Rattle.engine.specs.Usable.{Row}

module _ (tables : List ℕ) (first a : ℕ) where
  -- place k, read at its index
  pub place_read : (k x : ℕ) → x ≡ get_or tables (first + 9 * a + k) 0 → x ≡ place_in tables first a k
  place_read k x e = let i : first + 9 * a + k ≡ first + (9 * a + k) = omega arith in e ∙ ap (λ (j : ℕ). get_or tables j 0) i

  pub place_small : Row tables first a → (k x : ℕ) → k < place_count tables first a → x ≡ get_or tables (first + 9 * a + k) 0 → x < first_held
  place_small R k x l e = omega (arith, R.below k l, place_read k x e)

  -- the words of the places, gathered
  pub words_gathered : (s : ℕ → ℕ) (k : ℕ) (ws : List ℕ) → ws ≡ tabulate k (λ j. s (place_in tables first a j)) → k ≡ place_count tables first a →
      ws ≡ map s (places_in tables first a)
  unfolding places_in
  words_gathered s k ws h e =
      h ∙ (ap (λ (n : ℕ). tabulate n (λ j. s (place_in tables first a j))) e ∙ sym (map_tabulate s (place_count tables first a) (place_in tables first a)))

  -- a word written to the first k places: to none, to one more, and to all
  pub written_none : (v : ℕ) (xs : List ℕ) → xs ≡ replaced (λ x. mem x (tabulate 0 (place_in tables first a))) (λ x. v) xs
  unfolding tabulate
  written_none v xs = replaced_none xs v

  pub written_more : (v : ℕ) (xs ys : List ℕ) (k x : ℕ) → ys ≡ replaced (λ x. mem x (tabulate k (place_in tables first a))) (λ x. v) xs →
      x ≡ place_in tables first a k → x < length xs → set ys x v ≡ replaced (λ x. mem x (tabulate (k + 1) (place_in tables first a))) (λ x. v) xs
  unfolding tabulate mem
  written_more v xs ys k x h e l =
      ap (λ (zs : List ℕ). set zs x v) h
      ∙ (replaced_set (λ i. mem i (tabulate k (place_in tables first a))) (λ i. v) xs x v l refl
      ∙ replaced_where (λ i. eqb i x || mem i (tabulate k (place_in tables first a))) (λ i. mem i (tabulate (k + 1) (place_in tables first a))) (λ i. v) xs
      (λ i u. sym (rw (add-one k) (mem_append i (tabulate k (place_in tables first a)) (place_in tables first a k ∷ []) ∙ last (mem i (tabulate k (place_in tables first a))) (eqb i (place_in tables first a k)) (eqb i x) (ap (eqb i) e)))))
    where
      last : (s t u : Bool) → u ≡ t → (s || (t || false)) ≡ (u || s)
      last true true u e = rw e
      last true false u e = rw e
      last false true u e = rw e
      last false false u e = rw e

  pub written_done : (v : ℕ) (xs ys : List ℕ) (k : ℕ) → ys ≡ replaced (λ x. mem x (tabulate k (place_in tables first a))) (λ x. v) xs →
      k ≡ place_count tables first a → ys ≡ replaced (λ x. mem x (places_in tables first a)) (λ x. v) xs
  unfolding places_in
  written_done v xs ys k h e = h ∙ ap (λ (n : ℕ). replaced (λ x. mem x (tabulate n (place_in tables first a))) (λ x. v) xs) e

-- the word of an item with this code: of a task, and of another
module _ (plan : List ℕ) (code r : ℕ) (ws : List ℕ) where
  pub word_task : (i : ℕ) → code_kind code ≡ 0 → i ≡ code_subject code → i < 128 → r ≡ kernel_word (kernel_of plan i) (constant_of plan i) ws →
      r ≡ cond (eqb (code_kind code) 0) ((plan_body plan).compute (code_subject code) ws) (get_or ws 0 0)
  word_task i z e l h =
      h
      ∙ (ap₂ (λ (k c : ℕ). kernel_word k c ws) (sym (get_or-take plan_words plan (kernel_index i) 0 (omega arith))) (sym (get_or-take plan_words plan (constant_index i) 0 (omega arith)))
      ∙ (ap (λ (j : ℕ). (plan_body plan).compute j ws) e
      ∙ ap (λ (t : Bool). cond t ((plan_body plan).compute (code_subject code) ws) (get_or ws 0 0)) (sym (eq-eqb (code_kind code) 0 z))))

  pub word_other : (code_kind code ≡ 0 → ⊥) → r ≡ get_or ws 0 0 → r ≡ cond (eqb (code_kind code) 0) ((plan_body plan).compute (code_subject code) ws) (get_or ws 0 0)
  word_other z h = h ∙ ap (λ (t : Bool). cond t ((plan_body plan).compute (code_subject code) ws) (get_or ws 0 0)) (sym (ne_eqb (code_kind code) 0 z))

  pub word_empty : (code_kind code ≡ 0 → ⊥) → r ≡ 0 → length ws ≡ 0 → r ≡ cond (eqb (code_kind code) 0) ((plan_body plan).compute (code_subject code) ws) (get_or ws 0 0)
  word_empty z h e = word_other z (h ∙ sym (get_or-eq_default ws 0 (omega arith)))

-- the word of an item that has this code and reads the words ws, and the item started
module _ (plan tables counts values : List ℕ) (a word : ℕ) where
  pub word_by_lem : (code : ℕ) (ws : List ℕ) → code ≡ code_in tables a → ws ≡ map (λ x. get_or values x 0) (places_in tables first_read a) →
      word ≡ cond (eqb (code_kind code) 0) ((plan_body plan).compute (code_subject code) ws) (get_or ws 0 0) → word ≡ word_in plan tables counts values a
  unfolding word_in
  word_by_lem code ws e f h = h ∙ rw (e, f)

  pub started_by : (counts' values' : List ℕ) → word ≡ word_in plan tables counts values a → counts' ≡ set counts a (suc (get_or counts a 0)) →
      values' ≡ set values (first_held + a) word →
      ◌≡◌ {A = Left} (record { refusal = 0; word = word; counts = counts'; values = values' }) (started_in plan tables counts values a)
  unfolding started_in
  started_by counts' values' w c v = rw (c, v) (ap (λ (x : ℕ). record { refusal = 0; word = x; counts = set counts a (suc (get_or counts a 0)); values = set values (first_held + a) x }) w)
