-- The lines of a journal one after another: the check of what follows is the check of the whole.
use Prim.Native.Nat.{ℕ, suc, ◌+◌, ◌-◌, ◌≤◌, ◌<◌}
use mathlib.Core.Path.{◌≡◌, refl, sym, ◌∙◌, ap, subst}
use mathlib.Core.Bool.{Bool, true, false, cond}
use mathlib.Core.List.{List, ◌∷◌, ◌++◌, append-nil}
use mathlib.Core.Option.{Option, none, some}
use native.Mathlib.Numerals.{add-one}
use native.Mathlib.Omega.{arith}
use borrow.Author.Tests.{ne_eqb}
use lib.Dec.{eqb}
use lib.ListN.{length, get_or, take, drop, length-drop, drop_of_length-le}
use Rattle.finite.specs.Below.{all_below}
use Rattle.body.specs.Items.{item_passes}
use Rattle.plan.specs.Layout.{plan_words, body_of}
use Rattle.plan.specs.Sizes.{first_finished}
use Rattle.plan.specs.Form.{in_form}
use Rattle.text.specs.Records.{split, line_at}
use Rattle.text.proofs.SplitLaws.{split_cons}
use Rattle.text.proofs.LineLaws.{line_found, line_none}
use Rattle.graph.specs.declared.Number.{Number}
use Rattle.graph.specs.Table.{Graph}
use Rattle.graph.specs.Answers.{plan_body}
use Rattle.steps.specs.State.{state_of}
use Rattle.steps.specs.Answers.{Left, is_complete}
use Rattle.steps.specs.Calls.{Lent, lent}
use Rattle.prepared.specs.Tables.{prepared_words, tables_of}
use Rattle.prepared.specs.Calls.{call_in}
use Rattle.prepared.specs.Laws.{Prepared}
use Rattle.prepared.proofs.Preparing.{prepares}
use Rattle.doors.proofs.Counting.{complete_is}
use Rattle.journal.specs.Lines.{Step, step_of}
use Rattle.journal.specs.Checking.{passed, stopped, holds, check_line, check_lines, check_from, told_check}
use Rattle.checker.specs.Tried.{Lined}

-- a line by what it does: refused, and it goes no further; or the next go on from what it leaves
module _ (P T : List ℕ) (next : Lent → Left) (s : Lent) (n : ℕ) (r : ℕ) (t : Lent) where
  line_refused : (o : Option Step) → Lined P T s o r t → (r ≡ 0 → ⊥) → stopped t r n ≡ check_line (call_in P T) next s n o
  line_refused none L h = rw (L.leaves, L.refusal)
  line_refused (some e) L h = go (holds (call_in P T) s e) refl
    where
      go : (b : Bool) → holds (call_in P T) s e ≡ b → stopped t r n ≡ check_line (call_in P T) next s n (some e)
      go true p = absurd (h (L.refusal ∙ rw p))
      go false p = let q : r ≡ 21 = L.refusal ∙ rw p in let u : t ≡ s = L.leaves ∙ rw p in rw (p, q, u)

  line_held : (o : Option Step) → Lined P T s o r t → r ≡ 0 → next t ≡ check_line (call_in P T) next s n o
  line_held none L z = absurd (omega (arith, L.refusal))
  line_held (some e) L z = go (holds (call_in P T) s e) refl
    where
      go : (b : Bool) → holds (call_in P T) s e ≡ b → next t ≡ check_line (call_in P T) next s n (some e)
      go true p = rw p (ap next (L.leaves ∙ rw p))
      go false p = let q : r ≡ 21 = L.refusal ∙ rw p in absurd (omega arith)

module _ (P T journal : List ℕ) (s₀ : Lent) where
  -- after `held` lines, that end at `at`, in the state s
  abbrev pub Reached : Lent → ℕ → ℕ → Type 0
  Reached s at held = check_lines (call_in P T) P s (held + 1) (split 10 (drop at journal)) ≡ check_from (call_in P T) P s₀ journal

  module _ (s : Lent) (at held : ℕ) (R : Reached s at held) where
    module _ (l : List ℕ) (is : l ≡ line_at journal at) where
      -- no line feed follows
      pub lines_unended : at < length journal → length l ≡ 0 → (q : Number) → q ≡ record { refusal = 20; number = held + 1 } →
          told_check q s.counts s.values ≡ check_from (call_in P T) P s₀ journal
      unfolding check_lines
      lines_unended h z q e =
          let k : length (drop at journal) ≡ 0 → ⊥ = λ e. omega (arith, length-drop at journal) in
          ap (λ (x : Number). told_check x s.counts s.values) e
          ∙ sym (ap (check_lines (call_in P T) P s (held + 1)) (line_none journal at l is z) ∙ rw (ne_eqb (length (drop at journal)) 0 k)) ∙ R

      module _ (size : 1 ≤ length l) where
        found : check_line (call_in P T) (λ t. check_lines (call_in P T) P t (suc (held + 1)) (split 10 (drop (at + length l) journal))) s (held + 1) (step_of (take (length l - 1) l))
            ≡ check_from (call_in P T) P s₀ journal
        unfolding check_lines
        found =
            let p = split_cons 10 (drop (at + length l) journal) in
            subst (λ (x : List (List ℕ)).
            check_line (call_in P T) (λ t. check_lines (call_in P T) P t (suc (held + 1)) x) s (held + 1) (step_of (take (length l - 1) l))
            ≡ check_lines (call_in P T) P s (held + 1) (take (length l - 1) l ∷ x)) (sym p.2) refl
            ∙ (ap (check_lines (call_in P T) P s (held + 1)) (sym (line_found journal at l is size).0) ∙ R)

        module _ (o : Option Step) (r : ℕ) (t : Lent) (said : o ≡ step_of (take (length l - 1) l)) (L : Lined P T s o r t) where
          -- the check of the lines behind this one
          abbrev rest : Lent → Left
          rest t = check_lines (call_in P T) P t (suc (held + 1)) (split 10 (drop (at + length l) journal))

          lined : Lined P T s (step_of (take (length l - 1) l)) r t
          lined = subst (λ (x : Option Step). Lined P T s x r t) said L

          pub lines_stop : (r ≡ 0 → ⊥) → (q : Number) → q ≡ record { refusal = r; number = held + 1 } → told_check q t.counts t.values ≡ check_from (call_in P T) P s₀ journal
          lines_stop h q e = ap (λ (x : Number). told_check x t.counts t.values) e ∙ line_refused P T rest s (held + 1) r t (step_of (take (length l - 1) l)) lined h ∙ found

          pub lines_more : r ≡ 0 → Reached t (at + length l) (held + 1)
          lines_more z = rw (add-one (held + 1)) (line_held P T rest s (held + 1) r t (step_of (take (length l - 1) l)) lined z ∙ found)

    -- every line held
    pub lines_over : length journal ≤ at → passed P s ≡ check_from (call_in P T) P s₀ journal
    unfolding check_lines
    lines_over h = sym (ap (λ (x : List ℕ). check_lines (call_in P T) P s (held + 1) (split 10 x)) (drop_of_length-le journal h)) ∙ R

  -- the plan has these items, and whether they are done is told
  pub lines_done : (C W : List ℕ) (at held : ℕ) → Reached (lent C W) at held → length journal ≤ at →
      (w codes : List ℕ) (n : ℕ) → Graph w codes n → w ≡ take plan_words P → (b : Bool) →
      b ≡ all_below n (λ a. eqb (get_or C (first_finished + a) 0) (item_passes (body_of w) a)) → (x : ℕ) → x ≡ cond b 1 0 →
      ◌≡◌ {A = Left} (record { refusal = 0; word = x; counts = C; values = W }) (check_from (call_in P T) P s₀ journal)
  lines_done C W at held R h w codes n G p b e x f =
      ap (λ (y : ℕ). record { refusal = 0; word = y; counts = C; values = W })
      (f ∙ ap (λ (y : Bool). cond y 1 0) (e ∙ (complete_is G C W ∙ ap (λ (v : List ℕ). is_complete (body_of v) (state_of C W)) p)))
      ∙ lines_over (lent C W) at held R h

-- by tables just as long as the plan's
pub lines_prepared : (P C W journal tables zeros w : List ℕ) (r : Left) → r ≡ check_from (call_in P tables) P (lent C W) journal → w ≡ take plan_words P →
    tables ≡ tables_of (body_of w) ++ drop prepared_words zeros → length zeros ≤ prepared_words → r ≡ check_from (call_in P (tables_of (plan_body P))) P (lent C W) journal
lines_prepared P C W journal tables zeros w r e p t l =
    e
    ∙ ap (λ (x : List ℕ). check_from (call_in P x) P (lent C W) journal)
    (t ∙ (ap (λ (x : List ℕ). tables_of (body_of w) ++ x) (drop_of_length-le zeros l) ∙ (append-nil (tables_of (body_of w)) ∙ ap (λ (v : List ℕ). tables_of (body_of v)) p)))

module _ (P w codes : List ℕ) (n : ℕ) (G : Graph w codes n) (p : w ≡ take plan_words P) where
  pub lines_own : (tables zeros : List ℕ) → tables ≡ tables_of (body_of w) ++ drop prepared_words zeros → Prepared P tables
  lines_own tables zeros t =
      rw (t, p) (prepares P (drop prepared_words zeros) (subst (λ (v : List ℕ). in_form v ≡ true) p G.formed))
