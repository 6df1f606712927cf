-- A journal line by line: behind steps that hold the check goes on from their state; and every
-- journal is the text of steps that hold, or such a text with a bad line behind it.
use Prim.Native.Nat.{ℕ, suc, ◌+◌, ◌≤◌}
use mathlib.Core.Path.{◌≡◌, refl, sym, ◌∙◌, ap}
use mathlib.Core.Bool.{Bool, true, false, cond}
use mathlib.Core.List.{List, [], ◌∷◌, ◌++◌, append_assoc}
use mathlib.Core.Option.{Option, none, some}
use native.Mathlib.Omega.{arith}
use borrow.Author.Tests.{eqb-true, eqb-false, ne_eqb}
use lib.Dec.{eqb}
use lib.ListN.{length}
use Rattle.finite.proofs.Tests.{not_both, false_of}
use Rattle.text.specs.Records.{split}
use Rattle.text.proofs.SplitLaws.{split_cons}
use Rattle.text.proofs.Fields.{join, join_split}
use Rattle.plan.specs.Layout.{plan_words}
use Rattle.graph.specs.Answers.{formed_plan}
use Rattle.steps.specs.Answers.{Left}
use Rattle.steps.specs.Calls.{Lent, call, play}
use Rattle.journal.specs.Lines.{Step, step_of}
use Rattle.journal.specs.Checking.{call_of, holds, after, passed, stopped, check_line, check_lines}
use Rattle.journal.specs.Written.{line_of, journal_of}
use Rattle.journal.specs.Laws.{Words, later, Holds, play_steps, Bad, unended, unreadable, untrue}
use Rattle.journal.proofs.Lines.{step_back, line_first, line_back}
use Rattle.journal.proofs.Stepping.{holds_test, Each, Sound, call_sound, step_fits}
use Rattle.journal.proofs.Pieces.{First, first_piece}

module _ (plan : List ℕ) where
  -- a piece that a line feed ends
  check_line_lem : (s : Lent) (n : ℕ) (l t : List ℕ) → check_lines (call plan) plan s n (l ∷ split 10 t) ≡ check_line (call plan) (λ u. check_lines (call plan) plan u (suc n) (split 10 t)) s n (step_of l)
  unfolding check_lines
  check_line_lem s n l t = let (f, fs, e) = split_cons 10 t in rw e

  -- a line more
  check_more : (s : Lent) (n : ℕ) (l t : List ℕ) (e : Step) → step_of l ≡ some e → Holds plan s e →
      check_lines (call plan) plan s n (l ∷ split 10 t) ≡ check_lines (call plan) plan (after (call plan) s e) (suc n) (split 10 t)
  check_more s n l t e p h = check_line_lem s n l t ∙ rw (p, (holds_test plan s e).1 h)

  check_untrue : (s : Lent) (n : ℕ) (l t : List ℕ) (e : Step) → step_of l ≡ some e → (Holds plan s e → ⊥) →
      check_lines (call plan) plan s n (l ∷ split 10 t) ≡ stopped s 21 n
  check_untrue s n l t e p h = check_line_lem s n l t ∙ rw (p, false_of (holds (call plan) s e) (λ k. h ((holds_test plan s e).0 k)))

  check_unreadable : (s : Lent) (n : ℕ) (l t : List ℕ) → step_of l ≡ none → check_lines (call plan) plan s n (l ∷ split 10 t) ≡ stopped s 20 n
  check_unreadable s n l t p = check_line_lem s n l t ∙ rw p

  -- the text behind the last line feed
  pub check_end : (s : Lent) (n : ℕ) (l : List ℕ) → l ≡ [] → check_lines (call plan) plan s n (l ∷ []) ≡ passed plan s
  unfolding check_lines
  check_end s n l e = rw e

  check_unended : (s : Lent) (n : ℕ) (l : List ℕ) → (l ≡ [] → ⊥) → check_lines (call plan) plan s n (l ∷ []) ≡ stopped s 20 n
  unfolding check_lines
  check_unended s n [] h = absurd (h refl)
  check_unended s n (c ∷ l) h = rw (ne_eqb (length (c ∷ l)) 0 (λ z. omega arith))

  -- a bad line stops the check
  pub bad_stops : (s : Lent) (n k : ℕ) (text : List ℕ) → Bad plan s text k → check_lines (call plan) plan s n (split 10 text) ≡ stopped s k n
  bad_stops s n k text (unended e h) = rw e (check_unended s n text h)
  bad_stops s n k text (unreadable l m ls e h) =
      let f = first_piece 10 text l m ls e in
      ap (check_lines (call plan) plan s n) (e ∙ ap (λ r. l ∷ r) (sym f.behind)) ∙ check_unreadable s n l f.rest h
  bad_stops s n k text (untrue l m ls d e h g) =
      let f = first_piece 10 text l m ls e in
      ap (check_lines (call plan) plan s n) (e ∙ ap (λ r. l ∷ r) (sym f.behind)) ∙ check_untrue s n l f.rest d h g

  pub bad_number : (s : Lent) (text : List ℕ) (k : ℕ) → Bad plan s text k → k ≡ 0 → ⊥
  bad_number s text k (unended e h) z = omega arith
  bad_number s text k (unreadable l m ls e h) z = omega arith
  bad_number s text k (untrue l m ls d e h g) z = omega arith

  -- lines counted from k + n on
  pub check_later : (ls : List (List ℕ)) (s : Lent) (k n : ℕ) → check_lines (call plan) plan s (k + n) ls ≡ later k (check_lines (call plan) plan s n ls)
  unfolding check_lines
  check_later [] s k n = refl
  check_later (l ∷ []) s k n = go (eqb (length l) 0)
    where
      go : (t : Bool) → cond t (passed plan s) (stopped s 20 (k + n)) ≡ later k (cond t (passed plan s) (stopped s 20 n))
      go true = refl
      go false = refl
  check_later (l ∷ m ∷ ls) s k n = go (step_of l) (λ u. check_later (m ∷ ls) u k (suc n))
    where
      by : (t : Bool) (x y : Left) → x ≡ later k y → cond t x (stopped s 21 (k + n)) ≡ later k (cond t y (stopped s 21 n))
      by true x y e = e
      by false x y e = refl

      go : (o : Option Step) → ((u : Lent) → check_lines (call plan) plan u (k + suc n) (m ∷ ls) ≡ later k (check_lines (call plan) plan u (suc n) (m ∷ ls))) →
          check_line (call plan) (λ u. check_lines (call plan) plan u (suc (k + n)) (m ∷ ls)) s (k + n) o ≡ later k (check_line (call plan) (λ u. check_lines (call plan) plan u (suc n) (m ∷ ls)) s n o)
      go none ih = refl
      go (some e) ih =
          let q : k + suc n ≡ suc (k + n) = omega arith in
          by (holds (call plan) s e) _ _ (ap (λ (x : ℕ). check_lines (call plan) plan (after (call plan) s e) x (m ∷ ls)) (sym q) ∙ ih (after (call plan) s e))

  -- what became of a journal from line n on
  pub data Judged (s : Lent) (n : ℕ) (text : List ℕ) (r : Left) : Type 0 where
    held : (l : List Step) → text ≡ journal_of l → Each plan s l → r ≡ passed plan (play_steps plan s l) → Judged s n text r
    broke : (l : List Step) (rest : List ℕ) (k : ℕ) → text ≡ journal_of l ++ rest → Each plan s l → Bad plan (play_steps plan s l) rest k →
        r ≡ stopped (play_steps plan s l) k (n + length l) → Judged s n text r

  -- one line before it
  judged_more : (s : Lent) (n : ℕ) (e : Step) (rest : List ℕ) (r : Left) → Holds plan s e → Judged (after (call plan) s e) (suc n) rest r → Judged s n (line_of e ++ (10 ∷ rest)) r
  unfolding Each play
  judged_more s n e rest r h (held l p q k) = held (e ∷ l) (ap (λ t. line_of e ++ (10 ∷ t)) p) (h, q) k
  judged_more s n e rest r h (broke l t k p q b a) =
      let c : suc n + length l ≡ n + suc (length l) = omega arith in
      broke (e ∷ l) t k (ap (λ u. line_of e ++ (10 ∷ u)) p ∙ sym (append_assoc (line_of e) (10 ∷ journal_of l) t)) (h, q) b
      (a ∙ ap (stopped (play_steps plan (after (call plan) s e) l) k) c)

  now_bad : (s : Lent) (n k : ℕ) (text : List ℕ) (r : Left) → Bad plan s text k → r ≡ stopped s k n → Judged s n text r
  unfolding Each play
  now_bad s n k text r b e = let z : n ≡ n + 0 = omega arith in broke [] text k refl tt b (e ∙ ap (stopped s k) z)

  now_held : (s : Lent) (n : ℕ) (text : List ℕ) (r : Left) → text ≡ [] → r ≡ passed plan s → Judged s n text r
  unfolding Each play
  now_held s n text r u v = held [] u tt v

  dec_holds : (s : Lent) (d : Step) → Dec (Holds plan s d)
  dec_holds s d = by (holds (call plan) s d) refl
    where
      by : (t : Bool) → holds (call plan) s d ≡ t → Dec (Holds plan s d)
      by true q = yes ((holds_test plan s d).0 q)
      by false q = no (λ h. not_both ((holds_test plan s d).1 h) q)

  pub judged : (ls : List (List ℕ)) (s : Lent) (n : ℕ) (text : List ℕ) → split 10 text ≡ ls → Judged s n text (check_lines (call plan) plan s n ls)
  judged [] s n text e = let (f, fs, d) = split_cons 10 text in let z : ◌≡◌ {A = ℕ} 0 1 = cc in absurd (omega arith)
  judged (l ∷ []) s n text e = go (eqb (length l) 0) refl
    where
      whole : text ≡ l
      whole = sym (join_split 10 text) ∙ ap (join 10) e

      empty : (l : List ℕ) → length l ≡ 0 → l ≡ []
      empty [] h = refl
      empty (c ∷ l) h = absurd (omega arith)

      go : (t : Bool) → eqb (length l) 0 ≡ t → Judged s n text (check_lines (call plan) plan s n (l ∷ []))
      go true p =
          let q = empty l (eqb-true (length l) 0 p) in
          now_held s n text _ (whole ∙ q) (check_end s n l q)
      go false p =
          let q : l ≡ [] → ⊥ = λ z. eqb-false (length l) 0 p (ap length z) in
          now_bad s n 20 text _ (unended (e ∙ ap (λ r. r ∷ []) (sym whole)) (λ z. q (sym whole ∙ z))) (check_unended s n l q)
  judged (l ∷ m ∷ ls) s n text e = go (step_of l) refl (λ u. judged (m ∷ ls) u (suc n))
    where
      f : First 10 text l (m ∷ ls)
      f = first_piece 10 text l m ls e

      again : l ∷ m ∷ ls ≡ l ∷ split 10 f.rest
      again = ap (λ r. l ∷ r) (sym f.behind)

      go : (o : Option Step) → step_of l ≡ o → ((u : Lent) (t : List ℕ) → split 10 t ≡ m ∷ ls → Judged u (suc n) t (check_lines (call plan) plan u (suc n) (m ∷ ls))) →
          Judged s n text (check_lines (call plan) plan s n (l ∷ m ∷ ls))
      go none p ih = now_bad s n 20 text _ (unreadable l m ls e p) (ap (check_lines (call plan) plan s n) again ∙ check_unreadable s n l f.rest p)
      go (some d) p ih =
          elim (dec_holds s d) [
            | yes h ↦
                rw (f.parts ∙ ap (λ t. t ++ (10 ∷ f.rest)) (line_back l d p).0, again, check_more s n l f.rest d p h)
                (judged_more s n d f.rest (check_lines (call plan) plan (after (call plan) s d) (suc n) (split 10 f.rest)) h (rw f.behind (ih (after (call plan) s d) f.rest f.behind)))
            | no h ↦ now_bad s n 21 text _ (untrue l m ls d e p h) (ap (check_lines (call plan) plan s n) again ∙ check_untrue s n l f.rest d p h)
          ]

  -- steps that hold are gone through
  module _ (long : plan_words ≤ length plan) (formed : formed_plan plan ≡ true) (plan_words_lem : Words plan) where
    pub check_steps : (l : List Step) (s : Lent) (n : ℕ) (rest : List ℕ) → Sound plan long formed s → Each plan s l →
        check_lines (call plan) plan s n (split 10 (journal_of l ++ rest)) ≡ check_lines (call plan) plan (play_steps plan s l) (n + length l) (split 10 rest)
    unfolding Each play
    check_steps [] s n rest f h = let z : n ≡ n + 0 = omega arith in ap (λ (x : ℕ). check_lines (call plan) plan s x (split 10 rest)) z
    check_steps (e ∷ l) s n rest f h =
        let fits = step_fits plan long formed plan_words_lem s e f h.0 in
        let c : suc n + length l ≡ n + suc (length l) = omega arith in
        let p : split 10 (journal_of (e ∷ l) ++ rest) ≡ line_of e ∷ split 10 (journal_of l ++ rest) =
        ap (split 10) (append_assoc (line_of e) (10 ∷ journal_of l) rest) ∙ line_first e (journal_of l ++ rest) fits in
        ap (check_lines (call plan) plan s n) p
        ∙ (check_more s n (line_of e) (journal_of l ++ rest) e (step_back e fits) h.0
        ∙ (check_steps l (after (call plan) s e) (suc n) rest (call_sound plan long formed plan_words_lem s (call_of e) f) h.1
        ∙ ap (λ (x : ℕ). check_lines (call plan) plan (play_steps plan (after (call plan) s e) l) x (split 10 rest)) c))
