-- A check from a state that calls reach from an opening: `Checks` of specs/Laws.antt.
use Prim.Native.Nat.{ℕ, suc, ◌+◌, ◌≤◌}
use mathlib.Core.Path.{◌≡◌, refl, sym, ◌∙◌, ap}
use mathlib.Core.Bool.{Bool, true, false, cond}
use mathlib.Core.Logic.{inl, inr}
use mathlib.Core.List.{List, [], ◌∷◌, ◌++◌, map, append-nil, append_assoc}
use native.Mathlib.Omega.{arith}
use borrow.Author.Tests.{eqb-true}
use lib.ListN.{length}
use Rattle.text.specs.Records.{split}
use Rattle.plan.specs.Layout.{plan_words}
use Rattle.graph.specs.Answers.{formed_plan}
use Rattle.steps.specs.Answers.{Left}
use Rattle.steps.specs.Calls.{Call, start as start_call, finish as finish_call, result, is_step, Lent, lent_by, call, is_accepted, play, accepted}
use Rattle.steps.proofs.Playing.{accepted_most}
use Rattle.journal.specs.Lines.{Step}
use Rattle.journal.specs.Checking.{call_of, passed, stopped, check_lines, check_from, check_more_of}
use Rattle.journal.specs.Written.{line_of, journal_of, told_of}
use Rattle.journal.specs.Laws.{Words, feeds, Ended, later, play_steps, Bad, unended, unreadable, untrue, Stopped, Checks}
use Rattle.journal.proofs.Lines.{line_lacks}
use Rattle.journal.proofs.Stepping.{Each, kept_each, each_kept, Sound, call_sound, play_sound, step_fits}
use Rattle.journal.proofs.Pieces.{ended_pieces, ended_rest, pieces_longer, feeds_append, feeds_none}
use Rattle.journal.proofs.Judging.{Judged, held, broke, judged, check_end, bad_stops, bad_number, check_later, check_steps}
use Rattle.journal.proofs.Tables.{more_from}

-- a list whose calls are all accepted steps, call by call
module _ (plan : List ℕ) where
  all_accepted : (s : Lent) (c : Call) (l : List Call) → accepted plan is_step s (c ∷ l) ≡ suc (length l) →
      ((call plan s c).refusal ≡ 0) × (is_step c ≡ true) × (accepted plan is_step (lent_by (call plan s c)) l ≡ length l)
  unfolding accepted
  all_accepted s c l = go (is_accepted plan s c) (is_step c) refl refl (accepted_most plan is_step (lent_by (call plan s c)) l)
    where
      go : (t u : Bool) → is_accepted plan s c ≡ t → is_step c ≡ u → accepted plan is_step (lent_by (call plan s c)) l ≤ length l →
          cond t (cond u 1 0) 0 + accepted plan is_step (lent_by (call plan s c)) l ≡ suc (length l) →
          ((call plan s c).refusal ≡ 0) × (is_step c ≡ true) × (accepted plan is_step (lent_by (call plan s c)) l ≡ length l)
      go true true p q m e = (eqb-true (call plan s c).refusal 0 p, q, omega arith)
      go true false p q m e = absurd (omega arith)
      go false u p q m e = absurd (omega arith)

  -- written with the words answered they hold, and leave the same state
  told_each : (l : List Call) (s : Lent) → accepted plan is_step s l ≡ length l → Each plan s (told_of plan s l) × (play_steps plan s (told_of plan s l) ≡ play plan s l)
  unfolding told_of Each play accepted
  told_each [] s e = (tt, refl)
  told_each (start_call a ∷ l) s e =
      let h = all_accepted s (start_call a) l e in
      let i = told_each l (lent_by (call plan s (start_call a))) h.2 in
      (((h.0, refl), i.0), i.1)
  told_each (finish_call a ∷ l) s e =
      let h = all_accepted s (finish_call a) l e in
      let i = told_each l (lent_by (call plan s (finish_call a))) h.2 in
      ((h.0, i.0), i.1)
  told_each (result g ∷ l) s e =
      let h = all_accepted s (result g) l e in
      let z : true ≡ false = sym h.1 in
      let w : ◌≡◌ {A = ℕ} 0 1 = cc in
      absurd (omega arith)

module _ (plan : List ℕ) (long : plan_words ≤ length plan) (formed : formed_plan plan ≡ true) (plan_words_lem : Words plan) where
  feeds_journal : (l : List Step) (s : Lent) → Sound plan long formed s → Each plan s l → feeds (journal_of l) ≡ length l
  unfolding Each feeds
  feeds_journal [] s f h = refl
  feeds_journal (e ∷ l) s f h =
      omega (
        arith,
        feeds_append (line_of e) (10 ∷ journal_of l),
        feeds_none (line_of e) (line_lacks e (step_fits plan long formed plan_words_lem s e f h.0)),
        feeds_journal l _ (call_sound plan long formed plan_words_lem s (call_of e) f) h.1,
      )

  -- a bad line stays bad whatever follows, where a line feed ends the text
  bad_longer : (s : Lent) (text second : List ℕ) (k : ℕ) → Ended text → Bad plan s text k → Bad plan s (text ++ second) k
  bad_longer s text second k (inl e) (unended p h) = absurd (h e)
  bad_longer s text second k (inr (f, e)) (unended p h) =
      let (l, m, ls, q) = ended_pieces f in
      let w : text ∷ [] ≡ l ∷ m ∷ ls = sym p ∙ (ap (split 10) e ∙ q) in
      let z : ◌≡◌ {A = ℕ} 0 1 = cc in
      absurd (omega arith)
  bad_longer s text second k d (unreadable l m ls p h) = let q = pieces_longer text second l m ls p in unreadable l q.0 q.1 q.2 h
  bad_longer s text second k d (untrue l m ls e p h g) = let q = pieces_longer text second l m ls p in untrue l q.0 q.1 e q.2 h g

  module _ (s : Lent) (sound : Sound plan long formed s) (check : List ℕ → Left) (is : (journal : List ℕ) → check journal ≡ check_from (call plan) plan s journal) where
    all_judged : (journal : List ℕ) → Judged plan s 1 journal (check journal)
    all_judged journal = rw (is journal) (judged plan (split 10 journal) s 1 journal refl)

    pub each_passes : (l : List Step) → Each plan s l → check (journal_of l) ≡ passed plan (play_steps plan s l)
    each_passes l h =
        is (journal_of l)
        ∙ (ap (check_from (call plan) plan s) (sym (append-nil (journal_of l)))
        ∙ (check_steps plan long formed plan_words_lem l s 1 [] sound h ∙ check_end plan (play_steps plan s l) (1 + length l) [] refl))

    each_goes_on : (l : List Step) → Each plan s l → (rest : List ℕ) → check (journal_of l ++ rest) ≡ check_lines (call plan) plan (play_steps plan s l) (1 + length l) (split 10 rest)
    each_goes_on l h rest = is (journal_of l ++ rest) ∙ check_steps plan long formed plan_words_lem l s 1 rest sound h

    found : (journal : List ℕ) → (check journal).refusal ≡ 0 → (l : List Step) × (journal ≡ journal_of l) × Each plan s l
    found journal z = go (all_judged journal)
      where
        go : Judged plan s 1 journal (check journal) → (l : List Step) × (journal ≡ journal_of l) × Each plan s l
        go (held l p h q) = (l, p, h)
        go (broke l rest k p h b q) = absurd (bad_number plan (play_steps plan s l) rest k b (sym (ap (λ (r : Left). r.refusal) q) ∙ z))

    -- refused: where, and the whole answer
    broken : (journal : List ℕ) → ((check journal).refusal ≡ 0 → ⊥) →
        (t : Stopped plan s journal (check journal)) × (check journal ≡ stopped (play_steps plan s t.before) t.number (suc (length t.before)))
    broken journal n = go (all_judged journal)
      where
        go : Judged plan s 1 journal (check journal) →
            (t : Stopped plan s journal (check journal)) × (check journal ≡ stopped (play_steps plan s t.before) t.number (suc (length t.before)))
        go (held l p h q) = absurd (n (ap (λ (r : Left). r.refusal) q))
        go (broke l t k p h b q) =
            let e : 1 + length l ≡ suc (length l) = omega arith in
            let a : check journal ≡ stopped (play_steps plan s l) k (suc (length l)) = q ∙ ap (stopped (play_steps plan s l) k) e in (
              record {
                before = l;
                rest = t;
                number = k;
                parts = p;
                kept = each_kept plan l s h;
                bad = b;
                refusal = ap (λ (r : Left). r.refusal) a;
                line = ap (λ (r : Left). r.word) a;
                state = ap lent_by a;
              },
              a,
            )

    stops_at : (l : List Step) (rest : List ℕ) (n : ℕ) → Each plan s l → Bad plan (play_steps plan s l) rest n →
        check (journal_of l ++ rest) ≡ stopped (play_steps plan s l) n (suc (length l))
    stops_at l rest n h b =
        let e : 1 + length l ≡ suc (length l) = omega arith in
        each_goes_on l h rest ∙ (bad_stops plan (play_steps plan s l) (1 + length l) n rest b ∙ ap (stopped (play_steps plan s l) n) e)

    goes_on : (first second : List ℕ) → (check first).refusal ≡ 0 →
        check (first ++ second) ≡ later (feeds first) (check_more_of plan (check first).counts (check first).values second)
    goes_on first second z =
        let (l, p, h) = found first z in
        let q : check first ≡ passed plan (play_steps plan s l) = ap check p ∙ each_passes l h in
        let t = play_sound plan long formed plan_words_lem (map call_of l) s sound in
        let n : feeds first ≡ length l = ap feeds p ∙ feeds_journal l s sound h in
        let c : 1 + length l ≡ feeds first + 1 = omega arith in
        ap (λ r. check (r ++ second)) p
        ∙ (each_goes_on l h second
        ∙ (ap (λ (x : ℕ). check_lines (call plan) plan (play_steps plan s l) x (split 10 second)) c
        ∙ (check_later plan (split 10 second) (play_steps plan s l) (feeds first) 1
        ∙ ap (later (feeds first)) (sym (more_from plan long formed (play_steps plan s l) t.shown second)
        ∙ sym (ap (λ (r : Left). check_more_of plan r.counts r.values second) q)))))

    decided : (first second : List ℕ) → Ended first → ((check first).refusal ≡ 0 → ⊥) → check (first ++ second) ≡ check first
    decided first second d n =
        let (t, answer) = broken first n in
        let b = bad_longer (play_steps plan s t.before) t.rest second t.number (ended_rest (journal_of t.before) t.rest (rw t.parts at d)) t.bad in
        ap (λ r. check (r ++ second)) t.parts
        ∙ (ap check (append_assoc (journal_of t.before) t.rest second)
        ∙ (stops_at t.before (t.rest ++ second) t.number (kept_each plan t.before s t.kept) b ∙ sym answer))

    pub checks : Checks plan s check
    checks =
        record {
          accepts = λ journal. (
            λ z. let (l, p, h) = found journal z in (l, p, each_kept plan l s h),
            λ (l, p, h). ap (λ (r : Left). r.refusal) (ap check p ∙ each_passes l (kept_each plan l s h)),
          );
          leaves = λ l h. ap lent_by (each_passes l (kept_each plan l s h));
          passes = λ l e.
              let t = told_each plan l s e in
              let p = each_passes (told_of plan s l) t.0 in
              (ap (λ (r : Left). r.refusal) p, ap lent_by p ∙ t.1);
          stops = λ journal n. (broken journal n).0;
          stops_at = λ l rest n h b.
              let p = stops_at l rest n (kept_each plan l s h) b in
              (ap (λ (r : Left). r.refusal) p, ap (λ (r : Left). r.word) p, ap lent_by p);
          goes_on = goes_on;
          decided = decided;
        }
