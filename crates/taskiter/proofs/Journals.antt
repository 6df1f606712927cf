-- What C gets from a check of a journal: the numbers that it is refused with, and from an opening
-- on its place among the lists of calls.
use Prim.Native.Nat.{ℕ, ◌≤◌, ◌<◌}
use mathlib.Core.Path.{◌≡◌, refl, sym, ◌∙◌, ap, subst}
use mathlib.Core.Bool.{Bool, true, false, ◌&&◌}
use mathlib.Core.Logic.Iff
use mathlib.Core.Logic.{◌↔◌, ⊎_elim}
use mathlib.Core.List.{List, [], ◌∷◌, ◌++◌, map}
use native.Mathlib.Decide.{ℕ_discrete}
use native.Mathlib.Omega.{arith}
use lib.ListN.{get_or}
use Rattle.finite.proofs.Tests.{true_or_false, false_of, not_both}
use Rattle.body.specs.Body.{Body}
use Rattle.body.specs.Loop.{loop_word}
use Rattle.body.specs.Items.{writer, item_at}
use Rattle.plan.specs.Limits.{max_word}
use Rattle.graph.specs.Answers.{refusal_of, formed_plan}
use Rattle.steps.specs.Answers.{Left, long_slices, call_refusal, refused, open_of}
use Rattle.steps.specs.Calls.{Call, start, Lent, lent_by, call, play}
use Rattle.steps.proofs.Accepting.{formed_state, short_slices, open_accepted}
use Rattle.steps.proofs.Refusals.{is_short, none_short, not_short, open_11, open_12}
use Rattle.steps.proofs.Playing.{play_append}
use Rattle.journal.specs.Lines.{Step, start as start_line}
use Rattle.journal.specs.Checking.{call_of as call_said, check_of, check_more_of}
use Rattle.journal.specs.Laws.{Words, Holds, play_steps, Kept as StepsKept, Checks, Completes}
use Rattle.journal.proofs.Reaching.{Reaches, check_reaches, more_reaches}
use Rattle.journal.proofs.Answers.{Answered, answered_apart, open_answered, more_answered}
use Rattle.journal.proofs.Theorems.{laws}
use Rattle.taskiter.specs.Demands.{Short, CheckRefused, Ready, AllFresh, starts_of, call_after, InAnyOrder, JournalGiven}
use Rattle.taskiter.proofs.Readiness.{ready_clear, clear_ready, clear_formed, formed_clear}
use Rattle.taskiter.proofs.Giving.{refusal_tests}

-- an answer that is the refusal n, where that is not 0, and else goes by the journal
module _ (plan counts values : List ℕ) (n : ℕ) (r : Left) (barred : (n ≡ 0 → ⊥) → r ≡ refused plan counts values n) (free : n ≡ 0 → Answered r) where
  number_is : (m : ℕ) → 0 < m → m < 20 → (r.refusal ≡ m) ↔ (n ≡ m)
  number_is m l k = (
    λ e.
        elim (ℕ_discrete n 0) [
          | yes z ↦ absurd (answered_apart r (free z) m l k e)
          | no f ↦ sym (ap (λ (x : Left). x.refusal) (barred f)) ∙ e
        ],
    λ e. ap (λ (x : Left). x.refusal) (barred (λ z. omega arith)) ∙ e,
  )

  number_11 : (r.refusal ≡ 11) ↔ (n ≡ 11)
  number_11 = number_is 11 (omega arith) (omega arith)

  number_12 : (r.refusal ≡ 12) ↔ (n ≡ 12)
  number_12 = number_is 12 (omega arith) (omega arith)

  refused_by : ((n ≡ 11) ↔ Short plan counts values) → ((n ≡ 11 → ⊥) → (n ≡ 12 → ⊥) → n ≡ 0) → CheckRefused plan counts values r
  refused_by short none =
      record {
        short = Iff.trans number_11 short;
        changes_nothing = λ h.
            let f : n ≡ 0 → ⊥ = λ z. ⊎_elim (λ e. let k = number_11.0 e in omega arith) (λ e. let k = number_12.0 e in omega arith) h in
            let e = barred f in
            (ap (λ (x : Left). x.word) e, ap (λ (x : Left). x.counts) e, ap (λ (x : Left). x.values) e);
        else = λ p q. free (none (λ e. p (number_11.1 e)) (λ e. q (number_12.1 e)));
      }

module _ (plan counts values : List ℕ) where
  -- the number of an opening

  open_none : ((open_of plan counts values).refusal ≡ 11 → ⊥) → ((open_of plan counts values).refusal ≡ 12 → ⊥) → (open_of plan counts values).refusal ≡ 0
  open_none p q =
      let l = none_short plan counts values (λ s. p ((open_11 plan counts values).1 s)) in
      (open_accepted plan counts values).1 (l, ⊎_elim (λ f. f) (λ f. absurd (q ((open_12 plan counts values).1 (l, f)))) (true_or_false (formed_plan plan)))

  -- the number of a check that goes on

  abbrev formed : Bool
  formed = formed_plan plan && formed_state plan counts values

  more_11 : (call_refusal plan counts values true ≡ 11) ↔ Short plan counts values
  more_11 =
      let t = (refusal_tests (long_slices plan counts values) formed true (call_refusal plan counts values true) refl).0 in
      (λ e. is_short plan counts values (t.0 e), λ s. t.1 (short_slices plan counts values s))

  more_12 : ((i : ℕ) → get_or plan i 0 ≤ max_word) → (call_refusal plan counts values true ≡ 12) ↔ ((Short plan counts values → ⊥) × (Ready plan counts values → ⊥))
  more_12 words =
      let t = (refusal_tests (long_slices plan counts values) formed true (call_refusal plan counts values true) refl).1 in (
        λ e. let h = t.0 e in (not_short plan counts values h.0, λ R. not_both (clear_formed plan counts values (ready_clear plan counts values R)) h.1),
        λ h.
            let l = none_short plan counts values h.0 in
            t.1 (l, false_of formed (λ f. h.1 (clear_ready plan counts values words (formed_clear plan counts values l f)))),
      )

  more_none : (call_refusal plan counts values true ≡ 11 → ⊥) → (call_refusal plan counts values true ≡ 12 → ⊥) → call_refusal plan counts values true ≡ 0
  more_none = go (long_slices plan counts values) formed
    where
      go : (x y : Bool) → (refusal_of x y true ≡ 11 → ⊥) → (refusal_of x y true ≡ 12 → ⊥) → refusal_of x y true ≡ 0
      go true true p q = refl
      go true false p q = absurd (q refl)
      go false y p q = absurd (p refl)

  module _ (journal : List ℕ) where
    pub checking : CheckRefused plan counts values (check_of plan counts values journal)
    checking =
        refused_by plan counts values (open_of plan counts values).refusal (check_of plan counts values journal)
        (laws.closed plan counts values journal) (open_answered plan counts values journal) (open_11 plan counts values) open_none

    pub checking_more : CheckRefused plan counts values (check_more_of plan counts values journal)
    checking_more =
        refused_by plan counts values (call_refusal plan counts values true) (check_more_of plan counts values journal)
        (laws.barred plan counts values journal) (more_answered plan counts values journal) more_11 more_none

    -- 12 is given where the opening gives it
    pub check_12 : ((check_of plan counts values journal).refusal ≡ 12) ↔ ((open_of plan counts values).refusal ≡ 12)
    check_12 =
        number_12 plan counts values (open_of plan counts values).refusal (check_of plan counts values journal)
        (laws.closed plan counts values journal) (open_answered plan counts values journal)

    pub check_more_12 : ((i : ℕ) → get_or plan i 0 ≤ max_word) → ((check_more_of plan counts values journal).refusal ≡ 12) ↔ ((Short plan counts values → ⊥) × (Ready plan counts values → ⊥))
    check_more_12 words =
        Iff.trans
        (number_12 plan counts values (call_refusal plan counts values true) (check_more_of plan counts values journal)
        (laws.barred plan counts values journal) (more_answered plan counts values journal))
        (more_12 words)

-- a check after the list `before`, where all that is said of lists of calls holds from the state s
-- on
module _ (B : Body) (plan : List ℕ) (s : Lent) (order : (l : List Call) → InAnyOrder B plan s l) (before : List Call) where
  abbrev t : Lent
  t = play plan s before

  -- its steps are calls after those before
  behind : (k : List Step) → play plan s (before ++ map call_said k) ≡ play_steps plan t k
  behind k = play_append plan before (map call_said k) s

  held_words : (k m : List Step) (a v : ℕ) → StepsKept plan t (k ++ (start_line a v ∷ m)) → v ≡ loop_word B (starts_of B plan s a (before ++ map call_said k)) (writer (item_at B a))
  held_words k m a v h =
      let l = before ++ map call_said k in
      let u : Holds plan (play_steps plan t k) (start_line a v) = h k m (start_line a v) refl in
      let p : call_after B plan s l (start a) ≡ call plan (play_steps plan t k) (start a) = ap (λ (x : Lent). call plan x (start a)) (behind k) in
      sym u.1
      ∙ (sym (ap (λ (x : Left). x.word) p)
      ∙ ((order (l ++ (start a ∷ []))).starts l [] a refl (ap (λ (x : Left). x.refusal) p ∙ u.0)).2)

  journal_given : (check : List ℕ → Left) → Checks plan t check × Completes plan s before check →
      ((journal : List ℕ) → Reaches plan t journal (check journal)) → JournalGiven B plan s before check
  journal_given check c reaches =
      record {
        checks = c.0;
        completes = c.1;
        state = reaches;
        fresh = λ journal.
            let (l, rest, p, k, e) = reaches journal in
            subst (λ (x : Lent). AllFresh B x.counts x.values) (behind l ∙ sym e) (order (before ++ map call_said l)).numbers;
        words = held_words;
      }

-- from an accepted opening
module _ (B : Body) (plan counts values : List ℕ) (z : (open_of plan counts values).refusal ≡ 0)
    (order : (l : List Call) → InAnyOrder B plan (lent_by (open_of plan counts values)) l) (plan_words_lem : Words plan) (value-words : Words values) where
  pub check_given : JournalGiven B plan (lent_by (open_of plan counts values)) [] (check_of plan counts values)
  unfolding play
  check_given =
      journal_given B plan (lent_by (open_of plan counts values)) order [] (check_of plan counts values)
      (laws.opens plan counts values plan_words_lem value-words z) (check_reaches plan counts values z)

  pub more_given : (before : List Call) → let t = play plan (lent_by (open_of plan counts values)) before in
      JournalGiven B plan (lent_by (open_of plan counts values)) before (check_more_of plan t.counts t.values)
  more_given before =
      let t = play plan (lent_by (open_of plan counts values)) before in
      journal_given B plan (lent_by (open_of plan counts values)) order before (check_more_of plan t.counts t.values)
      (laws.resumes plan counts values plan_words_lem value-words z before) (more_reaches plan counts values z before)
