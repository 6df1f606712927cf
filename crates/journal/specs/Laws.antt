-- What is proved of the check of journals (proofs/Theorems.antt), over `play` and `accepted` of the
-- crate steps.
use Rattle.std.specs.Prelude.{ℕ, suc, ◌+◌, ◌≤◌, ◌<◌, ◌≡◌, true, cond, ◌↔◌, ◌⊎◌, List, [], ◌∷◌, ◌++◌, map, eqb, length, get_or}
use Rattle.std.proofs.Math.Option.{none, some}
use Rattle.body.specs.Loop.{loop_final}
use Rattle.body.specs.Items.{total_steps}
use Rattle.text.specs.Records.{split}
use Rattle.plan.specs.Limits.{max_word}
use Rattle.graph.specs.Answers.{plan_body}
use Rattle.steps.specs.Answers.{Left, call_refusal, refused, open_of, result_of}
use Rattle.steps.specs.Calls.{Call, start as start_call, finish as finish_call, is_step, Lent, lent_by, call, play, accepted}
use Rattle.journal.specs.Lines.{Step, start, finish, step_of}
use Rattle.journal.specs.Checking.{call_of, check_of, check_more_of}
use Rattle.journal.specs.Written.{line_of, journal_of, told_of}

-- the numbers of a slice of 64-bit words
abbrev pub Words : List ℕ → Type 0
Words xs = (i : ℕ) → get_or xs i 0 ≤ max_word

-- the numbers of a step have 64 bits
abbrev pub Fits : Step → Type 0
Fits (start a w) = (a ≤ max_word) × (w ≤ max_word)
Fits (finish a) = a ≤ max_word

-- how many line feeds stand in a text
unfoldable pub feeds : List ℕ → ℕ
feeds [] = 0
feeds (c ∷ s) = cond (eqb c 10) 1 0 + feeds s

-- nothing, or a text that a line feed ends
abbrev pub Ended : List ℕ → Type 0
Ended text = (text ≡ []) ⊎ ((front : List ℕ) × (text ≡ front ++ (10 ∷ [])))

-- an answer whose line, if it has one, stands behind n others
abbrev pub later : ℕ → Left → Left
later n r = cond (eqb r.refusal 0) r (record { refusal = r.refusal; word = n + r.word; counts = r.counts; values = r.values })

module _ (plan : List ℕ) where
  -- the step is accepted, with the word that it states
  abbrev pub Holds : Lent → Step → Type 0
  Holds s (start a w) = ((call plan s (start_call a)).refusal ≡ 0) × ((call plan s (start_call a)).word ≡ w)
  Holds s (finish a) = (call plan s (finish_call a)).refusal ≡ 0

  -- the state after the steps of a list
  abbrev pub play_steps : Lent → List Step → Lent
  play_steps s l = play plan s (map call_of l)

  -- each step of the list holds after those before it
  abbrev pub Kept : Lent → List Step → Type 0
  Kept s l = (k m : List Step) (e : Step) → l ≡ k ++ (e ∷ m) → Holds (play_steps s k) e

  -- the first line of a text is refused with 20 or 21 in the state s: it has no line feed, or is
  -- out of form, or its step does not hold
  pub data Bad (s : Lent) (text : List ℕ) : ℕ → Type 0 where
    unended : split 10 text ≡ text ∷ [] → (text ≡ [] → ⊥) → Bad s text 20
    unreadable : (l m : List ℕ) (ls : List (List ℕ)) → split 10 text ≡ l ∷ m ∷ ls → step_of l ≡ none → Bad s text 20
    untrue : (l m : List ℕ) (ls : List (List ℕ)) (e : Step) → split 10 text ≡ l ∷ m ∷ ls → step_of l ≡ some e → (Holds s e → ⊥) → Bad s text 21

  -- where the journal is refused: behind steps that hold. The line is the next, and their state
  -- stands
  pub record Stopped (s : Lent) (journal : List ℕ) (r : Left) : Type 0 where
    pub before : List Step
    pub rest : List ℕ
    pub number : ℕ
    pub parts : journal ≡ journal_of before ++ rest
    pub kept : Kept s before
    pub bad : Bad (play_steps s before) rest number
    pub refusal : r.refusal ≡ number
    pub line : r.word ≡ suc (length before)
    pub state : lent_by r ≡ play_steps s before

  -- a check of journals from the state s
  pub record Checks (s : Lent) (check : List ℕ → Left) : Type 0 where
    -- accepted exactly if the journal is the text of steps that hold; the state at exit is theirs
    pub accepts : (journal : List ℕ) → ((check journal).refusal ≡ 0) ↔ ((l : List Step) × (journal ≡ journal_of l) × Kept s l)
    pub leaves : (l : List Step) → Kept s l → lent_by (check (journal_of l)) ≡ play_steps s l
    -- every list of accepted steps passes, written with the words answered
    pub passes : (l : List Call) → accepted plan is_step s l ≡ length l → let r = check (journal_of (told_of plan s l)) in (r.refusal ≡ 0) × (lent_by r ≡ play plan s l)
    -- refused exactly at the first bad line
    pub stops : (journal : List ℕ) → ((check journal).refusal ≡ 0 → ⊥) → Stopped s journal (check journal)
    pub stops_at : (l : List Step) (rest : List ℕ) (n : ℕ) → Kept s l → Bad (play_steps s l) rest n →
        let r = check (journal_of l ++ rest) in (r.refusal ≡ n) × (r.word ≡ suc (length l)) × (lent_by r ≡ play_steps s l)
    -- a journal in two pieces, cut behind a line feed: the first decides, or the second goes on
    -- from the state that the first left, its lines counted behind the first's. A first piece that
    -- is accepted ends so
    pub goes_on : (first second : List ℕ) → (check first).refusal ≡ 0 →
        check (first ++ second) ≡ later (feeds first) (check_more_of plan (check first).counts (check first).values second)
    pub decided : (first second : List ℕ) → Ended first → ((check first).refusal ≡ 0 → ⊥) → check (first ++ second) ≡ check first

  -- besides, from the state after the calls `before` since the opening that left s₀
  pub record Completes (s₀ : Lent) (before : List Call) (check : List ℕ → Left) : Type 0 where
    -- the number of an accepted journal is 1, complete, or 0, unfinished
    pub either : (journal : List ℕ) → (check journal).refusal ≡ 0 → ((check journal).word ≡ 1) ⊎ ((check journal).word ≡ 0)
    -- complete exactly if the accepted steps, with a step for each line, are all of the loop's
    pub complete : (l : List Step) → Kept (play plan s₀ before) l →
        ((check (journal_of l)).word ≡ 1) ↔ (accepted plan is_step s₀ before + length l ≡ total_steps (plan_body plan))
    -- exactly then the results are accepted, and they are the final numbers of the unrolled loop
    pub results : (journal : List ℕ) → (check journal).refusal ≡ 0 → (g : ℕ) → g < (plan_body plan).regions →
        ((check journal).word ≡ 1) ↔ ((result_of plan (check journal).counts (check journal).values g).refusal ≡ 0)
    pub final : (journal : List ℕ) → (check journal).refusal ≡ 0 → (check journal).word ≡ 1 → (g : ℕ) → g < (plan_body plan).regions →
        (result_of plan (check journal).counts (check journal).values g).word ≡ loop_final (plan_body plan) g
    -- an empty journal is unfinished unless there is nothing to do
    pub empty : ((check []).refusal ≡ 0) × (((check []).word ≡ 1) ↔ (accepted plan is_step s₀ before ≡ total_steps (plan_body plan)))

pub record Laws : Type 0 where
  -- a line says a step exactly if it is the step's line, whose numbers have 64 bits
  pub says : (l : List ℕ) (e : Step) → (step_of l ≡ some e) ↔ ((l ≡ line_of e) × Fits e)
  -- 11 and 12: nothing is changed, and the journal is not looked at
  pub closed : (plan counts values journal : List ℕ) → ((open_of plan counts values).refusal ≡ 0 → ⊥) →
      check_of plan counts values journal ≡ refused plan counts values (open_of plan counts values).refusal
  pub barred : (plan counts values journal : List ℕ) → (call_refusal plan counts values true ≡ 0 → ⊥) →
      check_more_of plan counts values journal ≡ refused plan counts values (call_refusal plan counts values true)
  -- a check from an opening, and one that goes on after any calls since an opening
  pub opens : (plan counts values : List ℕ) → Words plan → Words values → (open_of plan counts values).refusal ≡ 0 →
      let s = lent_by (open_of plan counts values) in
      Checks plan s (check_of plan counts values) × Completes plan s [] (check_of plan counts values)
  pub resumes : (plan counts values : List ℕ) → Words plan → Words values → (open_of plan counts values).refusal ≡ 0 → (l : List Call) →
      let s = lent_by (open_of plan counts values) in
      let t = play plan s l in
      Checks plan t (check_more_of plan t.counts t.values) × Completes plan s l (check_more_of plan t.counts t.values)
