-- What the check of a journal answers and leaves (paper 02, card 4), for every content and length
-- of the lent slices. Its number is the `word`: of an accepted journal 1 where the loop is then
-- complete, 0 where it is unfinished; with 20 and 21 the line, the first being 1; with 11 and 12 0.
use Rattle.std.specs.Prelude.{ℕ, suc, Bool, true, cond, ◌&&◌, List, [], ◌∷◌, eqb, length}
use Rattle.std.proofs.Math.Option.{Option, none, some}
use Rattle.text.specs.Records.{split}
use Rattle.graph.specs.declared.Number.{Number}
use Rattle.graph.specs.Answers.{plan_body}
use Rattle.steps.specs.State.{state_of}
use Rattle.steps.specs.Answers.{Left, is_complete, call_refusal, unless, open_of}
use Rattle.steps.specs.Calls.{Call, start as start_call, finish as finish_call, Lent, lent, lent_by, call}
use Rattle.prepared.specs.Tables.{tables_of}
use Rattle.prepared.specs.Calls.{call_in}
use Rattle.journal.specs.Lines.{Step, start, finish, step_of}

-- the call that a step makes, and whether v is the word that it states: a finish states none
abbrev pub call_of : Step → Call
call_of (start a w) = start_call a
call_of (finish a) = finish_call a

abbrev pub states : Step → ℕ → Bool
states (start a w) v = eqb v w
states (finish a) v = true

-- every line held: complete, or unfinished
abbrev pub passed : List ℕ → Lent → Left
passed plan s =
    record {
      refusal = 0;
      word = cond (is_complete (plan_body plan) (state_of s.counts s.values)) 1 0;
      counts = s.counts;
      values = s.values;
    }

-- refused with r at line n: the state stands as the lines before it left it
abbrev pub stopped : Lent → ℕ → ℕ → Left
stopped s r n = record { refusal = r; word = n; counts = s.counts; values = s.values }

-- `make s c` is what the call c answers and leaves in the state s
module _ (make : Lent → Call → Left) where
  -- the step is accepted, with the word that it states
  abbrev pub holds : Lent → Step → Bool
  holds s e = eqb (make s (call_of e)).refusal 0 && states e (make s (call_of e)).word

  -- the state that an accepted step leaves
  abbrev pub after : Lent → Step → Lent
  after s e = lent_by (make s (call_of e))

  -- line n says a step, or is out of form; `next` goes on from the state that it leaves
  abbrev pub check_line : (Lent → Left) → Lent → ℕ → Option Step → Left
  check_line next s n none = stopped s 20 n
  check_line next s n (some e) = cond (holds s e) (next (after s e)) (stopped s 21 n)

  module _ (plan : List ℕ) where
    -- the pieces that line feeds part a journal into, from line n on: what follows the last line
    -- feed is no line, and nothing may stand there
    unfoldable pub check_lines : Lent → ℕ → List (List ℕ) → Left
    check_lines s n [] = passed plan s
    check_lines s n (l ∷ []) = cond (eqb (length l) 0) (passed plan s) (stopped s 20 n)
    check_lines s n (l ∷ m ∷ ls) = check_line (λ t. check_lines t (suc n) (m ∷ ls)) s n (step_of l)

    -- a journal from the state s
    abbrev pub check_from : Lent → List ℕ → Left
    check_from s journal = check_lines s 1 (split 10 journal)

module _ (plan counts values journal : List ℕ) where
  -- opens the lent state first: 11, and 12 by the plan alone, are the opening's, and change nothing
  unfoldable pub check_of : Left
  check_of =
      let r = open_of plan counts values in
      cond (eqb r.refusal 0) (check_from (call plan) plan (lent_by r) journal) r

  -- goes on from the lent state: 11, and 12 with the counts. The steps are those by the plan's
  -- tables: in every state that calls reach from an opening they are the ordinary ones
  unfoldable pub check_more_of : Left
  check_more_of =
      unless plan counts values (call_refusal plan counts values true)
      (check_from (call_in plan (tables_of (plan_body plan))) plan (lent counts values) journal)

-- the answer of a check, with the lent state at exit
abbrev pub told_check : Number → List ℕ → List ℕ → Left
told_check r counts values = record { refusal = r.refusal; word = r.number; counts = counts; values = values }
