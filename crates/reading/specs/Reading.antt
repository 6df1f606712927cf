-- Reading a text (paper 01, "Refusals that come from the input"): 1 to 10, in their order.
use Rattle.std.specs.Prelude.{ℕ, ◌+◌, Bool, true, false, cond, not, ◌&&◌, List, [], ◌∷◌, ◌++◌, length, eqb, ltb, leb, Option, Some, None}
use Rattle.text.specs.declared.Number.{Number}
use Rattle.text.specs.declared.Number.TheVariants.{Value, TooLarge, Malformed}
use Rattle.text.specs.declared.Mode.{Mode}
use Rattle.text.specs.declared.Record.{Record}
use Rattle.text.specs.declared.Record.TheVariants.{Loop, Begin, End, Unreadable}
use Rattle.text.specs.declared.Line.{Line}
use Rattle.text.specs.Records.{split, record_of}
use Rattle.finite.specs.Lists.{mem}
use Rattle.kernels.specs.Kernels.{suits}
use Rattle.body.specs.Transfers.{transfer_count}
use Rattle.plan.specs.Limits.{max_bytes, max_passes, max_ranks, max_regions, max_tasks, max_accesses, max_transfers, max_kernel, max_word}
use Rattle.plan.specs.Layout.{body_of}
use Rattle.reading.specs.Plan.{Task, Plan, started, named, read_count, words_of}

-- the answer: the plan's words, or the refusal's number and line
pub data Reading : Type 0 where
  accepted : List ℕ → Reading
  refused : ℕ → ℕ → Reading

-- what has been read: nothing; records with no task open; records, and an open task
pub data State : Type 0 where
  first : State
  closed : Plan → State
  opened : Plan → Task → State

pub data Step : Type 0 where
  next : State → Step
  refuse : ℕ → Step

-- where the test fails: that refusal
abbrev pub need : Bool → ℕ → Step → Step
need t n s = cond t s (refuse n)

-- a number from lowest to highest
abbrev pub lies : ℕ → ℕ → Number → Bool
lies lowest highest (Value n) = leb lowest n && leb n highest
lies lowest highest TooLarge = false
lies lowest highest Malformed = false

abbrev pub below : ℕ → Number → Bool
below limit (Value n) = ltb n limit
below limit TooLarge = false
below limit Malformed = false

abbrev pub is_word : Number → Bool
is_word = lies 0 max_word

-- the number; 0 where it is none, which no test below lets through
abbrev pub value_of : Number → ℕ
value_of (Value n) = n
value_of TooLarge = 0
value_of Malformed = 0

abbrev pub no_task_yet : Plan → Bool
no_task_yet P = eqb (length P.tasks) 0

abbrev pub with_loop : ℕ → ℕ → ℕ → Plan
with_loop p q n = record { passes = p; ranks = q; regions = n; starts = []; tasks = [] }

abbrev pub with_start : Plan → ℕ → ℕ → Plan
with_start P g v =
    record { passes = P.passes; ranks = P.ranks; regions = P.regions; starts = P.starts ++ (record { region = g; value = v } ∷ []); tasks = P.tasks }

abbrev pub with_task : Plan → Task → Plan
with_task P t = record { passes = P.passes; ranks = P.ranks; regions = P.regions; starts = P.starts; tasks = P.tasks ++ (t ∷ []) }

abbrev pub new_task : ℕ → ℕ → ℕ → Task
new_task q k c = record { rank = q; kernel = k; constant = c; accesses = [] }

abbrev pub with_access : Task → Mode → ℕ → Task
with_access t m g =
    record { rank = t.rank; kernel = t.kernel; constant = t.constant; accesses = t.accesses ++ (record { mode = m; region = g } ∷ []) }

-- the refusal that a record is by itself; 0 where what was read before it decides
abbrev pub record_refusal : Record → ℕ
record_refusal (Loop p q n) = 0
record_refusal (Record.Start g v) = 0
record_refusal (Begin q k c) = 0
record_refusal (Record.Access m g) = 0
record_refusal End = 0
record_refusal Unreadable = 1

-- the same of a line, or of bytes that no line feed ends
abbrev pub line_refusal : Option Line → ℕ
line_refusal (Some l) = record_refusal l.says
line_refusal None = 1

-- what a record does, with the limit `most` on passes. Within a line: 1, 2, 4 or 5, 3 from left to
-- right, 10, 6, 9
abbrev pub step_within : ℕ → State → Record → Step
step_within most first (Loop p q n) =
    need (lies 0 most p) 3
    (need (lies 1 max_ranks q) 3
    (need (lies 1 max_regions n) 3
    (next (closed (with_loop (value_of p) (value_of q) (value_of n))))))
step_within most first (Record.Start g v) = refuse 2
step_within most first (Begin q k c) = refuse 2
step_within most first (Record.Access m g) = refuse 2
step_within most first End = refuse 2
step_within most first Unreadable = refuse (record_refusal Unreadable)
step_within most (closed P) (Loop p q n) = refuse 2
step_within most (closed P) (Record.Start g v) =
    need (no_task_yet P) 2
    (need (below P.regions g) 3
    (need (is_word v) 3
    (need (not (mem (value_of g) (started P.starts))) 6
    (next (closed (with_start P (value_of g) (value_of v)))))))
step_within most (closed P) (Begin q k c) =
    need (below P.ranks q) 3
    (need (lies 0 max_kernel k) 3
    (need (is_word c) 3
    (need (ltb (length P.tasks) max_tasks) 10
    (next (opened P (new_task (value_of q) (value_of k) (value_of c)))))))
step_within most (closed P) (Record.Access m g) = refuse 5
step_within most (closed P) End = refuse 5
step_within most (closed P) Unreadable = refuse (record_refusal Unreadable)
step_within most (opened P t) (Loop p q n) = refuse 2
step_within most (opened P t) (Record.Start g v) = refuse 2
step_within most (opened P t) (Begin q k c) = refuse 4
step_within most (opened P t) (Record.Access m g) =
    need (below P.regions g) 3
    (need (ltb (length t.accesses) max_accesses) 10
    (need (not (mem (value_of g) (named t.accesses))) 6
    (next (opened P (with_access t m (value_of g))))))
step_within most (opened P t) End =
    need (suits t.kernel (read_count t.accesses)) 9
    (next (closed (with_task P t)))
step_within most (opened P t) Unreadable = refuse (record_refusal Unreadable)

abbrev pub step : State → Record → Step
step = step_within max_passes

abbrev pub is_empty : List ℕ → Bool
is_empty [] = true
is_empty (c ∷ l) = false

-- after the last line, n being one past it: 7, 8, then 10 for transfers; an empty text is 2
abbrev pub at_end : ℕ → State → Reading
at_end n first = refused 2 n
at_end n (opened P t) = refused 7 n
at_end n (closed P) =
    cond (no_task_yet P) (refused 8 n)
    (cond (leb (transfer_count (body_of (words_of P))) max_transfers) (accepted (words_of P)) (refused 10 n))

-- after line n: its refusal, or on with the next
abbrev pub on_step : ℕ → (State → Reading) → Step → Reading
on_step n k (next s) = k s
on_step n k (refuse why) = refused why n

-- the lines from line n on: what follows the last line feed is the last of the pieces, and must be empty
abbrev pub read_from_within : ℕ → ℕ → State → List (List ℕ) → Reading
read_from_within most n s [] = refused (line_refusal None) n
read_from_within most n s (l ∷ []) = cond (is_empty l) (at_end n s) (refused (line_refusal None) n)
read_from_within most n s (l ∷ m ∷ ls) = on_step n (λ s'. read_from_within most (n + 1) s' (m ∷ ls)) (step_within most s (record_of l))

abbrev pub read_from : ℕ → State → List (List ℕ) → Reading
read_from = read_from_within max_passes

-- the pieces between the line feeds, the first being line 1, with the limit `most` on passes
abbrev pub read_within : ℕ → List ℕ → Reading
read_within most text = cond (ltb max_bytes (length text)) (refused 10 0) (read_from_within most 1 first (split 10 text))

unfoldable pub read_of : List ℕ → Reading
read_of = read_within max_passes
