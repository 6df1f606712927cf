-- What the code's private functions answer and leave, said of the word machine. Nothing here need
-- be believed.
use Rattle.std.specs.Prelude.{ℕ, ◌≤◌, ◌≡◌, List, Bool, true, cond, length, replicate, Option, Some, None, Result, Ok, Err}
use Rattle.text.specs.declared.Line.{Line}
use Rattle.text.specs.declared.Number.{Number}
use Rattle.text.specs.declared.Number.TheVariants.{Value, TooLarge, Malformed}
use Rattle.plan.specs.Limits.{max_accesses, max_regions, max_tasks}
use Rattle.plan.specs.Form.{words_ok}
use Rattle.plan.specs.Layout.{plan_words, regions_of, tasks_of}
use Rattle.reading.specs.Reading.{Reading, accepted, line_refusal, read_of, refused, value_of}
use Rattle.reader.specs.Answer.{answer_of}
use Rattle.reader.specs.Machine.{Move, end_of, go, move, open_count, stop}
use Rattle.reader.specs.declared.Answer.{Answer}
use Rattle.reader.specs.declared.Phase.{Phase}
use Rattle.reader.specs.declared.Phase.TheVariants.{NothingRead, NoTaskOpen, TaskOpen}
use Rattle.reader.specs.declared.Refused.{Refused}
use Rattle.reader.specs.declared.TextRefusal.{TextRefusal}
use Rattle.reader.specs.declared.TextRefusal.TheVariants.{Unformed, Misplaced, Exceeds, Reopened, Unopened, NamedTwice, Unended, NoTask, Unsuited, TooMany, TooShort}

-- the number of a refusal, as reading answers it
abbrev pub refusal_number : TextRefusal → ℕ
refusal_number Unformed = 1
refusal_number Misplaced = 2
refusal_number Exceeds = 3
refusal_number Reopened = 4
refusal_number Unopened = 5
refusal_number NamedTwice = 6
refusal_number Unended = 7
refusal_number NoTask = 8
refusal_number Unsuited = 9
refusal_number TooMany = 10
refusal_number TooShort = 11

-- the number of a phase, as the machine counts them
abbrev pub phase_number : Phase → ℕ
phase_number NothingRead = 0
phase_number NoTaskOpen = 1
phase_number TaskOpen = 2

-- a number that a word holds
abbrev pub value : Number → Result ℕ TextRefusal
value (Value n) = Ok n
value TooLarge = Err Exceeds
value Malformed = Err Exceeds

-- a number that passed its test
abbrev pub checked : Bool → Number → Result ℕ TextRefusal
checked t x = cond t (Ok (value_of x)) (Err Exceeds)

-- a step's answer, with the flags and the words that it left; where it refused they are of no
-- interest
abbrev pub move_of : Result Phase TextRefusal → List ℕ → List ℕ → Move
move_of (Ok phase) named words = go (phase_number phase) named words
move_of (Err why) named words = stop (refusal_number why)

-- what keeps each index within its slice
pub record Bounds (p : ℕ) (f w : List ℕ) : Type 0 where
  pub words : length w ≡ plan_words
  pub flags : length f ≡ max_regions
  pub regions : regions_of w ≤ max_regions
  pub tasks : tasks_of w ≤ max_tasks
  pub some : 2 ≤ p → 1 ≤ tasks_of w
  pub count : 2 ≤ p → open_count w ≤ max_accesses

-- what a line does, or bytes that no line feed ends
abbrev pub move_line : ℕ → Option Line → List ℕ → List ℕ → Move
move_line p None f w = stop (line_refusal None)
move_line p (Some line) f w = move p f w line.says

-- all lines lead to a phase, at the line behind them
pub record Through (text : List ℕ) (phase : Phase) (line : ℕ) (words : List ℕ) : Type 0 where
  pub size : length words ≡ plan_words
  pub reads : end_of line (phase_number phase) words ≡ read_of text
  pub formed : phase_number phase ≡ 1 → 1 ≤ tasks_of words → words_ok words ≡ true

-- after the lines: that leads to what the text is read as, and the words of a plan with a task are
-- in form but for its transfers
abbrev pub Walked : List ℕ → Result (Phase × ℕ) Refused → List ℕ → Type 0
Walked text (Ok far) words = Through text far.0 far.1 words
Walked text (Err r) words = refused (refusal_number r.why) r.line ≡ read_of text

-- what the end leads to, at a line
abbrev pub last_of : Result Unit TextRefusal → ℕ → List ℕ → Reading
last_of (Ok _) line words = accepted words
last_of (Err why) line words = refused (refusal_number why) line

-- what a text is read as, with the words that it left
abbrev pub told : Result Unit Refused → List ℕ → Reading
told (Ok _) words = accepted words
told (Err r) words = refused (refusal_number r.why) r.line

-- the words left for a reading: the plan's, or zeros
abbrev pub words_left : Reading → List ℕ
words_left (accepted words) = words
words_left (refused why line) = replicate plan_words 0

-- a reading told, with the words that it leaves
pub record Tells (reading : Reading) (r : Answer) (left : List ℕ) : Type 0 where
  pub answer : r ≡ answer_of reading
  pub words : left ≡ words_left reading
