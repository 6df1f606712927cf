-- What is proved of reading and of words in form, and of the written text.
use Rattle.std.specs.Prelude.{ℕ, ◌≤◌, ◌<◌, ◌≡◌, true, false, cond, ◌↔◌, ◌⊎◌, List, [], ◌∷◌, leb, length, replicate}
use Rattle.body.specs.Body.{Fits}
use Rattle.body.specs.Transfers.{transfer_count}
use Rattle.text.specs.declared.Number.{Number}
use Rattle.text.specs.declared.Number.TheVariants.{Value}
use Rattle.text.specs.declared.Record.TheVariants.{Loop}
use Rattle.text.specs.Records.{record_of, split}
use Rattle.plan.specs.Form.{Words, in_form}
use Rattle.plan.specs.Layout.{body_of, constant_of, kernel_of, passes_of, rank_of, ranks_of, reads_of, regions_of, starting_of, tasks_of, writes_of}
use Rattle.plan.specs.Limits.{max_bytes, max_transfers}
use Rattle.plan.specs.Sizes.{text_bytes}
use Rattle.reading.specs.Plan.{Plan, read_mode, regions_where, start_at, task_at, task_of, words_of, write_mode}
use Rattle.reading.specs.Reading.{Reading, accepted, read_of, read_within, refused}
use Rattle.reading.specs.Refusals.{Fit, fit, fit_from, no_fit}
use Rattle.reading.specs.Valid.{valid}
use Rattle.reading.specs.Written.{Rising, SameButStarts, records, text_from, text_of}

-- the text says the plan P: its lines are those of P's records in their order, and no limit is exceeded
pub record Says (text : List ℕ) (P : Plan) : Type 0 where
  pub lines : text ≡ text_from (records P)
  pub size : length text ≤ max_bytes
  pub within : valid P ≡ true
  pub some : 1 ≤ length P.tasks
  pub transfers : transfer_count (body_of (words_of P)) ≤ max_transfers

-- the words hold P's numbers, starting values and tasks, each task's accesses in record order
pub record Holds (w : List ℕ) (P : Plan) : Type 0 where
  pub passes : passes_of w ≡ P.passes
  pub ranks : ranks_of w ≡ P.ranks
  pub regions : regions_of w ≡ P.regions
  pub starting : (g : ℕ) → g < P.regions → starting_of w g ≡ start_at P.starts g
  pub tasks : tasks_of w ≡ length P.tasks
  pub rank : (i : ℕ) → i < length P.tasks → rank_of w i ≡ (task_at P.tasks i).rank
  pub kernel : (i : ℕ) → i < length P.tasks → kernel_of w i ≡ (task_at P.tasks i).kernel
  pub constant : (i : ℕ) → i < length P.tasks → constant_of w i ≡ (task_at P.tasks i).constant
  pub accesses : (i : ℕ) → i < length P.tasks → (task_of w i).accesses ≡ (task_at P.tasks i).accesses
  pub reads : (i : ℕ) → i < length P.tasks → reads_of w i ≡ regions_where read_mode (task_at P.tasks i).accesses
  pub writes : (i : ℕ) → i < length P.tasks → writes_of w i ≡ regions_where write_mode (task_at P.tasks i).accesses

-- what reading answers to the text, by what fits: where nothing does, the text is that of a valid plan with a task, and its transfers alone decide
abbrev pub Answers : List ℕ → Reading → Fit → Type 0
Answers text r (fit n line) = r ≡ refused n line
Answers text r (no_fit line) =
    (P : Plan) × (text ≡ text_from (records P)) × (valid P ≡ true) × (1 ≤ length P.tasks)
    × (r ≡ cond (leb (transfer_count (body_of (words_of P))) max_transfers) (accepted (words_of P)) (refused 10 line))

pub record Laws : Type 0 where
  -- a text is accepted exactly if it says a plan, and is read to that plan's words
  pub accepts : (text w : List ℕ) → (read_of text ≡ accepted w) ↔ ((P : Plan) × Says text P × (w ≡ words_of P))
  pub holds : (P : Plan) → valid P ≡ true → Holds (words_of P) P
  -- a text too long is refused before any line. Else the answer is the first refusal that fits; where none fits the text is a plan's, and
  -- accepted exactly if that plan has not too many transfers
  pub too_long : (text : List ℕ) → max_bytes < length text → read_of text ≡ refused 10 0
  pub first_fits : (text : List ℕ) → length text ≤ max_bytes → Answers text (read_of text) (fit_from 1 [] (split 10 text))
  -- a refusal has one of the numbers 1 to 10, so that 0 can say that there is none
  pub numbers : (text : List ℕ) (n line : ℕ) → read_of text ≡ refused n line → (1 ≤ n) × (n ≤ 10)
  -- what reading leaves is 1,668 words in form
  pub words : (text w : List ℕ) → read_of text ≡ accepted w → Words w
  pub in_form_lem : (text w : List ℕ) → read_of text ≡ accepted w → in_form w ≡ true
  -- so words are in form exactly if some text is read to them
  pub exactly : (w : List ℕ) → Words w → (in_form w ≡ true) ↔ ((text : List ℕ) × (read_of text ≡ accepted w))
  pub zeros : (n : ℕ) → in_form (replicate n 0) ≡ false
  -- the body of words in form fits, which is what the theory of bodies asks
  pub fits : (w : List ℕ) → in_form w ≡ true → Fits (body_of w)

-- the written text of words in form
pub record TextLaws : Type 0 where
  -- it is no longer than this, which some reaches, is read back to the words, and is the text of no others
  pub longest : (w : List ℕ) → Words w → in_form w ≡ true → length (text_of w) ≤ text_bytes
  pub reached : (w : List ℕ) × Words w × (in_form w ≡ true) × (length (text_of w) ≡ text_bytes)
  pub reads_back : (w : List ℕ) → Words w → in_form w ≡ true → read_of (text_of w) ≡ accepted w
  pub one_text : (w v : List ℕ) → Words w → Words v → in_form w ≡ true → in_form v ≡ true → (text_of w ≡ text_of v) ↔ (w ≡ v)
  -- what leaves no trace: two accepted texts are read to the same words exactly if their records differ only in the order of `start`
  -- records and in those of value 0
  pub no_trace : (text other : List ℕ) (P Q : Plan) → Says text P → Says other Q → (words_of P ≡ words_of Q) ↔ SameButStarts P Q
  -- of these texts the written one is the one whose `start` records rise and have no value 0
  pub written : (text : List ℕ) (P : Plan) → Says text P → (text ≡ text_of (words_of P)) ↔ Rising 0 P.starts

-- the first line gives more than `most` passes
pub record MorePasses (most : ℕ) (text : List ℕ) : Type 0 where
  pub line : List ℕ
  pub others : List (List ℕ)
  pub passes : ℕ
  pub ranks : Number
  pub regions : Number
  pub lines : split 10 text ≡ line ∷ others
  pub says : record_of line ≡ Loop (Value passes) ranks regions
  pub more : most < passes

-- reading with the limit `most` on passes, where that is at most `max_passes`, and with `max_passes`
pub record TextsKept (most : ℕ) : Type 0 where
  -- both answer the same; or the first line has more passes than `most`, which refuses it with 3 at line 1
  pub same : (text : List ℕ) → (read_within most text ≡ read_of text) ⊎ ((read_within most text ≡ refused 3 1) × MorePasses most text)
  -- `most` accepts exactly the texts that `max_passes` accepts and that have no more passes than `most`, to the same words
  pub accepts : (text w : List ℕ) → (read_within most text ≡ accepted w) ↔ ((read_of text ≡ accepted w) × (passes_of w ≤ most))
