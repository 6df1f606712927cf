-- The three demands on the runtime, stated over the contracts of its functions (src/lib.rt): the
-- definitions that they are equated with, `open_of`, `start_of`, `finish_of`, `result_of` of the crate
-- steps, `start_prepared` and `finish_prepared` of the crate prepared, `check_of` and `check_more_of` of
-- the crate journal, and the records that hold of their answers, `Reads`, `ItemsAnswer`,
-- `EdgesAnswer`, `TotalAnswer`, `ReadyAnswer`, `Played`, `WriteAnswer`, `PrepareAnswer` and
-- `FreeingAnswer`. Proved in proofs/Demands.antt. That nothing undefined is done and every call
-- ends is the check of the code itself.
use Rattle.std.specs.Prelude.{ℕ, suc, ◌+◌, ◌-◌, ◌*◌, ◌≤◌, ◌<◌, ◌≡◌, Bool, true, false, cond, ◌↔◌, ◌⊎◌, leb, length, get_or, set, take, drop, replicate}
use mathlib.Core.List.{List, [], ◌∷◌, ◌++◌, map, Memᴰ as In}
use Rattle.std.proofs.Math.Option.{some}
use Rattle.finite.specs.Below.{count_below}
use Rattle.finite.specs.Lists.{mem, distinct}
use Rattle.kernels.specs.Kernels.{total, Nearest, MeanLaws}
use Rattle.unroll.specs.System.{Accesses}
use Rattle.unroll.specs.Sequential.{word_on}
use Rattle.unroll.specs.Edges.{Edge}
use Rattle.unroll.specs.Machine.{State, CanFinish}
use Rattle.unroll.specs.Meaning.{StartRule}
use Rattle.body.specs.Body.{Body, first_slot}
use Rattle.body.specs.Loop.{cells_at, loop_word, loop_final}
use Rattle.body.specs.Transfers.{transfer_count}
use Rattle.body.specs.Items.{send, writer, item_rank, item_count, item_at, item_passes, total_steps}
use Rattle.body.specs.Places.{slot, copy, system}
use Rattle.body.specs.Meaning.{LastWriter, Meaning}
use Rattle.waits.specs.Waits.{Unmet}
use Rattle.plan.specs.Limits.{max_bytes, max_passes, max_transfers, max_word}
use Rattle.plan.specs.Sizes.{max_items}
use Rattle.plan.specs.Layout.{plan_words, tasks_of, kernel_of, reads_of, body_of}
use Rattle.text.specs.Records.{split}
use Rattle.reading.specs.Plan.{Plan, words_of}
use Rattle.reading.specs.Written.{records, text_from}
use Rattle.reading.specs.Valid.{valid}
use Rattle.reading.specs.Reading.{read_of, accepted as read_to}
use Rattle.reading.specs.Refusals.{Fit, fit, no_fit, fit_from}
use Rattle.reading.specs.Laws.{Says, Holds, TextLaws}
use Rattle.reader.specs.declared.Answer.{Answer}
use Rattle.reader.specs.Answer.{Reads}
use Rattle.graph.specs.declared.Number.{Number}
use Rattle.graph.specs.Answers.{plan_body, ItemsAnswer, EdgesAnswer, TotalAnswer}
use Rattle.writer.specs.Answer.{WriteAnswer}
use Rattle.steps.specs.State.{count_words, value_words, first_finished, first_unmet, first_held, state_of, unmet_by}
use Rattle.steps.specs.Answers.{Left, open_of, start_of, finish_of, result_of}
use Rattle.steps.specs.Calls.{Call, start, finish, result, is_start, is_finish, is_step, Lent, lent, lent_by, call, play, replies, accepted}
use Rattle.steps.specs.Ready.{ReadyAnswer}
use Rattle.prepared.specs.Tables.{prepared_words, PrepareAnswer}
use Rattle.prepared.specs.Steps.{start_prepared, finish_prepared, FreeingAnswer}
use Rattle.prepared.specs.Calls.{Made, calls_of as calls_made, call_made, play_made, replies_made, accepted_made}
use Rattle.journal.specs.Lines.{Step, start as start_line, step_of}
use Rattle.journal.specs.Checking.{call_of as call_said, check_of, check_more_of}
use Rattle.journal.specs.Written.{line_of, journal_of}
use Rattle.journal.specs.Laws.{Words, Fits, play_steps, Kept as StepsKept, Checks, Completes}
use Rattle.taskiter.specs.Given.{FromText, ItemsGiven, EdgesGiven, TotalGiven, TextGiven}
use Rattle.taskiter.specs.Kept.{Kept, CountsFit}
use Rattle.taskiter.specs.Played.{call_of, calls_of, ahead, word_of, number_of, call_numbers, Played}

-- Demand 1. Every text, every lent buffer and every call gets an answer; a bad text, and no other, gets a refusal number and a line.

-- the answer is the first refusal that fits; where none fits, the text has the lines of a plan within its limits, and is accepted, or refused
-- where the plan has too many transfers
abbrev pub FitTold : List ℕ → Answer → Fit → Type 0
FitTold text r (fit n line) = r ≡ record { refusal = n; line = line }
FitTold text r (no_fit line) = (P : Plan) × (text ≡ text_from (records P)) × (valid P ≡ true) × (1 ≤ length P.tasks)
    × (r ≡ cond (leb (transfer_count (body_of (words_of P))) max_transfers) (record { refusal = 0; line = 0 }) (record { refusal = 10; line = line }))

-- what a text read into a lent plan gets: the answer r, and the plan `left`
pub record TextRead (text plan : List ℕ) (r : Answer) (left : List ℕ) : Type 0 where
  -- a slice too short is refused with nothing changed
  pub short : length plan < plan_words → (r.refusal ≡ 11) × (r.line ≡ 0) × (left ≡ plan)
  -- a text that says a plan is accepted, and its words stand in the slice; no other text is
  pub good : plan_words ≤ length plan → (P : Plan) → Says text P → (r.refusal ≡ 0) × (r.line ≡ 0) × (left ≡ words_of P ++ drop plan_words plan)
  pub none_other : plan_words ≤ length plan → r.refusal ≡ 0 → (P : Plan) × Says text P
  -- a bad text gets a number from 1 to 10, and its plan reads as zeros
  pub bad : plan_words ≤ length plan → (r.refusal ≡ 0 → ⊥) → (1 ≤ r.refusal) × (r.refusal ≤ 10) × (left ≡ replicate plan_words 0 ++ drop plan_words plan)
  -- the number and the line are those of the first refusal that fits; a text too long is refused before any line
  pub first : plan_words ≤ length plan → length text ≤ max_bytes → FitTold text r (fit_from 1 [] (split 10 text))
  pub too_long : plan_words ≤ length plan → max_bytes < length text → (r.refusal ≡ 10) × (r.line ≡ 0)

-- a slice of a call is too short
abbrev pub Short : List ℕ → List ℕ → List ℕ → Type 0
Short plan counts values = (length plan < plan_words) ⊎ ((length counts < count_words) ⊎ (length values < value_words))

-- what a call on a lent state gets
pub record CallRefused (plan counts values : List ℕ) (r : Left) : Type 0 where
  pub short : Short plan counts values → r.refusal ≡ 11
  pub changes_nothing : (r.refusal ≡ 0 → ⊥) → (r.word ≡ 0) × (r.counts ≡ counts) × (r.values ≡ values)

-- what a list of calls gets, with answers for two words a call: 11 where a slice is too short, and then nothing is changed; else 0
pub record PlayRefused (plan counts values calls answers : List ℕ) (r : ℕ) (counts' values' answers' : List ℕ) : Type 0 where
  pub short : (r ≡ 11) ↔ (Short plan counts values ⊎ (length answers < 2 * length calls))
  pub changes_nothing : r ≡ 11 → (counts' ≡ counts) × (values' ≡ values) × (answers' ≡ answers)
  pub else_0 : (r ≡ 11 → ⊥) → r ≡ 0

-- what a step by tables gets
pub record PreparedRefused (plan tables counts values : List ℕ) (r : Left) : Type 0 where
  pub short : (Short plan counts values ⊎ (length tables < prepared_words)) ↔ (r.refusal ≡ 11)
  pub changes_nothing : (r.refusal ≡ 0 → ⊥) → (r.word ≡ 0) × (r.counts ≡ counts) × (r.values ≡ values)

-- what a check of a journal gets: 11 and 12 change nothing; else it is accepted, or refused with 20
-- or 21 at a line
pub record CheckRefused (plan counts values : List ℕ) (r : Left) : Type 0 where
  pub short : (r.refusal ≡ 11) ↔ Short plan counts values
  pub changes_nothing : (r.refusal ≡ 11) ⊎ (r.refusal ≡ 12) → (r.word ≡ 0) × (r.counts ≡ counts) × (r.values ≡ values)
  pub else : (r.refusal ≡ 11 → ⊥) → (r.refusal ≡ 12 → ⊥) →
      ((r.refusal ≡ 0) × (r.word ≤ 1)) ⊎ (((r.refusal ≡ 20) ⊎ (r.refusal ≡ 21)) × (1 ≤ r.word))

pub record Demand1 : Type 0 where
  pub reading : (text plan : List ℕ) (r : Answer) (left : List ℕ) → Reads text plan r left → TextRead text plan r left
  pub opening : (plan counts values : List ℕ) → CallRefused plan counts values (open_of plan counts values)
  pub steps : (plan : List ℕ) (s : Lent) (c : Call) → CallRefused plan s.counts s.values (call plan s c)
  pub playing : (plan counts values calls answers : List ℕ) (r : ℕ) (counts' values' answers' : List ℕ) →
      Played plan counts values calls answers r counts' values' answers' → PlayRefused plan counts values calls answers r counts' values' answers'
  pub prepared_starts : (plan tables counts values : List ℕ) (a : ℕ) → PreparedRefused plan tables counts values (start_prepared plan tables counts values a)
  pub prepared_finishes : (plan tables counts values : List ℕ) (a : ℕ) → PreparedRefused plan tables counts values (finish_prepared plan tables counts values a)
  pub checking : (plan counts values journal : List ℕ) → CheckRefused plan counts values (check_of plan counts values journal)
  pub checking_more : (plan counts values journal : List ℕ) → CheckRefused plan counts values (check_more_of plan counts values journal)
  -- a line of a journal is in form exactly if it is the line of a step, whose numbers have 64 bits
  pub journal_lines : (l : List ℕ) (e : Step) → (step_of l ≡ some e) ↔ ((l ≡ line_of e) × Fits e)
  pub writing : (plan text : List ℕ) (r : Number) (text' : List ℕ) → ((i : ℕ) → get_or plan i 0 ≤ max_word) →
      WriteAnswer plan text r text' → TextGiven plan text r text'
  -- what holds of written texts
  pub texts : TextLaws

-- Demand 2. The graph is the published rule's, and steps are accepted exactly by it.

-- the counts of item a are in form where the item has so many passes
pub record CountInForm (passes : ℕ) (s : State) (a : ℕ) : Type 0 where
  pub finished : s.finished a ≤ passes
  pub started : (s.started a ≡ s.finished a) ⊎ ((s.started a ≡ suc (s.finished a)) × (s.finished a < passes))

-- the slices are long enough, and the plan is what reading leaves for some text
pub record PlanReady (plan counts values : List ℕ) : Type 0 where
  pub long_plan_lem : plan_words ≤ length plan
  pub long_counts : count_words ≤ length counts
  pub long_values : value_words ≤ length values
  pub read : FromText plan

-- besides, the counts of every item are in form, and its number of unmet waits is at most the
-- number of items: neither 11 nor 12 is given
pub record Ready (plan counts values : List ℕ) : Type 0 where
  pub plan_ready : PlanReady plan counts values
  pub counts_formed : (a : ℕ) → a < item_count (plan_body plan) → CountInForm (item_passes (plan_body plan) a) (state_of counts values) a
  pub numbers_formed : (a : ℕ) → a < item_count (plan_body plan) → unmet_by counts a ≤ item_count (plan_body plan)

-- n is how many waits of item a for the first pass that it has not finished are unmet, counted
-- afresh over the edges; 0 once its passes are done. From each item one edge at most leads to a
-- (Steps.one_edge), so that items are counted: those that some test t picks
pub record FreshCount (B : Body) (s : State) (a n : ℕ) : Type 0 where
  pub done : item_passes B a ≤ s.finished a → n ≡ 0
  pub left : s.finished a < item_passes B a → (t : ℕ → Bool) × (n ≡ count_below (item_count B) t)
      × ((b : ℕ) → b < item_count B → (t b ≡ true) ↔ Unmet (system B) s a b)

-- every number in the lent state is such a count
abbrev pub AllFresh : Body → List ℕ → List ℕ → Type 0
AllFresh B counts values = (a : ℕ) → a < item_count B → FreshCount B (state_of counts values) a (unmet_by counts a)

-- item a is in turn by the number that is stored: it has a pass left, does not run, and its number
-- is 0
pub record InTurn (B : Body) (counts values : List ℕ) (a : ℕ) : Type 0 where
  pub in_range : a < item_count B
  pub left : (state_of counts values).finished a < item_passes B a
  pub idle : (state_of counts values).started a ≡ (state_of counts values).finished a
  pub none_unmet : unmet_by counts a ≡ 0

-- the counts that a plan uses, and of the values the copies, the slots of its sends and the held words
pub data UsedCount (B : Body) (i : ℕ) : Type 0 where
  of_start : (a : ℕ) → a < item_count B → i ≡ a → UsedCount B i
  of_finish : (a : ℕ) → a < item_count B → i ≡ first_finished + a → UsedCount B i
  of_unmet : (a : ℕ) → a < item_count B → i ≡ first_unmet + a → UsedCount B i

pub data UsedValue (B : Body) (x : ℕ) : Type 0 where
  of_copy : (q g : ℕ) → q < B.ranks → g < B.regions → x ≡ copy B q g → UsedValue B x
  of_slot : (a i g q : ℕ) → a < item_count B → item_at B a ≡ send i g q → x ≡ slot a → UsedValue B x
  of_held : (a : ℕ) → a < item_count B → x ≡ first_held + a → UsedValue B x

-- an accepted opening sets every copy to its starting value, passes, slots and held words to 0, and
-- each number of unmet waits to a fresh count; what the plan does not use stays
pub record OpenMade (B : Body) (counts values : List ℕ) (r : Left) : Type 0 where
  pub count_size : length r.counts ≡ length counts
  pub value_size : length r.values ≡ length values
  pub count_set : (a : ℕ) → a < item_count B → (get_or r.counts a 0 ≡ 0) × (get_or r.counts (first_finished + a) 0 ≡ 0)
  pub number_set : AllFresh B r.counts r.values
  pub copy_set : (q g : ℕ) → q < B.ranks → g < B.regions → get_or r.values (copy B q g) 0 ≡ B.starting g
  pub slot_set : (a i g q : ℕ) → a < item_count B → item_at B a ≡ send i g q → get_or r.values (slot a) 0 ≡ 0
  pub held_set : (a : ℕ) → a < item_count B → get_or r.values (first_held + a) 0 ≡ 0
  pub count_stays : (i : ℕ) → (UsedCount B i → ⊥) → get_or r.counts i 0 ≡ get_or counts i 0
  pub value_stays : (x : ℕ) → (UsedValue B x → ⊥) → get_or r.values x 0 ≡ get_or values x 0

-- an accepted start of item a reads and computes the word, which is answered and held; it counts the start and changes nothing else
pub record StartMade (B : Body) (counts values : List ℕ) (a : ℕ) (r : Left) : Type 0 where
  pub word : r.word ≡ word_on (system B) a (state_of counts values).places
  pub counted : r.counts ≡ set counts a (suc (get_or counts a 0))
  pub held : r.values ≡ set values (first_held + a) r.word

-- a finish of item a meets a wait of item b: an edge leads from a to b, the pass that a finishes
-- serves the first pass that b has not finished, and b has that pass
pub record MeetsWait (B : Body) (s : State) (a b : ℕ) : Type 0 where
  pub d : ℕ
  pub edge : Edge (system B) a b d
  pub pass : s.finished b ≡ s.finished a + d
  pub left : s.finished b < item_passes B b

-- an accepted finish of item a writes the word held to the places that a writes, and answers it; it
-- counts the finish, takes one off the number of each other item whose wait it meets, a 0 staying
-- 0, counts its own afresh, and changes nothing else
pub record FinishMade (B : Body) (counts values : List ℕ) (a : ℕ) (r : Left) : Type 0 where
  pub word : r.word ≡ get_or values (first_held + a) 0
  pub count_size : length r.counts ≡ length counts
  pub counted : get_or r.counts (first_finished + a) 0 ≡ suc (get_or counts (first_finished + a) 0)
  pub lowered : (b : ℕ) → b < item_count B → (b ≡ a → ⊥) → MeetsWait B (state_of counts values) a b → unmet_by r.counts b ≡ unmet_by counts b - 1
  pub unlowered : (b : ℕ) → b < item_count B → (b ≡ a → ⊥) → (MeetsWait B (state_of counts values) a b → ⊥) → unmet_by r.counts b ≡ unmet_by counts b
  pub own : FreshCount B (state_of r.counts r.values) a (unmet_by r.counts a)
  pub count_stays : (i : ℕ) → (i ≡ first_finished + a → ⊥) → ((b : ℕ) → b < item_count B → i ≡ first_unmet + b → ⊥) → get_or r.counts i 0 ≡ get_or counts i 0
  pub size : length r.values ≡ length values
  pub written : (x : ℕ) → mem x ((system B).writes a) ≡ true → get_or r.values x 0 ≡ r.word
  pub unwritten : (x : ℕ) → mem x ((system B).writes a) ≡ false → get_or r.values x 0 ≡ get_or values x 0

-- an accepted result is the copy on the rank of the region's last writer; with no writer or no pass the starting value. It changes nothing
pub record ResultMade (B : Body) (counts values : List ℕ) (g : ℕ) (r : Left) : Type 0 where
  pub written : (j : ℕ) → LastWriter B B.tasks g j → 0 < B.passes → r.word ≡ get_or values (copy B (B.rank j) g) 0
  pub unwritten : ((j : ℕ) → LastWriter B B.tasks g j → ⊥) → r.word ≡ B.starting g
  pub no_pass_lem : B.passes ≡ 0 → r.word ≡ B.starting g
  pub count_stays : r.counts ≡ counts
  pub value_stays : r.values ≡ values

-- the number of a call lies within its limit
abbrev pub Within : Body → Call → Type 0
Within B (start a) = a < item_count B
Within B (finish a) = a < item_count B
Within B (result g) = g < B.regions

-- the loop is complete: every item has finished its own passes
abbrev pub Complete : Body → State → Type 0
Complete B s = (a : ℕ) → a < item_count B → s.finished a ≡ item_passes B a

-- each refusal is given exactly when its condition holds and no earlier one does
pub record Numbers (plan counts values : List ℕ) : Type 0 where
  pub opening_11 : ((open_of plan counts values).refusal ≡ 11) ↔ Short plan counts values
  pub opening_12 : ((open_of plan counts values).refusal ≡ 12) ↔ ((Short plan counts values → ⊥) × (PlanReady plan counts values → ⊥))
  pub check_12 : (journal : List ℕ) → ((check_of plan counts values journal).refusal ≡ 12) ↔ ((Short plan counts values → ⊥) × (PlanReady plan counts values → ⊥))
  pub check_more_12 : (journal : List ℕ) → ((check_more_of plan counts values journal).refusal ≡ 12) ↔ ((Short plan counts values → ⊥) × (Ready plan counts values → ⊥))
  pub call_11 : (c : Call) → ((call plan (lent counts values) c).refusal ≡ 11) ↔ Short plan counts values
  pub call_12 : (c : Call) → ((call plan (lent counts values) c).refusal ≡ 12) ↔ ((Short plan counts values → ⊥) × (Ready plan counts values → ⊥))
  pub call_13 : (c : Call) → ((call plan (lent counts values) c).refusal ≡ 13) ↔ (Ready plan counts values × (Within (plan_body plan) c → ⊥))
  pub start_14 : (a : ℕ) → ((start_of plan counts values a).refusal ≡ 14)
      ↔ (Ready plan counts values × (a < item_count (plan_body plan)) × ((state_of counts values).finished a ≡ item_passes (plan_body plan) a))
  pub start_15 : (a : ℕ) → ((start_of plan counts values a).refusal ≡ 15)
      ↔ (Ready plan counts values × (a < item_count (plan_body plan)) × ((state_of counts values).started a ≡ suc ((state_of counts values).finished a)))
  pub start_16_stored : (a : ℕ) → ((start_of plan counts values a).refusal ≡ 16)
      ↔ (Ready plan counts values × (a < item_count (plan_body plan)) × ((state_of counts values).finished a < item_passes (plan_body plan) a)
      × ((state_of counts values).started a ≡ (state_of counts values).finished a) × (unmet_by counts a ≡ 0 → ⊥))
  pub start_16 : AllFresh (plan_body plan) counts values → (a : ℕ) → ((start_of plan counts values a).refusal ≡ 16)
      ↔ (Ready plan counts values × (a < item_count (plan_body plan)) × ((state_of counts values).finished a < item_passes (plan_body plan) a)
      × ((state_of counts values).started a ≡ (state_of counts values).finished a) × (StartRule (system (plan_body plan)) (state_of counts values) a → ⊥))
  pub finish_17 : (a : ℕ) → ((finish_of plan counts values a).refusal ≡ 17)
      ↔ (Ready plan counts values × (a < item_count (plan_body plan)) × ((state_of counts values).started a ≡ (state_of counts values).finished a))
  pub result_18 : (g : ℕ) → ((result_of plan counts values g).refusal ≡ 18)
      ↔ (Ready plan counts values × (g < (plan_body plan).regions) × (Complete (plan_body plan) (state_of counts values) → ⊥))

-- lent states that are the same where the plan uses them
pub record SameUsed (B : Body) (s t : Lent) : Type 0 where
  pub same_counts : (i : ℕ) → UsedCount B i → get_or s.counts i 0 ≡ get_or t.counts i 0
  pub same_values : (x : ℕ) → UsedValue B x → get_or s.values x 0 ≡ get_or t.values x 0

-- for every lent plan of 64-bit words, and every lent state
pub record Steps (plan counts values : List ℕ) : Type 0 where
  -- the items are the paper's
  pub items : PlanReady plan counts values → Meaning (plan_body plan)
  -- an item accesses copies of its own rank and of no other
  pub own_rank : PlanReady plan counts values → (a x : ℕ) → a < item_count (plan_body plan) → Accesses (system (plan_body plan)) a x → x < first_slot →
      (g : ℕ) × (g < (plan_body plan).regions) × (x ≡ copy (plan_body plan) (item_rank (plan_body plan) (item_at (plan_body plan) a)) g)
  -- counts, copies, slots and held words have room, and no item writes a held word
  pub room : PlanReady plan counts values → (item_count (plan_body plan) ≤ first_finished) × ((plan_body plan).ranks * (plan_body plan).regions ≤ first_slot)
  pub held_apart : PlanReady plan counts values → (a b : ℕ) → a < item_count (plan_body plan) → mem (first_held + b) ((system (plan_body plan)).writes a) ≡ false
  pub opens : ((open_of plan counts values).refusal ≡ 0) ↔ PlanReady plan counts values
  pub one_edge : PlanReady plan counts values → (a b d e : ℕ) → Edge (system (plan_body plan)) a b d → Edge (system (plan_body plan)) a b e → d ≡ e
  -- each item has one fresh count, and it is below the number of items
  pub one_count : PlanReady plan counts values → (a : ℕ) → a < item_count (plan_body plan) →
      (n : ℕ) × (n < item_count (plan_body plan)) × ((m : ℕ) → FreshCount (plan_body plan) (state_of counts values) a m ↔ (m ≡ n))
  -- a start is accepted exactly when the item is in turn by its stored number: where the numbers
  -- are fresh counts, as after every list of calls from an opening (demand 3), exactly when it is
  -- in turn and everything it must wait for has finished or is not made; a finish exactly when its
  -- item runs
  pub starts_stored : (a : ℕ) → ((start_of plan counts values a).refusal ≡ 0) ↔ (Ready plan counts values × InTurn (plan_body plan) counts values a)
  pub starts : AllFresh (plan_body plan) counts values → (a : ℕ) →
      ((start_of plan counts values a).refusal ≡ 0) ↔ (Ready plan counts values × StartRule (system (plan_body plan)) (state_of counts values) a)
  pub finishes : (a : ℕ) → ((finish_of plan counts values a).refusal ≡ 0) ↔ (Ready plan counts values × CanFinish (system (plan_body plan)) (state_of counts values) a)
  pub results : (g : ℕ) → ((result_of plan counts values g).refusal ≡ 0)
      ↔ (Ready plan counts values × (g < (plan_body plan).regions) × Complete (plan_body plan) (state_of counts values))
  -- fresh counts stay so, whichever call is made
  pub stays_fresh : AllFresh (plan_body plan) counts values → (c : Call) → let r = call plan (lent counts values) c in AllFresh (plan_body plan) r.counts r.values
  pub numbers : Numbers plan counts values
  -- what an accepted call leaves
  pub opened : (open_of plan counts values).refusal ≡ 0 → OpenMade (plan_body plan) counts values (open_of plan counts values)
  pub started : (a : ℕ) → (start_of plan counts values a).refusal ≡ 0 → StartMade (plan_body plan) counts values a (start_of plan counts values a)
  pub finished : (a : ℕ) → (finish_of plan counts values a).refusal ≡ 0 → FinishMade (plan_body plan) counts values a (finish_of plan counts values a)
  pub shown : (g : ℕ) → (result_of plan counts values g).refusal ≡ 0 → ResultMade (plan_body plan) counts values g (result_of plan counts values g)

-- what C gets from `taskiter_ready`: each refusal exactly when its condition holds, and then
-- nothing is changed; accepted, the items whose start is accepted, rising, and how many; what lies
-- behind stays
pub record ReadyGiven (plan counts values items : List ℕ) (r : Number) (items' : List ℕ) : Type 0 where
  pub refusal_11 : (r.refusal ≡ 11) ↔ (Short plan counts values ⊎ (length items < max_items))
  pub refusal_12 : (r.refusal ≡ 12) ↔ (((Short plan counts values ⊎ (length items < max_items)) → ⊥) × (Ready plan counts values → ⊥))
  pub refusal_0 : (r.refusal ≡ 0) ↔ (Ready plan counts values × (max_items ≤ length items))
  pub refused : (r.refusal ≡ 0 → ⊥) → (r.number ≡ 0) × (items' ≡ items)
  pub exactly : r.refusal ≡ 0 → (a : ℕ) → In a (take r.number items') ↔ ((start_of plan counts values a).refusal ≡ 0)
  pub rising : r.refusal ≡ 0 → (i j : ℕ) → i < j → j < r.number → get_or items' i 0 < get_or items' j 0
  pub fits : r.number ≤ length items
  pub size : length items' ≡ length items
  pub behind : (i : ℕ) → r.number ≤ i → get_or items' i 0 ≡ get_or items i 0

pub record Demand2 : Type 0 where
  -- the graph that C gets, from the contracts of `taskiter_items` and `taskiter_edges`, and the
  -- total of steps, from that of `taskiter_total`
  pub items : (plan table : List ℕ) (r : Number) (table' : List ℕ) → ((i : ℕ) → get_or plan i 0 ≤ max_word) →
      ItemsAnswer plan table r table' → ItemsGiven plan table r table'
  pub edges : (plan list : List ℕ) (r : Number) (list' : List ℕ) → ((i : ℕ) → get_or plan i 0 ≤ max_word) →
      EdgesAnswer plan list r list' → EdgesGiven plan list r list'
  pub total : (plan : List ℕ) (r : Number) → ((i : ℕ) → get_or plan i 0 ≤ max_word) → TotalAnswer plan r → TotalGiven plan r
  pub steps : (plan counts values : List ℕ) → ((i : ℕ) → get_or plan i 0 ≤ max_word) → Steps plan counts values
  pub ready : (plan counts values items : List ℕ) (r : Number) (items' : List ℕ) → ((i : ℕ) → get_or plan i 0 ≤ max_word) →
      ReadyAnswer plan counts values items r items' → ReadyGiven plan counts values items r items'
  -- what lies behind the sizes, and state that the plan does not use, does not show in what a step
  -- or result answers
  pub unread : (plan plan' : List ℕ) (s t : Lent) (c : Call) → take plan_words plan ≡ take plan_words plan' →
      (Short plan s.counts s.values → ⊥) → (Short plan' t.counts t.values → ⊥) → SameUsed (plan_body plan) s t →
      ((call plan s c).refusal ≡ (call plan' t c).refusal) × ((call plan s c).word ≡ (call plan' t c).word)

-- Demand 3. Whatever order the host takes, the answers are the numbers of the unrolled loop.

-- a list l of calls from the state s, which an opening left; B is the plan's body
module _ (B : Body) (plan : List ℕ) (s : Lent) where
  abbrev pub starts_of : ℕ → List Call → ℕ
  starts_of a l = accepted plan (is_start a) s l

  abbrev pub finishes_of : ℕ → List Call → ℕ
  finishes_of a l = accepted plan (is_finish a) s l

  abbrev pub steps_of : List Call → ℕ
  steps_of l = accepted plan is_step s l

  -- the call c, made after the list l
  abbrev pub call_after : List Call → Call → Left
  call_after l c = call plan (play plan s l) c

  -- no item has a pass left
  abbrev pub AtEnd : List Call → Type 0
  AtEnd l = (a : ℕ) → a < item_count B → finishes_of a l ≡ item_passes B a

  pub record InAnyOrder (l : List Call) : Type 0 where
    -- an accepted start in the list is of an item, in its next pass, and answers the number of the item's writer in that pass of the loop
    pub starts : (k m : List Call) (a : ℕ) → l ≡ k ++ (start a ∷ m) → (call_after k (start a)).refusal ≡ 0 →
        (a < item_count B) × (starts_of a k < item_passes B a) × ((call_after k (start a)).word ≡ loop_word B (starts_of a k) (writer (item_at B a)))
    -- so does an accepted finish, which belongs to the pass last started
    pub finishes : (k m : List Call) (a : ℕ) → l ≡ k ++ (finish a ∷ m) → (call_after k (finish a)).refusal ≡ 0 →
        (a < item_count B) × (starts_of a k ≡ suc (finishes_of a k)) × ((call_after k (finish a)).word ≡ loop_word B (finishes_of a k) (writer (item_at B a)))
    -- an accepted result in the list is asked for at the end, and answers the region's final number in the loop
    pub results : (k m : List Call) (g : ℕ) → l ≡ k ++ (result g ∷ m) → (call_after k (result g)).refusal ≡ 0 →
        (g < B.regions) × AtEnd k × ((call_after k (result g)).word ≡ loop_final B g)
    -- the counts of the state are those of accepted starts and finishes
    pub counted : (a : ℕ) → a < item_count B →
        (get_or (play plan s l).counts a 0 ≡ starts_of a l) × (get_or (play plan s l).counts (first_finished + a) 0 ≡ finishes_of a l)
    -- each number of unmet waits is a fresh count over the edges, so a start is accepted after the
    -- list, and refused with 16, by the rule of waits
    pub numbers : AllFresh B (play plan s l).counts (play plan s l).values
    pub accepts_starts : (a : ℕ) → ((call_after l (start a)).refusal ≡ 0) ↔ StartRule (system B) (state_of (play plan s l).counts (play plan s l).values) a
    pub waits : (a : ℕ) → let t = state_of (play plan s l).counts (play plan s l).values in ((call_after l (start a)).refusal ≡ 16)
        ↔ ((a < item_count B) × (t.finished a < item_passes B a) × (t.started a ≡ t.finished a) × (StartRule (system B) t a → ⊥))
    -- what the calls of the list answer, one after another
    pub replied : (k m : List Call) (c : Call) → l ≡ k ++ (c ∷ m) → get_or (replies plan s l) (length k) (call_after l c) ≡ call_after k c
    -- the list does not stop short: while an item has a pass left some step is accepted, and accepted steps lead on to the end
    pub goes_on : (a : ℕ) → a < item_count B → finishes_of a l < item_passes B a → (c : Call) × (is_step c ≡ true) × ((call_after l c).refusal ≡ 0)
    pub leads_on : (k : List Call) × (accepted plan is_step (play plan s l) k ≡ length k) × AtEnd (l ++ k)
    -- the end is reached exactly when the accepted steps are 2 × (passes × items − 2 × wrapped
    -- transfers), and 0 with no pass
    pub ends : AtEnd l ↔ (steps_of l ≡ total_steps B)
    -- exactly then the result of each region is accepted, and it is the region's final number in the loop
    pub accepts_results : (g : ℕ) → g < B.regions → AtEnd l ↔ ((call_after l (result g)).refusal ≡ 0)
    pub final : (g : ℕ) → (call_after l (result g)).refusal ≡ 0 → (call_after l (result g)).word ≡ loop_final B g

  -- what C gets from `taskiter_ready` after the list l, where its slice has room: the items whose
  -- waits are met, by the rule; where there are none and no item runs, the end is reached
  pub record ReadyAfter (l : List Call) (r : Number) (items' : List ℕ) : Type 0 where
    pub accepted : r.refusal ≡ 0
    pub exactly : (a : ℕ) → In a (take r.number items') ↔ StartRule (system B) (state_of (play plan s l).counts (play plan s l).values) a
    pub none : r.number ≡ 0 → ((a : ℕ) → a < item_count B → starts_of a l ≡ finishes_of a l) → AtEnd l

  -- what C gets from `taskiter_play` for the words `calls`, after the calls `before`
  pub record PlayGiven (before : List Call) (calls answers : List ℕ) (r : ℕ) (counts' values' answers' : List ℕ) : Type 0 where
    pub accepted : r ≡ 0
    -- words 2 k and 2 k + 1 of the answers are what call k answers, made after the calls ahead of it; words behind stay
    pub refusal : (k : ℕ) → k < length calls → get_or answers' (2 * k) 0 ≡ (call_after (ahead before calls k) (call_of (get_or calls k 0))).refusal
    pub word : (k : ℕ) → k < length calls → get_or answers' (2 * k + 1) 0 ≡ (call_after (ahead before calls k) (call_of (get_or calls k 0))).word
    pub behind : (length answers' ≡ length answers) × ((i : ℕ) → 2 * length calls ≤ i → get_or answers' i 0 ≡ get_or answers i 0)
    -- so where word 2 k is 0, word 2 k + 1 is the number of the unrolled loop
    pub started : (k a : ℕ) → k < length calls → get_or calls k 0 ≡ word_of (start a) → get_or answers' (2 * k) 0 ≡ 0 →
        get_or answers' (2 * k + 1) 0 ≡ loop_word B (starts_of a (ahead before calls k)) (writer (item_at B a))
    pub finished : (k a : ℕ) → k < length calls → get_or calls k 0 ≡ word_of (finish a) → get_or answers' (2 * k) 0 ≡ 0 →
        get_or answers' (2 * k + 1) 0 ≡ loop_word B (finishes_of a (ahead before calls k)) (writer (item_at B a))
    pub shown : (k g : ℕ) → k < length calls → get_or calls k 0 ≡ word_of (result g) → get_or answers' (2 * k) 0 ≡ 0 →
        AtEnd (ahead before calls k) × (get_or answers' (2 * k + 1) 0 ≡ loop_final B g)
    -- the state at exit is the one after all these calls, and all that is said of lists of calls holds of them
    pub state : lent counts' values' ≡ play plan s (before ++ calls_of calls)
    pub in_any_order : InAnyOrder (before ++ calls_of calls)

  -- what C gets from `taskiter_finish_freeing` of item a after the list l, where its slice has room
  pub record Freed (l : List Call) (a : ℕ) (freed : List ℕ) (r : Left) (freed' : List ℕ) : Type 0 where
    -- it answers and leaves what the ordinary finish does
    pub same : r ≡ call_after l (finish a)
    -- accepted, it lists just the items whose start it makes accepted, each once: their number, and
    -- they; what lies behind stays. It takes none off those whose start was accepted before
    pub exactly : r.refusal ≡ 0 → (b : ℕ) → In b (take (get_or freed' 0 0) (drop 1 freed'))
        ↔ (((call_after (l ++ (finish a ∷ [])) (start b)).refusal ≡ 0) × ((call_after l (start b)).refusal ≡ 0 → ⊥))
    pub once : r.refusal ≡ 0 → distinct (take (get_or freed' 0 0) (drop 1 freed')) ≡ true
    pub fits : r.refusal ≡ 0 → get_or freed' 0 0 ≤ max_items
    pub behind : r.refusal ≡ 0 → drop (1 + get_or freed' 0 0) freed' ≡ drop (1 + get_or freed' 0 0) freed
    pub kept : r.refusal ≡ 0 → (b : ℕ) → (call_after l (start b)).refusal ≡ 0 → (call_after (l ++ (finish a ∷ [])) (start b)).refusal ≡ 0
    pub refused : (r.refusal ≡ 0 → ⊥) → freed' ≡ freed

  -- what C gets of tables that `taskiter_prepare` leaves, with the answer r. A list m of calls is by
  -- these tables or ordinary, call by call, in any mixture
  pub record PreparedGiven (r : Number) (tables : List ℕ) : Type 0 where
    pub made : (r.refusal ≡ 0) × (r.number ≡ item_count B)
    -- its calls answer and leave what the ordinary ones do, and as many are accepted. So what is said
    -- of the ordinary calls, `InAnyOrder` of the list `calls_made m`, holds of it
    pub replied : (m : List Made) → replies_made plan tables s m ≡ replies plan s (calls_made m)
    pub state : (m : List Made) → play_made plan tables s m ≡ play plan s (calls_made m)
    pub counted : (t : Call → Bool) (m : List Made) → accepted_made plan tables t s m ≡ accepted plan t s (calls_made m)
    pub next : (m : List Made) (c : Made) → call_made plan tables (play_made plan tables s m) c ≡ call_after (calls_made m) c.call
    pub freed : (m : List Made) (a : ℕ) (freed : List ℕ) (q : Left) (freed' : List ℕ) → max_items < length freed →
        let t = play_made plan tables s m in FreeingAnswer plan tables t.counts t.values freed a q freed' → Freed (calls_made m) a freed q freed'

  -- what C gets from a check of journals after the list `before`: `check journal` is what it
  -- answers and leaves (paper 02, card 4)
  pub record JournalGiven (before : List Call) (check : List ℕ → Left) : Type 0 where
    -- which journals are accepted, what they leave, where others are refused, and two pieces
    pub checks : Checks plan (play plan s before) check
    -- when the loop is complete, and that the results are then the unrolled loop's
    pub completes : Completes plan s before check
    -- whatever the journal, the state at exit is the one after its first lines, whose steps hold
    -- (the fields of `checks` say which); all that is said of lists of calls holds of it, so its
    -- numbers of unmet waits are fresh too
    pub state : (journal : List ℕ) → (l : List Step) × (rest : List ℕ) × (journal ≡ journal_of l ++ rest) × StepsKept plan (play plan s before) l
        × (lent_by (check journal) ≡ play_steps plan (play plan s before) l)
    pub fresh : (journal : List ℕ) → AllFresh B (check journal).counts (check journal).values
    -- a start that holds states the word that its item's writer has in that pass of the loop
    pub words : (k m : List Step) (a v : ℕ) → StepsKept plan (play plan s before) (k ++ (start_line a v ∷ m)) →
        v ≡ loop_word B (starts_of a (before ++ map call_said k)) (writer (item_at B a))

-- an accepted text, its words w in a lent plan, and lent counts and values
pub record Opened (text w plan counts values : List ℕ) : Type 0 where
  pub size : length w ≡ plan_words
  -- the words hold the text's numbers, starting values and tasks
  pub says : (P : Plan) × Says text P × Holds w P
  pub accepted : (open_of plan counts values).refusal ≡ 0
  pub every_list : (l : List Call) → InAnyOrder (body_of w) plan (lent_by (open_of plan counts values)) l
  -- in the loop a task of kernel 3 has the mean of its reads to the nearest (paper 02, card 3)
  pub means : (p t : ℕ) → t < tasks_of w → kernel_of w t ≡ 3 →
      Nearest (total (map (cells_at (body_of w) p t) (reads_of w t))) (loop_word (body_of w) p t)
  -- the number that `taskiter_total` answers: a list ends the loop exactly if so many of its steps
  -- are accepted
  pub total : (r : Number) → TotalAnswer plan r →
      let s = lent_by (open_of plan counts values) in (r.refusal ≡ 0) × ((l : List Call) → AtEnd (body_of w) plan s l ↔ (steps_of (body_of w) plan s l ≡ r.number))
  -- after every list plan and state are such that neither 11 nor 12 is given
  pub stays_ready : (l : List Call) → let s = play plan (lent_by (open_of plan counts values)) l in Ready plan s.counts s.values
  -- what C gets from `taskiter_ready`, whose contract is `ReadyAnswer`, after every list
  pub ready : (l : List Call) (items : List ℕ) (r : Number) (items' : List ℕ) → max_items ≤ length items →
      let s = lent_by (open_of plan counts values) in ReadyAnswer plan (play plan s l).counts (play plan s l).values items r items' →
      ReadyAfter (body_of w) plan s l r items'
  -- what C gets from `taskiter_play`, whose contract is `Played`, on the state that the opening and any calls since have left, with answers for
  -- two words a call
  pub played : (before : List Call) (calls answers : List ℕ) (r : ℕ) (counts' values' answers' : List ℕ) → 2 * length calls ≤ length answers →
      let s = play plan (lent_by (open_of plan counts values)) before in Played plan s.counts s.values calls answers r counts' values' answers' →
      PlayGiven (body_of w) plan (lent_by (open_of plan counts values)) before calls answers r counts' values' answers'
  -- what C gets from `taskiter_prepare`, whose contract is `PrepareAnswer`, and by its tables
  pub prepared : (tables : List ℕ) (r : Number) (tables' : List ℕ) → prepared_words ≤ length tables → PrepareAnswer plan tables r tables' →
      PreparedGiven (body_of w) plan (lent_by (open_of plan counts values)) r tables'
  -- what C gets from `taskiter_check`, and from `taskiter_check_more` after every list, for lent
  -- slices of 64-bit words
  pub checked : Words plan → Words values → JournalGiven (body_of w) plan (lent_by (open_of plan counts values)) [] (check_of plan counts values)
  pub resumed : Words plan → Words values → (before : List Call) → let t = play plan (lent_by (open_of plan counts values)) before in
      JournalGiven (body_of w) plan (lent_by (open_of plan counts values)) before (check_more_of plan t.counts t.values)

pub record Demand3 : Type 0 where
  pub any_order : (text w behind counts values : List ℕ) → read_of text ≡ read_to w → count_words ≤ length counts → value_words ≤ length values →
      Opened text w (w ++ behind) counts values
  -- kernel 3 gives the mean to the nearest, and a sum has no other such number
  pub nearest : MeanLaws
  -- words and calls are one to one, and 64-bit words say every list of calls with numbers below `call_numbers`: no such list is out of reach
  pub word_of_lem : (c : Call) → call_of (word_of c) ≡ c
  pub call_of_lem : (word : ℕ) → word_of (call_of word) ≡ word
  pub in_words : (l : List Call) → ((c : Call) → In c l → number_of c < call_numbers) →
      (calls : List ℕ) × (calls_of calls ≡ l) × ((i : ℕ) → get_or calls i 0 ≤ max_word)

pub record Demands : Type 0 where
  pub demand_1 : Demand1
  pub demand_2 : Demand2
  pub demand_3 : Demand3
  -- with a lower limit on passes loops within it are read, and calls on them answered, as they are
  pub kept : (most : ℕ) → most ≤ max_passes → Kept most
  pub counts_fit : CountsFit
