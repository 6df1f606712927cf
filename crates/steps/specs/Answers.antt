-- What opening, start, finish and result answer and leave (paper 01, "Steps", and 11 to 18 of "Refusals that come from the state"), for every
-- content and length of the lent slices.
use Rattle.std.specs.Prelude.{ℕ, suc, ◌+◌, ◌-◌, ◌*◌, Bool, true, cond, ◌&&◌, ◌||◌, List, eqb, ltb, leb, length, set}
use Rattle.finite.specs.Below.{all_below}
use Rattle.finite.specs.Lists.{mem}
use Rattle.finite.specs.Update.{replaced}
use Rattle.unroll.specs.Sequential.{word_on}
use Rattle.unroll.specs.Machine.{State}
use Rattle.body.specs.Body.{Body, first_slot}
use Rattle.body.specs.Items.{item_count, item_passes}
use Rattle.body.specs.Places.{initial, system, result_of as region_result}
use Rattle.edges.specs.Tests.{kind_at, edge_test}
use Rattle.waits.specs.Waits.{fresh_count}
use Rattle.waits.specs.Stored.{finished_numbers}
use Rattle.graph.specs.Answers.{refusal_of, long_plan, formed_plan, plan_body, is_item}
use Rattle.steps.specs.State.{count_words, value_words, first_finished, first_unmet, first_held, state_of, done_by, unmet_by}

-- the answer, refusal 0 being none and the word of a refused call 0, and the lent state at exit
pub record Left : Type 0 where
  pub refusal : ℕ
  pub word : ℕ
  pub counts : List ℕ
  pub values : List ℕ

-- the counts of item a, which has so many passes, are in form: it has finished no more than it has,
-- and started as many, or one more with a pass left
abbrev pub count_ok : ℕ → State → ℕ → Bool
count_ok passes s a =
    leb (s.finished a) passes
    && (eqb (s.started a) (s.finished a) || (eqb (s.started a) (s.finished a + 1) && ltb (s.finished a) passes))

-- every item has finished every pass that it has
abbrev pub is_complete : Body → State → Bool
is_complete B s = all_below (item_count B) (λ a. eqb (s.finished a) (item_passes B a))

-- 14, 15 and 16 of a start of item a, which has so many passes, with this number of unmet waits; 0
-- where none holds. Of the waits a start looks at the item's own number alone
abbrev pub tests_by : ℕ → State → ℕ → ℕ → ℕ
tests_by passes s number a =
    cond (ltb (s.finished a) passes)
    (cond (eqb (s.started a) (s.finished a))
    (cond (eqb number 0) 0 16)
    15)
    14

abbrev pub start_tests : Body → State → ℕ → ℕ → ℕ
start_tests B s number a = tests_by (item_passes B a) s number a

-- 17 of a finish, 18 of a result
abbrev pub finish_tests : State → ℕ → ℕ
finish_tests s a = cond (eqb (s.started a) (s.finished a)) 17 0

abbrev pub result_tests : Body → State → ℕ
result_tests B s = cond (is_complete B s) 0 18

-- the state that a plan uses, by index: counts, and of the values copies, slots of sends, and held words
module _ (B : Body) where
  abbrev pub is_count : ℕ → Bool
  is_count i =
      ltb i (item_count B)
      || ((leb first_finished i && ltb i (first_finished + item_count B)) || (leb first_unmet i && ltb i (first_unmet + item_count B)))

  -- a count at the opening: of unmet waits a fresh count, else 0
  unfoldable pub open_count : ℕ → ℕ
  open_count i = cond (leb first_unmet i) (fresh_count (system B) (edge_test B) (λ b. 0) (i - first_unmet)) 0

  abbrev pub is_copy : ℕ → Bool
  is_copy x = ltb x (B.ranks * B.regions)

  abbrev pub is_slot : ℕ → Bool
  is_slot x = leb first_slot x && (ltb x (first_slot + item_count B) && eqb (kind_at B (x - first_slot)) 1)

  abbrev pub is_held : ℕ → Bool
  is_held x = leb first_held x && ltb x (first_held + item_count B)

module _ (plan counts values : List ℕ) where
  abbrev pub long_slices : Bool
  long_slices = long_plan plan && (leb count_words (length counts) && leb value_words (length values))

  abbrev pub formed_counts : Bool
  formed_counts = all_below (item_count (plan_body plan)) (λ a. count_ok (item_passes (plan_body plan) a) (state_of counts values) a)

  -- no number of unmet waits is above the number of items
  abbrev pub formed_numbers : Bool
  formed_numbers = all_below (item_count (plan_body plan)) (λ a. leb (unmet_by counts a) (item_count (plan_body plan)))

  -- 11, 12 and 13 of a step or result, where the plan's test of form gave `formed`; `within`: its
  -- number lies within its limit
  abbrev pub refusal_by : Bool → Bool → ℕ
  refusal_by formed within = refusal_of long_slices (formed && (formed_counts && formed_numbers)) within

  abbrev pub call_refusal : Bool → ℕ
  call_refusal = refusal_by (formed_plan plan)

  -- nothing is changed
  abbrev pub refused : ℕ → Left
  refused n = record { refusal = n; word = 0; counts = counts; values = values }

  -- refused for n, if that is not 0
  abbrev pub unless : ℕ → Left → Left
  unless n accepted = cond (eqb n 0) accepted (refused n)

  -- every copy holds its starting value; passes, slots and held words are 0; unmet waits are
  -- counted; what the plan does not use stays
  abbrev pub opened : Left
  opened =
      record {
        refusal = 0;
        word = 0;
        counts = replaced (is_count (plan_body plan)) (open_count (plan_body plan)) counts;
        values = replaced (λ x. is_copy (plan_body plan) x || (is_slot (plan_body plan) x || is_held (plan_body plan) x)) (initial (plan_body plan)) values;
      }

  -- an opening, where the plan's test of form gave `formed`; `open_of` takes what the test gives. So
  -- with each other call
  abbrev pub open_by : Bool → Left
  open_by formed = unless (refusal_of long_slices formed true) opened

  unfoldable pub open_of : Left
  open_of = open_by (formed_plan plan)

  -- item a reads and computes its word, which is answered and held; the start is counted
  abbrev pub word_now : ℕ → ℕ
  word_now a = word_on (system (plan_body plan)) a (state_of counts values).places

  abbrev pub started : ℕ → Left
  started a =
      record {
        refusal = 0;
        word = word_now a;
        counts = set counts a (suc ((state_of counts values).started a));
        values = set values (first_held + a) (word_now a);
      }

  abbrev pub start_by : Bool → ℕ → Left
  start_by formed a = unless (refusal_by formed (is_item plan a)) (unless (start_tests (plan_body plan) (state_of counts values) (unmet_by counts a) a) (started a))

  unfoldable pub start_of : ℕ → Left
  start_of = start_by (formed_plan plan)

  -- the counts after a finish of item a: one is taken off the number of each other item whose wait
  -- it meets, a 0 staying 0, its own is counted afresh, and the finish is counted
  unfoldable pub finished_counts : ℕ → List ℕ
  finished_counts a =
      set (finished_numbers (system (plan_body plan)) (edge_test (plan_body plan)) first_unmet (done_by counts) a counts)
      (first_finished + a) (suc (done_by counts a))

  -- the word that item a holds is answered, and goes to the places that a writes; the counts are
  -- those after the finish
  abbrev pub finished : ℕ → Left
  finished a =
      record {
        refusal = 0;
        word = (state_of counts values).held a;
        counts = finished_counts a;
        values = replaced (λ x. mem x ((system (plan_body plan)).writes a)) (λ x. (state_of counts values).held a) values;
      }

  abbrev pub finish_by : Bool → ℕ → Left
  finish_by formed a = unless (refusal_by formed (is_item plan a)) (unless (finish_tests (state_of counts values) a) (finished a))

  unfoldable pub finish_of : ℕ → Left
  finish_of = finish_by (formed_plan plan)

  -- region g's result; nothing is changed
  abbrev pub shown : ℕ → Left
  shown g = record { refusal = 0; word = region_result (plan_body plan) (state_of counts values) g; counts = counts; values = values }

  abbrev pub result_by : Bool → ℕ → Left
  result_by formed g =
      unless (refusal_by formed (ltb g (plan_body plan).regions)) (unless (result_tests (plan_body plan) (state_of counts values)) (shown g))

  unfoldable pub result_of : ℕ → Left
  result_of = result_by (formed_plan plan)
