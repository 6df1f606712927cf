-- The starred cases (paper 01, "Tried by hand"), one field a case, and cases of cards 1 to 5 and 7,
-- over the definitions. Proved in proofs/Table.antt.
use Rattle.std.specs.Prelude.{ℕ, ◌+◌, ◌-◌, ◌*◌, ◌^◌, ◌≤◌, ◌≡◌, List, [], ◌∷◌, ◌++◌, map, length, get_or, set, replicate}
use Prim.Native.String.{String}
use Rattle.finite.specs.Lists.{tabulate}
use Rattle.kernels.specs.Kernels.{total, kernel_word}
use Rattle.body.specs.Items.{item_passes}
use Rattle.body.specs.Places.{system}
use Rattle.body.specs.TwoRanks.{ten_edges}
use Rattle.edges.specs.Rule.{AllEdges}
use Rattle.edges.specs.Tests.{edge_test}
use Rattle.waits.specs.Waits.{fresh_count}
use Rattle.waits.specs.InStep.{sources_of}
use Rattle.plan.specs.Limits.{max_word}
use Rattle.plan.specs.Layout.{body_of}
use Rattle.reading.specs.Reading.{read_of, read_within, accepted as read_to, refused}
use Rattle.reading.specs.Written.{text_of}
use Rattle.steps.specs.State.{count_words, value_words, first_unmet, unmet_by}
use Rattle.steps.specs.Answers.{Left, open_of}
use Rattle.prepared.specs.Tables.{targets_of}
use Rattle.journal.specs.Checking.{check_of}
use Rattle.journal.specs.Laws.{Words}
use Rattle.text.specs.Ascii.{ascii}
use Rattle.report.specs.Report.{lines_of}
use Rattle.steps.specs.Calls.{Call, start, finish, result, is_step, Lent, lent, lent_by, call, play, accepted}

-- the example on two ranks ("The run program") with so many passes, in digits; with 2; with none
abbrev pub example_of : String → List ℕ
example_of passes =
    ascii "loop\t"
    ++ (ascii passes
    ++ ascii "\t2\t2\nstart\t0\t5\nbegin\t0\t1\t1\ninout\t0\nend\nbegin\t1\t1\t0\nin\t0\ninout\t1\nend\n")

abbrev pub example : List ℕ
example = example_of "2"

abbrev pub no_pass : List ℕ
no_pass = example_of "0"

-- the example with a value of 0 written out and its `start` lines falling
abbrev pub unordered : List ℕ
unordered =
    ascii "loop\t2\t2\t2\nstart\t1\t0\nstart\t0\t5\nbegin\t0\t1\t1\ninout\t0\nend\nbegin\t1\t1\t0\nin\t0\ninout\t1\nend\n"

-- the words that the example is read to with so many passes
abbrev pub example_words : ℕ → List ℕ
example_words passes =
    passes ∷ 2 ∷ 2 ∷ 2 ∷ 5 ∷ (replicate 127 0
    ++ (0 ∷ 1 ∷ 1 ∷ 1 ∷ 256 ∷ (replicate 7 0
    ++ (1 ∷ 1 ∷ 0 ∷ 2 ∷ 0 ∷ 257 ∷ replicate (6 + 12 * 126) 0))))

-- a text of two tasks on one rank that only read one region
abbrev pub readers : List ℕ
readers = ascii "loop\t1\t1\t1\nbegin\t0\t0\t0\nin\t0\nend\nbegin\t0\t0\t0\nin\t0\nend\n"

abbrev pub readers_words : List ℕ
readers_words =
    1 ∷ 1 ∷ 1 ∷ 2 ∷ (replicate 128 0
    ++ (0 ∷ 0 ∷ 0 ∷ 1 ∷ 0 ∷ (replicate 7 0
    ++ (0 ∷ 0 ∷ 0 ∷ 1 ∷ 0 ∷ replicate (7 + 12 * 126) 0))))

-- a text whose task 0 reads, on rank 0, a region that task 1 writes on rank 1: the read stands
-- ahead of its writer, so their transfer is wrapped
abbrev pub ahead : List ℕ
ahead =
    ascii "loop\t2\t2\t2\nstart\t0\t5\nbegin\t0\t1\t0\nin\t0\ninout\t1\nend\nbegin\t1\t1\t1\ninout\t0\nend\n"

abbrev pub ahead_words : List ℕ
ahead_words =
    2 ∷ 2 ∷ 2 ∷ 2 ∷ 5 ∷ (replicate 127 0
    ++ (0 ∷ 1 ∷ 0 ∷ 2 ∷ 0 ∷ 257 ∷ (replicate 6 0
    ++ (1 ∷ 1 ∷ 1 ∷ 1 ∷ 256 ∷ replicate (7 + 12 * 126) 0))))

-- a plan of 64-bit words that holds the example with so many passes, and a state that an opening of it left, whatever was lent
pub record Fresh (passes : ℕ) (plan : List ℕ) (s : Lent) : Type 0 where
  pub behind : List ℕ
  pub counts : List ℕ
  pub values : List ℕ
  pub holds : plan ≡ example_words passes ++ behind
  pub words : (i : ℕ) → get_or plan i 0 ≤ max_word
  pub long_counts : count_words ≤ length counts
  pub long_values : value_words ≤ length values
  pub opened : s ≡ lent_by (open_of plan counts values)

-- a call after a list of calls is accepted with a word, or refused
pub record Accepts (r : Left) (v : ℕ) : Type 0 where
  pub refusal : r.refusal ≡ 0
  pub word : r.word ≡ v

abbrev pub after : List ℕ → Lent → List Call → Call → Left
after plan s l c = call plan (play plan s l) c

-- how many waits of a plan's four items are unmet, where they have finished so many passes
abbrev pub unmet_at : List ℕ → List ℕ → List ℕ
unmet_at w finished = map (fresh_count (system (body_of w)) (edge_test (body_of w)) (λ a. get_or finished a 0)) (0 ∷ 1 ∷ 2 ∷ 3 ∷ [])

-- the state s with another number of unmet waits stored for item a
abbrev pub stored : Lent → ℕ → ℕ → Lent
stored s a n = lent (set s.counts (first_unmet + a) n) s.values

-- what the check of a journal of the example answers, whatever words were lent
abbrev pub CheckedTo : List ℕ → ℕ → ℕ → Type 0
CheckedTo journal refusal number = (plan : List ℕ) (s : Lent) (F : Fresh 2 plan s) → Words F.values →
    ((check_of plan F.counts F.values journal).refusal ≡ refusal) × ((check_of plan F.counts F.values journal).word ≡ number)

pub record Table : Type 0 where
  -- the texts are read to these words
  pub example_read : read_of example ≡ read_to (example_words 2)
  pub no_pass_read : read_of no_pass ≡ read_to (example_words 0)
  pub readers_read : read_of readers ≡ read_to readers_words
  -- card 1: the example and the text in another order are read to the same words, and the example is their written text
  pub unordered_read : read_of unordered ≡ read_to (example_words 2)
  pub written : text_of (example_words 2) ≡ example
  -- A the edges that the paper prints
  pub case_a : AllEdges (body_of (example_words 2)) ten_edges
  -- B the values that it prints, and the 16 steps: some list of calls leads to them, and every list after which a result is accepted
  pub case_b : (plan : List ℕ) (s : Lent) → Fresh 2 plan s → (l : List Call) → (after plan s l (result 0)).refusal ≡ 0 →
      (accepted plan is_step s l ≡ 16) × Accepts (after plan s l (result 0)) 7 × Accepts (after plan s l (result 1)) 13
  pub reaches_b : (plan : List ℕ) (s : Lent) → Fresh 2 plan s → (l : List Call) × ((after plan s l (result 0)).refusal ≡ 0)
  -- C with passes 0: values 5 and 0, no steps, start of item 0 gives 14
  pub case_c : (plan : List ℕ) (s : Lent) → Fresh 0 plan s → (l : List Call) →
      Accepts (after plan s l (result 0)) 5 × Accepts (after plan s l (result 1)) 0 × (accepted plan is_step s l ≡ 0)
      × ((after plan s l (start 0)).refusal ≡ 14)
  -- what the run program prints for the example, whole
  pub printed : lines_of example ≡
      ascii "item 0 task 0\nitem 1 send 0\nitem 2 receive 1\nitem 3 task 1\n"
      ++ (ascii "edge 0 0 1\nedge 0 1 0\nedge 1 0 1\nedge 1 1 1\nedge 1 2 0\nedge 2 1 1\nedge 2 2 1\nedge 2 3 0\n"
      ++ ascii "edge 3 2 1\nedge 3 3 1\nsteps 16\nvalue 0 7\nvalue 1 13\n")
  -- card 2: the send and the receive, items 2 and 3, have one pass and the tasks two, so 12 steps
  pub ahead_read : read_of ahead ≡ read_to ahead_words
  pub ahead_passes : map (item_passes (body_of ahead_words)) (0 ∷ 1 ∷ 2 ∷ 3 ∷ []) ≡ 2 ∷ 2 ∷ 1 ∷ 1 ∷ []
  pub ahead_printed : lines_of ahead ≡
      ascii "item 0 task 0\nitem 1 task 1\nitem 2 send 1\nitem 3 receive 0\n"
      ++ (ascii "edge 0 0 1\nedge 0 3 0\nedge 1 1 1\nedge 1 2 0\nedge 2 1 1\nedge 2 2 1\nedge 2 3 0\nedge 3 0 1\n"
      ++ ascii "edge 3 2 1\nedge 3 3 1\nsteps 12\nvalue 0 7\nvalue 1 11\n")
  -- card 5: 1,000,001 passes, which the limit of before refused with 3, and 10^12 are read; one more gives 3
  pub more_passes_read : read_of (example_of "1000001") ≡ read_to (example_words 1000001)
  pub more_passes_before : read_within 1000000 (example_of "1000001") ≡ refused 3 1
  pub most_passes_read : read_of (example_of "1000000000000") ≡ read_to (example_words (10 ^ 12))
  pub too_many_passes : read_of (example_of "1000000000001") ≡ refused 3 1
  -- with 10^12 passes: some list leads to the end, and every such list has 8 × 10^12 accepted steps; region 0 is 10^12 + 5 then
  pub most_passes_end : (plan : List ℕ) (s : Lent) → Fresh (10 ^ 12) plan s → (l : List Call) → (after plan s l (result 0)).refusal ≡ 0 →
      (accepted plan is_step s l ≡ 8 * 10 ^ 12) × Accepts (after plan s l (result 0)) (10 ^ 12 + 5)
  pub most_passes_reached : (plan : List ℕ) (s : Lent) → Fresh (10 ^ 12) plan s → (l : List Call) × ((after plan s l (result 0)).refusal ≡ 0)
  -- a start that takes the count of item 0 to 2^32 answers 2^32 + 5; some list leads to it
  pub past_32_bits : (plan : List ℕ) (s : Lent) → Fresh (10 ^ 12) plan s → (l : List Call) →
      get_or (play plan s l).counts 0 0 ≡ 2 ^ 32 - 1 → (after plan s l (start 0)).refusal ≡ 0 →
      ((after plan s l (start 0)).word ≡ 2 ^ 32 + 5) × (get_or (after plan s l (start 0)).counts 0 0 ≡ 2 ^ 32)
  pub past_32_reached : (plan : List ℕ) (s : Lent) → Fresh (10 ^ 12) plan s →
      (l : List Call) × (get_or (play plan s l).counts 0 0 ≡ 2 ^ 32 - 1) × ((after plan s l (start 0)).refusal ≡ 0)
  -- card 7: with no pass finished each item but the first waits for the one before. With item 0
  -- finished once, it waits for the send, item 1, which waits for nothing. With the send finished
  -- too, item 0 waits for nothing, and the send for item 0 and for the receive. At the end nothing
  -- waits
  pub unmet_opened : unmet_at (example_words 2) [] ≡ 0 ∷ 1 ∷ 1 ∷ 1 ∷ []
  pub unmet_task_run : unmet_at (example_words 2) (1 ∷ []) ≡ 1 ∷ 0 ∷ 1 ∷ 1 ∷ []
  pub unmet_send_run : unmet_at (example_words 2) (1 ∷ 1 ∷ []) ≡ 0 ∷ 2 ∷ 0 ∷ 1 ∷ []
  pub unmet_ended : unmet_at (example_words 2) (2 ∷ 2 ∷ 2 ∷ 2 ∷ []) ≡ 0 ∷ 0 ∷ 0 ∷ 0 ∷ []
  -- a wrapped transfer: its send, item 2, has finished its one pass, and waits for no other
  pub unmet_wrapped : unmet_at ahead_words (1 ∷ 1 ∷ 1 ∷ 0 ∷ []) ≡ 1 ∷ 0 ∷ 0 ∷ 0 ∷ []
  -- prepared, the example has these targets, and so many other items have an edge to each of its
  -- items
  pub targets_example : tabulate 4 (targets_of (body_of (example_words 2))) ≡ (1 ∷ []) ∷ (0 ∷ 2 ∷ []) ∷ (1 ∷ 3 ∷ []) ∷ (2 ∷ []) ∷ []
  pub sources_example : tabulate 4 (sources_of (system (body_of (example_words 2))) (edge_test (body_of (example_words 2)))) ≡ 1 ∷ 2 ∷ 2 ∷ 1 ∷ []
  -- an opening of the example stores its numbers. A start goes by what is stored: with 0 that of
  -- item 3 is accepted, with 4, the number of items, that of item 0 gives 16, and with 5 each gives
  -- 12
  pub stored_opened : (plan : List ℕ) (s : Lent) → Fresh 2 plan s → map (unmet_by s.counts) (0 ∷ 1 ∷ 2 ∷ 3 ∷ []) ≡ 0 ∷ 1 ∷ 1 ∷ 1 ∷ []
  pub stored_none : (plan : List ℕ) (s : Lent) → Fresh 2 plan s → (call plan (stored s 3 0) (start 3)).refusal ≡ 0
  pub stored_most : (plan : List ℕ) (s : Lent) → Fresh 2 plan s → (call plan (stored s 0 4) (start 0)).refusal ≡ 16
  pub stored_above : (plan : List ℕ) (s : Lent) → Fresh 2 plan s → (a : ℕ) → (call plan (stored s 0 5) (start a)).refusal ≡ 12
  -- D kernel 3 on four times 2^64 - 1, E on 1, 1, 1, 0, as card 3 has it
  pub case_d : (c : ℕ) → kernel_word 3 c ((2 ^ 64 - 1) ∷ (2 ^ 64 - 1) ∷ (2 ^ 64 - 1) ∷ (2 ^ 64 - 1) ∷ []) ≡ 2 ^ 64 - 1
  pub case_e : (c : ℕ) → kernel_word 3 c (1 ∷ 1 ∷ 1 ∷ 0 ∷ []) ≡ 1
  -- card 3: a sum of 3 gives 1, a sum of 6 gives 2, a sum of 10 gives 2
  pub mean_of_3 : (c : ℕ) (reads : List ℕ) → length reads ≡ 4 → total reads ≡ 3 → kernel_word 3 c reads ≡ 1
  pub mean_of_6 : (c : ℕ) (reads : List ℕ) → length reads ≡ 4 → total reads ≡ 6 → kernel_word 3 c reads ≡ 2
  pub mean_of_10 : (c : ℕ) (reads : List ℕ) → length reads ≡ 4 → total reads ≡ 10 → kernel_word 3 c reads ≡ 2
  -- F kernel 1, read 2^64 - 1, c 1; G kernel 2, reads 3 and 5, c 0
  pub case_f : kernel_word 1 1 ((2 ^ 64 - 1) ∷ []) ≡ 0
  pub case_g : kernel_word 2 0 (3 ∷ 5 ∷ []) ≡ 2 ^ 64 - 2
  -- H fresh state: start 3 gives 16, finish 0 gives 17, result 0 gives 18
  pub case_h : (plan : List ℕ) (s : Lent) → Fresh 2 plan s →
      ((call plan s (start 3)).refusal ≡ 16) × ((call plan s (finish 0)).refusal ≡ 17) × ((call plan s (result 0)).refusal ≡ 18)
  -- I start 0 twice: the first is accepted with 6, the second gives 15
  pub case_i : (plan : List ℕ) (s : Lent) → Fresh 2 plan s →
      Accepts (call plan s (start 0)) 6 × ((after plan s (start 0 ∷ []) (start 0)).refusal ≡ 15)
  -- journals of the example: none, and its first start, are unfinished; that start with another word,
  -- and a start before its turn, give 21 at line 1; a line without its line feed gives 20
  pub journal_none : CheckedTo [] 0 0
  pub journal_start : CheckedTo (ascii "start\t0\t6\n") 0 0
  pub journal_word : CheckedTo (ascii "start\t0\t7\n") 21 1
  pub journal_early : CheckedTo (ascii "start\t3\t6\n") 21 1
  pub journal_unended : CheckedTo (ascii "start\t0\t6") 20 1
  -- J two tasks on one rank that only read one region: each has its own edge, and there is none between them
  pub case_j : AllEdges (body_of readers_words) ((0, 0, 1) ∷ (1, 1, 1) ∷ [])
  -- K a second `begin` before `end`: 4 at its line, the third. L `in` 0 then `out` 0: 6 at the fourth line
  pub case_k : read_of (ascii "loop\t2\t2\t2\nbegin\t0\t1\t1\nbegin\t1\t1\t0\nend\n") ≡ refused 4 3
  pub case_l : read_of (ascii "loop\t2\t2\t2\nbegin\t0\t0\t1\nin\t0\nout\t0\nend\n") ≡ refused 6 4
