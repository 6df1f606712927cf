-- What the records of a text say, and the words that hold it (paper 01, "The plan text"; docs/LAYOUT.md).
use Rattle.std.specs.Prelude.{ℕ, zero, suc, ◌+◌, ◌-◌, ◌*◌, ◌/◌, ◌%◌, Bool, true, false, cond, List, [], ◌∷◌, map, length, get_or, eqb, ltb}
use Rattle.text.specs.declared.Mode.{Mode}
use Rattle.finite.specs.Lists.{tabulate}
use Rattle.plan.specs.Layout.{plan_words, passes_of, ranks_of, regions_of, tasks_of, starting_of, rank_of, kernel_of, constant_of, accesses_of, access_at, task_words}
use Rattle.plan.specs.Limits.{max_regions}

-- a `start` record
pub record Start : Type 0 where
  pub region : ℕ
  pub value : ℕ

-- an `in`, `out` or `inout` record
pub record Access : Type 0 where
  pub mode : Mode
  pub region : ℕ

pub record Task : Type 0 where
  pub rank : ℕ
  pub kernel : ℕ
  pub constant : ℕ
  pub accesses : List Access

-- what the records of a text say, each list in record order. Records that differ can have the same words: the order of `start` records and
-- a starting value of 0 leave no trace in these
pub record Plan : Type 0 where
  pub passes : ℕ
  pub ranks : ℕ
  pub regions : ℕ
  pub starts : List Start
  pub tasks : List Task

-- the modes that read and those that write
abbrev pub read_mode : Mode → Bool
read_mode Mode.In = true
read_mode Mode.Out = false
read_mode Mode.Inout = true

abbrev pub write_mode : Mode → Bool
write_mode Mode.In = false
write_mode Mode.Out = true
write_mode Mode.Inout = true

-- the regions of the accesses whose mode passes the test, in record order
abbrev pub regions_where : (Mode → Bool) → List Access → List ℕ
regions_where p [] = []
regions_where p (a ∷ l) = cond (p a.mode) (a.region ∷ regions_where p l) (regions_where p l)

-- the regions that `start` records name, and those that accesses name
abbrev pub started : List Start → List ℕ
started l = map (λ s. s.region) l

abbrev pub named : List Access → List ℕ
named l = map (λ a. a.region) l

-- how many of the accesses read
abbrev pub read_count : List Access → ℕ
read_count [] = 0
read_count (a ∷ l) = cond (read_mode a.mode) 1 0 + read_count l

-- a region without a `start` record starts at 0
abbrev pub start_at : List Start → ℕ → ℕ
start_at [] g = 0
start_at (s ∷ l) g = cond (eqb s.region g) s.value (start_at l g)

-- an unused task has the words 0
abbrev pub no_task : Task
no_task = record { rank = 0; kernel = 0; constant = 0; accesses = [] }

abbrev pub task_at : List Task → ℕ → Task
task_at l i = get_or l i no_task

abbrev pub mode_word : Mode → ℕ
mode_word Mode.In = 0
mode_word Mode.Out = 1
mode_word Mode.Inout = 2

abbrev pub access_word : Access → ℕ
access_word a = a.region + 128 * mode_word a.mode

-- word j of a task
abbrev pub task_word : Task → ℕ → ℕ
task_word t zero = t.rank
task_word t (suc zero) = t.kernel
task_word t (suc (suc zero)) = t.constant
task_word t (suc (suc (suc zero))) = length t.accesses
task_word t (suc (suc (suc (suc a)))) = get_or (map access_word t.accesses) a 0

-- word i of a plan: the `loop` numbers and the number of tasks, the starting values, the tasks
abbrev pub word_at : Plan → ℕ → ℕ
word_at P zero = P.passes
word_at P (suc zero) = P.ranks
word_at P (suc (suc zero)) = P.regions
word_at P (suc (suc (suc zero))) = length P.tasks
word_at P (suc (suc (suc (suc i)))) =
    cond (ltb i max_regions) (start_at P.starts i) (task_word (task_at P.tasks ((i - max_regions) / task_words)) ((i - max_regions) % task_words))

unfoldable pub words_of : Plan → List ℕ
words_of P = tabulate plan_words (word_at P)

-- what words say; a mode above 2, which no plan in form has, is taken for `inout`
abbrev pub mode_of : ℕ → Mode
mode_of zero = Mode.In
mode_of (suc zero) = Mode.Out
mode_of (suc (suc n)) = Mode.Inout

abbrev pub access_of : ℕ → Access
access_of c = record { mode = mode_of (c / 128); region = c % 128 }

abbrev pub task_of : List ℕ → ℕ → Task
task_of w t =
    record {
      rank = rank_of w t;
      kernel = kernel_of w t;
      constant = constant_of w t;
      accesses = tabulate (accesses_of w t) (λ a. access_of (access_at w t a));
    }

-- a `start` for each of the n regions from g on whose value is not 0
abbrev pub starts_of : List ℕ → ℕ → ℕ → List Start
starts_of w g zero = []
starts_of w g (suc n) =
    cond (eqb (starting_of w g) 0) (starts_of w (suc g) n) (record { region = g; value = starting_of w g } ∷ starts_of w (suc g) n)

unfoldable pub plan_of : List ℕ → Plan
plan_of w =
    record {
      passes = passes_of w;
      ranks = ranks_of w;
      regions = regions_of w;
      starts = starts_of w 0 (regions_of w);
      tasks = tabulate (tasks_of w) (task_of w);
    }
