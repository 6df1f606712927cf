-- The refusals one by one (paper 01, "Refusals that come from the input"): when each fits a line, by the records of the lines before it
-- and by nothing else. `Laws.first_fits` says that reading answers the first that fits.
use Rattle.text.specs.declared.Record.{Record}
use Rattle.text.specs.declared.Record.TheVariants.{Loop, Begin, End, Unreadable}
use Rattle.std.specs.Prelude.{length, eqb, ltb, Bool, true, false, cond, not, ◌&&◌, List, [], ◌∷◌, ◌++◌, ℕ, zero, suc, ◌+◌}
use Rattle.finite.specs.Lists.{mem}
use Rattle.kernels.specs.Kernels.{suits}
use Rattle.text.specs.Records.{record_of}
use Rattle.plan.specs.Limits.{max_accesses, max_kernel, max_passes, max_ranks, max_regions, max_tasks}
use Rattle.reading.specs.Plan.{Access, named, read_count}
use Rattle.reading.specs.Reading.{below, is_word, lies, value_of}

abbrev pub is_loop : Record → Bool
is_loop (Loop p q n) = true
is_loop (Record.Start g v) = false
is_loop (Begin q k c) = false
is_loop (Record.Access m g) = false
is_loop End = false
is_loop Unreadable = false

abbrev pub is_begin : Record → Bool
is_begin (Begin q k c) = true
is_begin (Loop p q n) = false
is_begin (Record.Start g v) = false
is_begin (Record.Access m g) = false
is_begin End = false
is_begin Unreadable = false

abbrev pub is_end : Record → Bool
is_end End = true
is_end (Loop p q n) = false
is_end (Record.Start g v) = false
is_end (Begin q k c) = false
is_end (Record.Access m g) = false
is_end Unreadable = false

-- how many records pass the test
abbrev pub count_of : (Record → Bool) → List Record → ℕ
count_of p [] = 0
count_of p (r ∷ rs) = cond (p r) 1 0 + count_of p rs

abbrev pub begins : List Record → ℕ
begins = count_of is_begin

-- a task is open: one `begin` more than `end`s
abbrev pub is_open : List Record → Bool
is_open rs = ltb (count_of is_end rs) (begins rs)

-- the ranks and the regions that the `loop` line, which is the first, gives
abbrev pub ranks_said : List Record → ℕ
ranks_said [] = 0
ranks_said (Loop p q n ∷ rs) = value_of q
ranks_said (Record.Start g v ∷ rs) = 0
ranks_said (Begin q k c ∷ rs) = 0
ranks_said (Record.Access m g ∷ rs) = 0
ranks_said (End ∷ rs) = 0
ranks_said (Unreadable ∷ rs) = 0

abbrev pub regions_said : List Record → ℕ
regions_said [] = 0
regions_said (Loop p q n ∷ rs) = value_of n
regions_said (Record.Start g v ∷ rs) = 0
regions_said (Begin q k c ∷ rs) = 0
regions_said (Record.Access m g ∷ rs) = 0
regions_said (End ∷ rs) = 0
regions_said (Unreadable ∷ rs) = 0

-- the regions that `start` lines name
abbrev pub starts_said : List Record → List ℕ
starts_said [] = []
starts_said (Record.Start g v ∷ rs) = value_of g ∷ starts_said rs
starts_said (Loop p q n ∷ rs) = starts_said rs
starts_said (Begin q k c ∷ rs) = starts_said rs
starts_said (Record.Access m g ∷ rs) = starts_said rs
starts_said (End ∷ rs) = starts_said rs
starts_said (Unreadable ∷ rs) = starts_said rs

-- the last task: the kernel of the last `begin`, and the accesses behind it
pub record Last : Type 0 where
  pub kernel : ℕ
  pub accesses : List Access

abbrev pub last_from : Last → List Record → Last
last_from t [] = t
last_from t (Begin q k c ∷ rs) = last_from (record { kernel = value_of k; accesses = [] }) rs
last_from t (Record.Access m g ∷ rs) = last_from (record { kernel = t.kernel; accesses = t.accesses ++ (record { mode = m; region = value_of g } ∷ []) }) rs
last_from t (Loop p q n ∷ rs) = last_from t rs
last_from t (Record.Start g v ∷ rs) = last_from t rs
last_from t (End ∷ rs) = last_from t rs
last_from t (Unreadable ∷ rs) = last_from t rs

abbrev pub last_task : List Record → Last
last_task = last_from (record { kernel = 0; accesses = [] })

-- 1: a line not in form
abbrev pub unformed : Record → Bool
unformed Unreadable = true
unformed (Loop p q n) = false
unformed (Record.Start g v) = false
unformed (Begin q k c) = false
unformed (Record.Access m g) = false
unformed End = false

-- 2: first record not `loop`, a later `loop`, or a `start` after a `begin`
abbrev pub misplaced : List Record → Record → Bool
misplaced [] r = not (is_loop r)
misplaced (x ∷ rs) (Loop p q n) = true
misplaced (x ∷ rs) (Record.Start g v) = not (eqb (begins (x ∷ rs)) 0)
misplaced (x ∷ rs) (Begin q k c) = false
misplaced (x ∷ rs) (Record.Access m g) = false
misplaced (x ∷ rs) End = false
misplaced (x ∷ rs) Unreadable = false

-- 4: `begin` while a task is open
abbrev pub reopened : List Record → Record → Bool
reopened rs r = is_begin r && is_open rs

-- 5: an access or `end` with no task open
abbrev pub unopened : List Record → Record → Bool
unopened rs (Record.Access m g) = not (is_open rs)
unopened rs End = not (is_open rs)
unopened rs (Loop p q n) = false
unopened rs (Record.Start g v) = false
unopened rs (Begin q k c) = false
unopened rs Unreadable = false

-- 3: a number below or above its limits
abbrev pub exceeds : List Record → Record → Bool
exceeds rs (Loop p q n) = not (lies 0 max_passes p && (lies 1 max_ranks q && lies 1 max_regions n))
exceeds rs (Record.Start g v) = not (below (regions_said rs) g && is_word v)
exceeds rs (Begin q k c) = not (below (ranks_said rs) q && (lies 0 max_kernel k && is_word c))
exceeds rs (Record.Access m g) = not (below (regions_said rs) g)
exceeds rs End = false
exceeds rs Unreadable = false

-- 10: 129th `begin`, 9th access
abbrev pub too_many : List Record → Record → Bool
too_many rs (Begin q k c) = not (ltb (begins rs) max_tasks)
too_many rs (Record.Access m g) = not (ltb (length (last_task rs).accesses) max_accesses)
too_many rs (Loop p q n) = false
too_many rs (Record.Start g v) = false
too_many rs End = false
too_many rs Unreadable = false

-- 6: a region named twice in one task, or in two `start` records
abbrev pub named_twice : List Record → Record → Bool
named_twice rs (Record.Start g v) = mem (value_of g) (starts_said rs)
named_twice rs (Record.Access m g) = mem (value_of g) (named (last_task rs).accesses)
named_twice rs (Loop p q n) = false
named_twice rs (Begin q k c) = false
named_twice rs End = false
named_twice rs Unreadable = false

-- 9: at `end`, the kernel's number of reads is not met
abbrev pub unsuited : List Record → Record → Bool
unsuited rs r = is_end r && not (suits (last_task rs).kernel (read_count (last_task rs).accesses))

-- the first that fits, within a line: 1, 2, 4 or 5, 3, 10, 6, 9; 0 where none does
abbrev pub first_fit : List Record → Record → ℕ
first_fit rs r =
    cond (unformed r) 1
    (cond (misplaced rs r) 2
    (cond (reopened rs r) 4
    (cond (unopened rs r) 5
    (cond (exceeds rs r) 3
    (cond (too_many rs r) 10
    (cond (named_twice rs r) 6
    (cond (unsuited rs r) 9
    0)))))))

-- after the last line, one past it: 2 an empty text, 7 a task open, 8 no task
abbrev pub last_fit : List Record → ℕ
last_fit [] = 2
last_fit (r ∷ rs) = cond (is_open (r ∷ rs)) 7 (cond (eqb (begins (r ∷ rs)) 0) 8 0)

-- a refusal and its line; or none, and the line one past the last
pub data Fit : Type 0 where
  fit : ℕ → ℕ → Fit
  no_fit : ℕ → Fit

-- the refusal k at line n; where k is 0 there is none, and it goes on
abbrev pub fit_at : ℕ → ℕ → Fit → Fit
fit_at zero n f = f
fit_at (suc k) n f = fit (suc k) n

-- the lines from line n on, the records rs before them; what follows the last line feed must be empty
abbrev pub fit_from : ℕ → List Record → List (List ℕ) → Fit
fit_from n rs [] = fit 1 n
fit_from n rs ([] ∷ []) = fit_at (last_fit rs) n (no_fit n)
fit_from n rs ((c ∷ l) ∷ []) = fit 1 n
fit_from n rs (l ∷ m ∷ ls) = fit_at (first_fit rs (record_of l)) n (fit_from (n + 1) (rs ++ (record_of l ∷ [])) (m ∷ ls))
