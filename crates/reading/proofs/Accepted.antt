-- What is read keeps the limits.
use Prim.Native.Nat.{ℕ, ◌<◌}
use mathlib.Core.Path.{◌≡◌, refl}
use mathlib.Core.Bool.{Bool, true, false, not}
use mathlib.Core.List.{[], ◌∷◌, ◌++◌}
use native.Mathlib.Omega.{arith}
use borrow.Author.Tests.{ltb-true, le-leb, not-true}
use lib.Dec.{leb, ltb}
use lib.ListN.{length, length-append}
use Rattle.text.specs.declared.Number.{Number}
use Rattle.text.specs.declared.Number.TheVariants.{Value, TooLarge, Malformed}
use Rattle.text.specs.declared.Record.{Record}
use Rattle.text.specs.declared.Record.TheVariants.{Loop, Begin, End, Unreadable}
use Rattle.finite.specs.Lists.{distinct, mem}
use Rattle.finite.proofs.Members.{distinct_snoc}
use Rattle.finite.proofs.Tabulate.{map_append}
use Rattle.finite.proofs.Tests.{and_intro, and-true, not_both}
use Rattle.kernels.specs.Kernels.{suits}
use Rattle.plan.specs.Limits.{max_passes, max_ranks, max_regions, max_tasks, max_word}
use Rattle.reading.specs.Plan.{Plan, Task, named, read_count, started}
use Rattle.reading.specs.Reading.{State, Step, below, closed, first, is_word, lies, need, new_task, next, no_task_yet, opened, refuse, step, value_of, with_access, with_loop, with_start, with_task}
use Rattle.reading.specs.Valid.{access_fits, in_word, open_fits, start_fits, task_fits}
use Rattle.reading.proofs.Limits.{Limits, Opens, is_open}
use Rattle.reading.proofs.Lists.{every_snoc}

abbrev pub good : State → Type 0
good first = Unit
good (closed P) = Limits P
good (opened P t) = Limits P × (length P.tasks < max_tasks) × Opens P.ranks P.regions t

abbrev pub good_step : Step → Type 0
good_step (next s) = good s
good_step (refuse n) = Unit

good_need : (t : Bool) (n : ℕ) (x : Step) → (t ≡ true → good_step x) → good_step (need t n x)
good_need true n x h = h refl
good_need false n x h = tt

pub below_value : (n : ℕ) (x : Number) → below n x ≡ true → ltb (value_of x) n ≡ true
below_value n (Value v) h = h
below_value n TooLarge h = absurd (not_both h refl)
below_value n Malformed h = absurd (not_both h refl)

lies_value : (a b : ℕ) (x : Number) → lies a b x ≡ true → (leb a (value_of x) ≡ true) × (leb (value_of x) b ≡ true)
lies_value a b (Value v) h = and-true (leb a v) (leb v b) h
lies_value a b TooLarge h = absurd (not_both h refl)
lies_value a b Malformed h = absurd (not_both h refl)

loop_good : (p q n : ℕ) → leb p max_passes ≡ true → (leb 1 q ≡ true) × (leb q max_ranks ≡ true) → (leb 1 n ≡ true) × (leb n max_regions ≡ true) → Limits (with_loop p q n)
unfolding distinct
loop_good p q n a b c =
    record {
      passes = a;
      some_rank = b.0;
      ranks = b.1;
      some_region = c.0;
      regions = c.1;
      starts = refl;
      once = refl;
      count = refl;
      tasks = refl;
    }

start_good : (P : Plan) (g v : ℕ) → Limits P → ltb g P.regions ≡ true → in_word v ≡ true → mem g (started P.starts) ≡ false → Limits (with_start P g v)
start_good P g v l a b c =
    record {
      passes = l.passes;
      some_rank = l.some_rank;
      ranks = l.ranks;
      some_region = l.some_region;
      regions = l.regions;
      starts = every_snoc (start_fits P.regions) P.starts (record { region = g; value = v }) l.starts (and_intro (ltb g P.regions) (in_word v) a b);
      once = rw (map_append (λ s. s.region) P.starts (record { region = g; value = v } ∷ [])) (distinct_snoc (started P.starts) g l.once c);
      count = l.count;
      tasks = l.tasks;
    }

begin_good : (P : Plan) (q k c : ℕ) → Limits P → ltb q P.ranks ≡ true → leb k 4 ≡ true → in_word c ≡ true → ltb (length P.tasks) max_tasks ≡ true → good (opened P (new_task q k c))
unfolding distinct
begin_good P q k c l a b d e =
    (l, ltb-true _ _ e, record { rank = a; kernel = b; constant = d; count = refl; accesses = refl; once = refl })

access_good : (q n : ℕ) (t : Task) (m : _) (g : ℕ) → Opens q n t → ltb g n ≡ true → ltb (length t.accesses) 8 ≡ true → mem g (named t.accesses) ≡ false → Opens q n (with_access t m g)
access_good q n t m g o a b c =
    let k : length t.accesses < 8 = ltb-true _ _ b in
    record {
      rank = o.rank;
      kernel = o.kernel;
      constant = o.constant;
      count = le-leb (length (with_access t m g).accesses) 8 (omega (arith, length-append t.accesses (record { mode = m; region = g } ∷ [])));
      accesses = every_snoc (access_fits n) t.accesses (record { mode = m; region = g }) o.accesses a;
      once = rw (map_append (λ s. s.region) t.accesses (record { mode = m; region = g } ∷ [])) (distinct_snoc (named t.accesses) g o.once c);
    }

task_good : (P : Plan) (t : Task) → Limits P → length P.tasks < max_tasks → Opens P.ranks P.regions t → suits t.kernel (read_count t.accesses) ≡ true → Limits (with_task P t)
task_good P t l k o s =
    record {
      passes = l.passes;
      some_rank = l.some_rank;
      ranks = l.ranks;
      some_region = l.some_region;
      regions = l.regions;
      starts = l.starts;
      once = l.once;
      count = le-leb (length (P.tasks ++ (t ∷ []))) max_tasks (omega (arith, length-append P.tasks (t ∷ [])));
      tasks = every_snoc (task_fits P.ranks P.regions) P.tasks t l.tasks (and_intro (open_fits P.ranks P.regions t) _ (is_open _ _ t o) s);
    }

further : (P : Plan) (t u : Task) → good (opened P t) → Opens P.ranks P.regions u → good (opened P u)
further P t u l o = (l.0, l.1, o)

pub step_good : (s : State) (r : Record) → good s → good_step (step s r)
step_good first (Loop p q n) u =
    good_need _ _ _ λ a. good_need _ _ _ λ b. good_need _ _ _ λ c.
    loop_good (value_of p) (value_of q) (value_of n) (lies_value 0 max_passes p a).1 (lies_value 1 max_ranks q b) (lies_value 1 max_regions n c)
step_good first (Record.Start g v) u = tt
step_good first (Begin q k c) u = tt
step_good first (Record.Access m g) u = tt
step_good first End u = tt
step_good first Unreadable u = tt
step_good (closed P) (Loop p q n) l = tt
step_good (closed P) (Record.Start g v) l =
    good_need (no_task_yet P) 2 _ λ o. good_need (below P.regions g) 3 _ λ a. good_need (is_word v) 3 _ λ b. good_need (not (mem (value_of g) (started P.starts))) 6 _ λ c.
    start_good P (value_of g) (value_of v) l (below_value P.regions g a) (lies_value 0 max_word v b).1 (not-true _ c)
step_good (closed P) (Begin q k c) l =
    good_need _ _ _ λ a. good_need _ _ _ λ b. good_need _ _ _ λ d. good_need _ _ _ λ e.
    begin_good P (value_of q) (value_of k) (value_of c) l (below_value P.ranks q a) (lies_value 0 4 k b).1 (lies_value 0 max_word c d).1 e
step_good (closed P) (Record.Access m g) l = tt
step_good (closed P) End l = tt
step_good (closed P) Unreadable l = tt
step_good (opened P t) (Loop p q n) l = tt
step_good (opened P t) (Record.Start g v) l = tt
step_good (opened P t) (Begin q k c) l = tt
step_good (opened P t) (Record.Access m g) l =
    good_need _ _ _ λ a. good_need _ _ _ λ b. good_need _ _ _ λ c.
    further P t (with_access t m (value_of g)) l (access_good P.ranks P.regions t m (value_of g) l.2 (below_value P.regions g a) b (not-true _ c))
step_good (opened P t) End l = good_need _ _ _ λ a. task_good P t l.0 l.1 l.2 a
step_good (opened P t) Unreadable l = tt
