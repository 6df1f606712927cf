-- A step adds its record to those that lead to its state.
use Rattle.text.specs.declared.Number.{Number}
use Rattle.text.specs.declared.Number.TheVariants.{Value, TooLarge, Malformed}
use Rattle.text.specs.declared.Record.{Record}
use Rattle.text.specs.declared.Record.TheVariants.{Loop, Begin, End, Unreadable}
use mathlib.Core.Path.{refl, sym, ap, ◌≡◌, ◌∙◌}
use borrow.Author.Tests.{ltb-true, leb-true, le-leb}
use lib.ListN.{length}
use lib.Dec.{eqb, ltb, leb, leb-zero, eqb-suc-zero}
use mathlib.Core.Bool.{Bool, true, false, not}
use mathlib.Core.List.{List, [], ◌∷◌, ◌++◌, append-nil, append_assoc}
use native.Mathlib.Omega.{arith}
use Prim.Native.Nat.{ℕ, ◌≤◌, ◌<◌}
use Rattle.finite.specs.Lists.{mem}
use Rattle.finite.proofs.Tests.{and_intro, and-true, not_both}
use Rattle.kernels.specs.Kernels.{suits}
use Rattle.plan.specs.Limits.{max_accesses, max_kernel, max_passes, max_ranks, max_regions, max_tasks, max_word}
use Rattle.reading.specs.Plan.{Plan, Task, named, read_count, started}
use Rattle.reading.specs.Reading.{State, Step, below, closed, first, is_word, lies, need, next, no_task_yet, opened, refuse, step, value_of, with_access, with_loop, with_start, with_task}
use Rattle.reading.specs.Written.{access_records, records, start_records, task_records}
use Rattle.reading.proofs.Accepted.{good}
use Rattle.reading.proofs.Appends.{accesses_append, starts_append, tasks_append}
use Rattle.reading.proofs.Lines.{plain}

abbrev pub open_records : Task → List Record
open_records t = Begin (Value t.rank) (Value t.kernel) (Value t.constant) ∷ access_records t.accesses

-- the records that lead to a state
abbrev pub records_of : State → List Record
records_of first = []
records_of (closed P) = records P
records_of (opened P t) = records P ++ open_records t

-- a step adds its record, whose numbers are words
abbrev pub Adds : List Record → Record → Step → Type 0
Adds rs r (next s) = (records_of s ≡ rs ++ (r ∷ [])) × (plain r ≡ true)
Adds rs r (refuse n) = Unit

adds_need : (rs : List Record) (r : Record) (t : Bool) (n : ℕ) (x : Step) → (t ≡ true → Adds rs r x) → Adds rs r (need t n x)
adds_need rs r true n x h = h refl
adds_need rs r false n x h = tt

-- a number within limits
lies_is : (a b : ℕ) (x : Number) → lies a b x ≡ true → Value (value_of x) ≡ x
lies_is a b (Value n) h = refl
lies_is a b TooLarge h = absurd (not_both h refl)
lies_is a b Malformed h = absurd (not_both h refl)

lies_word : (a b : ℕ) (x : Number) → b ≤ max_word → lies a b x ≡ true → is_word x ≡ true
lies_word a b (Value n) l h =
    let k : n ≤ b = leb-true n b (and-true (leb a n) (leb n b) h).1 in
    and_intro (leb 0 n) (leb n max_word) (leb-zero n) (le-leb n max_word (omega arith))
lies_word a b TooLarge l h = absurd (not_both h refl)
lies_word a b Malformed l h = absurd (not_both h refl)

below_is : (b : ℕ) (x : Number) → below b x ≡ true → Value (value_of x) ≡ x
below_is b (Value n) h = refl
below_is b TooLarge h = absurd (not_both h refl)
below_is b Malformed h = absurd (not_both h refl)

below_word : (b : ℕ) (x : Number) → b ≤ max_word → below b x ≡ true → is_word x ≡ true
below_word b (Value n) l h =
    let k : n < b = ltb-true n b h in
    and_intro (leb 0 n) (leb n max_word) (leb-zero n) (le-leb n max_word (omega arith))
below_word b TooLarge l h = absurd (not_both h refl)
below_word b Malformed l h = absurd (not_both h refl)

no_tasks : (l : List Task) → eqb (length l) 0 ≡ true → l ≡ []
no_tasks [] h = refl
no_tasks (t ∷ l) h = absurd (not_both h (eqb-suc-zero (length l)))

start_adds : (P : Plan) (g v : ℕ) → no_task_yet P ≡ true → records (with_start P g v) ≡ records P ++ (Record.Start (Value g) (Value v) ∷ [])
start_adds P g v h =
    rw (no_tasks P.tasks h)
    (ap (λ r. Loop (Value P.passes) (Value P.ranks) (Value P.regions) ∷ r)
    (append-nil (start_records (P.starts ++ (record { region = g; value = v } ∷ [])))
    ∙ starts_append P.starts (record { region = g; value = v } ∷ [])
    ∙ ap (λ r. r ++ (Record.Start (Value g) (Value v) ∷ [])) (sym (append-nil (start_records P.starts)))))

task_adds : (P : Plan) (t : Task) → records (with_task P t) ≡ (records P ++ open_records t) ++ (End ∷ [])
task_adds P t =
    ap (λ r. Loop (Value P.passes) (Value P.ranks) (Value P.regions) ∷ r)
    (ap (λ r. start_records P.starts ++ r) (tasks_append P.tasks (t ∷ []))
    ∙ sym (append_assoc (start_records P.starts) (task_records P.tasks) (open_records t ++ (End ∷ [])))
    ∙ sym (append_assoc (start_records P.starts ++ task_records P.tasks) (open_records t) (End ∷ [])))

access_adds : (P : Plan) (t : Task) (m : _) (g : ℕ) → records P ++ open_records (with_access t m g) ≡ (records P ++ open_records t) ++ (Record.Access m (Value g) ∷ [])
access_adds P t m g =
    ap (λ r. records P ++ (Begin (Value t.rank) (Value t.kernel) (Value t.constant) ∷ r)) (accesses_append t.accesses (record { mode = m; region = g } ∷ []))
    ∙ sym (append_assoc (records P) (open_records t) (Record.Access m (Value g) ∷ []))

pub step_adds : (s : State) (r : Record) → good s → Adds (records_of s) r (step s r)
step_adds first (Loop p q n) G =
    adds_need (records_of first) (Loop p q n) (lies 0 max_passes p) 3 _ λ a.
    adds_need (records_of first) (Loop p q n) (lies 1 max_ranks q) 3 _ λ b.
    adds_need (records_of first) (Loop p q n) (lies 1 max_regions n) 3 (next (closed (with_loop (value_of p) (value_of q) (value_of n)))) λ c. (
      rw (lies_is 0 max_passes p a, lies_is 1 max_ranks q b, lies_is 1 max_regions n c),
      rw (lies_word 0 max_passes p (omega arith) a, lies_word 1 max_ranks q (omega arith) b, lies_word 1 max_regions n (omega arith) c),
    )
step_adds first (Record.Start g v) G = tt
step_adds first (Begin q k c) G = tt
step_adds first (Record.Access m g) G = tt
step_adds first End G = tt
step_adds first Unreadable G = tt
step_adds (closed P) (Loop p q n) G = tt
step_adds (closed P) (Record.Start g v) G =
    adds_need (records_of (closed P)) (Record.Start g v) (no_task_yet P) 2 _ λ o.
    adds_need (records_of (closed P)) (Record.Start g v) (below P.regions g) 3 _ λ a.
    adds_need (records_of (closed P)) (Record.Start g v) (is_word v) 3 _ λ b.
    adds_need (records_of (closed P)) (Record.Start g v) (not (mem (value_of g) (started P.starts))) 6 _ λ c.
    let l : P.regions ≤ max_regions = leb-true _ _ G.regions in (
      start_adds P (value_of g) (value_of v) o ∙ rw (below_is P.regions g a, lies_is 0 max_word v b),
      rw (below_word P.regions g (omega arith) a, b),
    )
step_adds (closed P) (Begin q k c) G =
    adds_need (records_of (closed P)) (Begin q k c) (below P.ranks q) 3 _ λ a.
    adds_need (records_of (closed P)) (Begin q k c) (lies 0 max_kernel k) 3 _ λ b.
    adds_need (records_of (closed P)) (Begin q k c) (is_word c) 3 _ λ d.
    adds_need (records_of (closed P)) (Begin q k c) (ltb (length P.tasks) max_tasks) 10 _ λ e.
    let l : P.ranks ≤ max_ranks = leb-true _ _ G.ranks in (
      rw (below_is P.ranks q a, lies_is 0 max_kernel k b, lies_is 0 max_word c d),
      rw (below_word P.ranks q (omega arith) a, lies_word 0 max_kernel k (omega arith) b, d),
    )
step_adds (closed P) (Record.Access m g) G = tt
step_adds (closed P) End G = tt
step_adds (closed P) Unreadable G = tt
step_adds (opened P t) (Loop p q n) G = tt
step_adds (opened P t) (Record.Start g v) G = tt
step_adds (opened P t) (Begin q k c) G = tt
step_adds (opened P t) (Record.Access m g) G =
    adds_need (records_of (opened P t)) (Record.Access m g) (below P.regions g) 3 _ λ a.
    adds_need (records_of (opened P t)) (Record.Access m g) (ltb (length t.accesses) max_accesses) 10 _ λ b.
    adds_need (records_of (opened P t)) (Record.Access m g) (not (mem (value_of g) (named t.accesses))) 6 _ λ c.
    let l : P.regions ≤ max_regions = leb-true _ _ G.0.regions in (
      access_adds P t m (value_of g) ∙ rw (below_is P.regions g a),
      below_word P.regions g (omega arith) a,
    )
step_adds (opened P t) End G = adds_need (records_of (opened P t)) End (suits t.kernel (read_count t.accesses)) 9 _ λ a. (task_adds P t, refl)
step_adds (opened P t) Unreadable G = tt
