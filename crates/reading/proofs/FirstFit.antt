-- Reading answers the first refusal that fits.
use Rattle.text.specs.declared.Record.{Record}
use Rattle.text.specs.declared.Record.TheVariants.{Loop, Begin, End, Unreadable}
use mathlib.Core.Path.{refl, sym, ap, subst, ◌≡◌, ◌∙◌}
use borrow.Author.Tests.{eqb-false, lt-ltb, le-ltb}
use lib.ListN.{length}
use lib.Dec.{ltb, leb, eqb-suc-zero}
use mathlib.Core.Bool.{Bool, true, false, cond, not, ◌&&◌}
use mathlib.Core.List.{List, [], ◌∷◌, ◌++◌, append-nil, append_assoc}
use native.Mathlib.Omega.{arith}
use Prim.Native.Nat.{ℕ, zero, suc, ◌+◌, ◌≤◌, ◌<◌}
use Rattle.finite.specs.Lists.{mem}
use Rattle.body.specs.Transfers.{transfer_count}
use Rattle.kernels.specs.Kernels.{suits}
use Rattle.text.specs.Records.{record_of, split}
use Rattle.text.proofs.Fields.{join, join_split}
use Rattle.plan.specs.Layout.{body_of}
use Rattle.plan.specs.Limits.{max_accesses, max_bytes, max_kernel, max_passes, max_ranks, max_regions, max_tasks, max_transfers}
use Rattle.reading.specs.Laws.{Answers}
use Rattle.reading.specs.Plan.{Access, Plan, Start, Task, named, read_count, started, words_of}
use Rattle.reading.specs.Reading.{Reading, State, Step, accepted, at_end, below, closed, first, is_word, lies}
use Rattle.reading.specs.Reading.{need, next, no_task_yet, on_step, opened, read_from, read_of, refuse, refused, step, value_of}
use Rattle.reading.specs.Refusals.{Fit, Last, begins, count_of, first_fit, fit_at, fit_from, is_begin, is_end, is_open, last_fit, last_from, last_task, no_fit, starts_said}
use Rattle.reading.specs.Written.{access_records, line, records, start_records, task_records, text_from}
use Rattle.reading.proofs.Accepted.{good, good_step, step_good}
use Rattle.reading.proofs.Appends.{text_append}
use Rattle.reading.proofs.Adds.{Adds, open_records, records_of, step_adds}
use Rattle.reading.proofs.Limits.{is_valid}
use Rattle.reading.proofs.Numbers.{KnownStep, known_step}
use Rattle.reading.proofs.Unique.{line_back}

-- what records say, of lists put together
count_append : (p : Record → Bool) (l k : List Record) → count_of p (l ++ k) ≡ count_of p l + count_of p k
count_append p [] k = omega arith
count_append p (r ∷ l) k = omega (arith, count_append p l k)

starts_append : (l k : List Record) → starts_said (l ++ k) ≡ starts_said l ++ starts_said k
starts_append [] k = refl
starts_append (Record.Start g v ∷ l) k = ap (λ (x : List ℕ). value_of g ∷ x) (starts_append l k)
starts_append (Loop p q n ∷ l) k = starts_append l k
starts_append (Begin q j c ∷ l) k = starts_append l k
starts_append (Record.Access m g ∷ l) k = starts_append l k
starts_append (End ∷ l) k = starts_append l k
starts_append (Unreadable ∷ l) k = starts_append l k

last_append : (t : Last) (l k : List Record) → last_from t (l ++ k) ≡ last_from (last_from t l) k
last_append t [] k = refl
last_append t (Record.Start g v ∷ l) k = last_append t l k
last_append t (Loop p q n ∷ l) k = last_append t l k
last_append t (Begin q j c ∷ l) k = last_append _ l k
last_append t (Record.Access m g ∷ l) k = last_append _ l k
last_append t (End ∷ l) k = last_append t l k
last_append t (Unreadable ∷ l) k = last_append t l k

-- of `start` records, of accesses, of tasks
begins_starts : (l : List Start) → begins (start_records l) ≡ 0
begins_starts [] = refl
begins_starts (s ∷ l) = omega (arith, begins_starts l)

ends_starts : (l : List Start) → count_of is_end (start_records l) ≡ 0
ends_starts [] = refl
ends_starts (s ∷ l) = omega (arith, ends_starts l)

starts_starts : (l : List Start) → starts_said (start_records l) ≡ started l
starts_starts [] = refl
starts_starts (s ∷ l) = ap (λ (x : List ℕ). s.region ∷ x) (starts_starts l)

begins_accesses : (l : List Access) → begins (access_records l) ≡ 0
begins_accesses [] = refl
begins_accesses (a ∷ l) = omega (arith, begins_accesses l)

ends_accesses : (l : List Access) → count_of is_end (access_records l) ≡ 0
ends_accesses [] = refl
ends_accesses (a ∷ l) = omega (arith, ends_accesses l)

starts_accesses : (l : List Access) → starts_said (access_records l) ≡ []
starts_accesses [] = refl
starts_accesses (a ∷ l) = starts_accesses l

last_accesses : (k : ℕ) (before l : List Access) → last_from (record { kernel = k; accesses = before }) (access_records l) ≡ record { kernel = k; accesses = before ++ l }
last_accesses k before [] = ap (λ (x : List Access). record { kernel = k; accesses = x }) (sym (append-nil before))
last_accesses k before (a ∷ l) =
    last_accesses k (before ++ (a ∷ [])) l ∙ ap (λ (x : List Access). record { kernel = k; accesses = x }) (append_assoc before (a ∷ []) l)

begins_tasks : (l : List Task) → begins (task_records l) ≡ length l
begins_tasks [] = refl
begins_tasks (t ∷ l) = omega (arith, count_append is_begin (access_records t.accesses) (End ∷ task_records l), begins_accesses t.accesses, begins_tasks l)

ends_tasks : (l : List Task) → count_of is_end (task_records l) ≡ length l
ends_tasks [] = refl
ends_tasks (t ∷ l) = omega (arith, count_append is_end (access_records t.accesses) (End ∷ task_records l), ends_accesses t.accesses, ends_tasks l)

starts_tasks : (l : List Task) → starts_said (task_records l) ≡ []
starts_tasks [] = refl
starts_tasks (t ∷ l) = starts_append (access_records t.accesses) (End ∷ task_records l) ∙ rw (starts_accesses t.accesses) (starts_tasks l)

-- of a plan's records
module _ (P : Plan) where
  begins_plan : begins (records P) ≡ length P.tasks
  begins_plan = omega (arith, count_append is_begin (start_records P.starts) (task_records P.tasks), begins_starts P.starts, begins_tasks P.tasks)

  ends_plan : count_of is_end (records P) ≡ length P.tasks
  ends_plan = omega (arith, count_append is_end (start_records P.starts) (task_records P.tasks), ends_starts P.starts, ends_tasks P.tasks)

  starts_plan : starts_said (records P) ≡ started P.starts
  starts_plan = starts_append (start_records P.starts) (task_records P.tasks) ∙ rw (starts_tasks P.tasks, append-nil) (starts_starts P.starts)

  closed_plan : is_open (records P) ≡ false
  closed_plan = rw (begins_plan, ends_plan) (le-ltb (length P.tasks) (length P.tasks) (omega arith))

  module _ (t : Task) where
    begins_open : begins (records P ++ open_records t) ≡ suc (length P.tasks)
    begins_open = omega (arith, count_append is_begin (records P) (open_records t), begins_plan, begins_accesses t.accesses)

    ends_open : count_of is_end (records P ++ open_records t) ≡ length P.tasks
    ends_open = omega (arith, count_append is_end (records P) (open_records t), ends_plan, ends_accesses t.accesses)

    open_plan : is_open (records P ++ open_records t) ≡ true
    open_plan = rw (begins_open, ends_open) (lt-ltb (length P.tasks) (suc (length P.tasks)) (omega arith))

    last_open : last_task (records P ++ open_records t) ≡ record { kernel = t.kernel; accesses = t.accesses }
    last_open = last_append _ (records P) (open_records t) ∙ last_accesses t.kernel [] t.accesses

-- a step goes on where nothing fits, and refuses with the first that does
abbrev StepFits : Step → ℕ → Type 0
StepFits (next s) k = k ≡ 0
StepFits (refuse n) k = k ≡ n

fits_need : (a : Bool) (n k : ℕ) (x : Step) → StepFits x k → StepFits (need a n x) (cond (not a) n k)
fits_need true n k x h = h
fits_need false n k x h = refl

fits_both : (a b : Bool) (n k : ℕ) (x : Step) → StepFits x k → StepFits (need a n (need b n x)) (cond (not (a && b)) n k)
fits_both true b n k x h = fits_need b n k x h
fits_both false b n k x h = refl

fits_three : (a b c : Bool) (n k : ℕ) (x : Step) → StepFits x k → StepFits (need a n (need b n (need c n x))) (cond (not (a && (b && c))) n k)
fits_three true b c n k x h = fits_both b c n k x h
fits_three false b c n k x h = refl

fits_unless : (a : Bool) (n k : ℕ) (x : Step) → StepFits x k → StepFits (need (not a) n x) (cond a n k)
fits_unless true n k x h = refl
fits_unless false n k x h = h

step_fits : (s : State) (r : Record) → StepFits (step s r) (first_fit (records_of s) r)
step_fits first (Loop p q n) = fits_three (lies 0 max_passes p) (lies 1 max_ranks q) (lies 1 max_regions n) 3 0 _ refl
step_fits first (Record.Start g v) = refl
step_fits first (Begin q k c) = refl
step_fits first (Record.Access m g) = refl
step_fits first End = refl
step_fits first Unreadable = refl
step_fits (closed P) (Loop p q n) = refl
step_fits (closed P) (Record.Start g v) =
    rw (begins_plan P, starts_plan P)
    (fits_need (no_task_yet P) 2 _ _ (fits_both (below P.regions g) (is_word v) 3 _ _ (fits_unless (mem (value_of g) (started P.starts)) 6 0 _ refl)))
step_fits (closed P) (Begin q k c) =
    rw (closed_plan P, begins_plan P)
    (fits_three (below P.ranks q) (lies 0 max_kernel k) (is_word c) 3 _ _ (fits_need (ltb (length P.tasks) max_tasks) 10 0 _ refl))
step_fits (closed P) (Record.Access m g) = rw (closed_plan P)
step_fits (closed P) End = rw (closed_plan P)
step_fits (closed P) Unreadable = refl
step_fits (opened P t) (Loop p q n) = refl
step_fits (opened P t) (Record.Start g v) = rw (begins_open P t, eqb-suc-zero (length P.tasks))
step_fits (opened P t) (Begin q k c) = rw (open_plan P t)
step_fits (opened P t) (Record.Access m g) =
    rw (open_plan P t, last_open P t)
    (fits_need (below P.regions g) 3 _ _ (fits_need (ltb (length t.accesses) max_accesses) 10 _ _ (fits_unless (mem (value_of g) (named t.accesses)) 6 0 _ refl)))
step_fits (opened P t) End = rw (open_plan P t, last_open P t) (fits_need (suits t.kernel (read_count t.accesses)) 9 0 _ refl)
step_fits (opened P t) Unreadable = refl

-- the text of records with one more at their end
text_snoc : (rs : List Record) (r : Record) (rest : List ℕ) → text_from (rs ++ (r ∷ [])) ++ rest ≡ text_from rs ++ (line r ++ (10 ∷ rest))
text_snoc rs r rest =
    ap (λ (t : List ℕ). t ++ rest) (text_append rs (r ∷ []))
    ∙ append_assoc (text_from rs) (line r ++ (10 ∷ [])) rest
    ∙ ap (λ (t : List ℕ). text_from rs ++ t) (append_assoc (line r) (10 ∷ []) rest)

-- the whole text is that of the records read, then the lines left
module _ (text : List ℕ) where
  answers_end : (n : ℕ) (s : State) → good s → text ≡ text_from (records_of s) → Answers text (at_end n s) (fit_at (last_fit (records_of s)) n (no_fit n))
  answers_end n first G e = refl
  answers_end n (opened P t) G e = rw (open_plan P t)
  answers_end n (closed P) G e = rw (closed_plan P, begins_plan P) (go (no_task_yet P) refl)
    where
      go : (a : Bool) → no_task_yet P ≡ a →
          Answers text (cond a (refused 8 n) (cond (leb (transfer_count (body_of (words_of P))) max_transfers) (accepted (words_of P)) (refused 10 n))) (fit_at (cond a 8 0) n (no_fit n))
      go true h = refl
      go false h = (P, e, is_valid P G, omega (arith, eqb-false (length P.tasks) 0 h), refl)

  answers_on : (n k : ℕ) (j : State → Reading) (f : Fit) (x : Step) → StepFits x k → KnownStep x → ((s : State) → x ≡ next s → Answers text (j s) f) → Answers text (on_step n j x) (fit_at k n f)
  answers_on n k j f (next s) e d h = rw e (h s refl)
  answers_on n k j f (refuse m) e d h = rw e (known m d.0)
    where
      known : (m : ℕ) → 1 ≤ m → Answers text (refused m n) (fit_at m n f)
      known zero l = absurd (omega arith)
      known (suc m) l = refl

  answers : (ls : List (List ℕ)) (n : ℕ) (s : State) → good s → text ≡ text_from (records_of s) ++ join 10 ls → Answers text (read_from n s ls) (fit_from n (records_of s) ls)
  answers [] n s G e = refl
  answers ([] ∷ []) n s G e = answers_end n s G (e ∙ append-nil (text_from (records_of s)))
  answers ((c ∷ l) ∷ []) n s G e = refl
  answers (l ∷ m ∷ ls) n s G e =
      answers_on n (first_fit (records_of s) (record_of l)) (λ t. read_from (n + 1) t (m ∷ ls)) (fit_from (n + 1) (records_of s ++ (record_of l ∷ [])) (m ∷ ls)) (step s (record_of l))
      (step_fits s (record_of l)) (known_step s (record_of l)) (λ t h. go t h (answers (m ∷ ls) (n + 1) t))
    where
      go : (t : State) → step s (record_of l) ≡ next t →
          (good t → text ≡ text_from (records_of t) ++ join 10 (m ∷ ls) → Answers text (read_from (n + 1) t (m ∷ ls)) (fit_from (n + 1) (records_of t) (m ∷ ls))) →
          Answers text (read_from (n + 1) t (m ∷ ls)) (fit_from (n + 1) (records_of s ++ (record_of l ∷ [])) (m ∷ ls))
      go t h ih =
          let a : Adds (records_of s) (record_of l) (next t) = subst (Adds (records_of s) (record_of l)) h (step_adds s (record_of l) G) in
          let g : good_step (next t) = subst good_step h (step_good s (record_of l) G) in
          let b : text ≡ text_from (records_of t) ++ join 10 (m ∷ ls) = rw (a.0, text_snoc (records_of s) (record_of l) (join 10 (m ∷ ls)), sym (line_back l a.1)) e in
          subst (λ rs. Answers text (read_from (n + 1) t (m ∷ ls)) (fit_from (n + 1) rs (m ∷ ls))) a.0 (ih g b)

pub read_answers : (text : List ℕ) → length text ≤ max_bytes → Answers text (read_of text) (fit_from 1 [] (split 10 text))
unfolding read_of
read_answers text h = rw (le-ltb max_bytes (length text) h) (answers text (split 10 text) 1 first tt (sym (join_split 10 text)))

pub too_long : (text : List ℕ) → max_bytes < length text → read_of text ≡ refused 10 0
unfolding read_of
too_long text h = rw (lt-ltb max_bytes (length text) h)
