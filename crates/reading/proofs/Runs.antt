-- The records of a valid plan lead to it.
use Prim.Native.Nat.{ℕ, ◌+◌, ◌≤◌, ◌<◌}
use mathlib.Core.Path.{◌≡◌, ap, ◌∙◌}
use mathlib.Core.Bool.{true, false}
use mathlib.Core.List.{List, [], ◌∷◌, ◌++◌, append_assoc, append-nil}
use native.Mathlib.Omega.{arith}
use borrow.Author.Tests.{leb-true, lt-ltb}
use lib.Dec.{leb, ltb, leb-zero}
use lib.ListN.{length, length-append}
use Rattle.text.specs.declared.Record.{Record}
use Rattle.text.specs.declared.Record.TheVariants.{End}
use Rattle.finite.specs.Lists.{distinct, mem}
use Rattle.finite.proofs.Tabulate.{distinct_before, map_append}
use Rattle.finite.proofs.Tests.{and-true}
use Rattle.kernels.specs.Kernels.{suits}
use Rattle.text.specs.Records.{split}
use Rattle.text.proofs.SplitLaws.{split_cons}
use Rattle.text.proofs.Fields.{split_at}
use Rattle.plan.specs.Limits.{max_passes, max_ranks, max_regions, max_tasks}
use Rattle.reading.specs.Plan.{Access, Plan, Start, Task, named, read_count, started}
use Rattle.reading.specs.Reading.{State, Step, at_end, closed, first, next, on_step, opened, read_from, refuse, step}
use Rattle.reading.specs.Valid.{access_fits, every, in_word, open_fits, start_fits, task_fits, valid}
use Rattle.reading.specs.Written.{access_records, line, records, start_records, task_records, text_from}
use Rattle.reading.proofs.Lines.{line_lacks, plain, record_back}

abbrev then : Step → (State → Step) → Step
then (next s) k = k s
then (refuse n) k = refuse n

-- the state that records lead to
abbrev pub run : State → List Record → Step
run s [] = next s
run s (r ∷ l) = then (step s r) (λ t. run t l)

next_same : (s t : State) → next s ≡ next t → s ≡ t
next_same s t e = cc

not_next : (n : ℕ) (t : State) → refuse n ≡ next t → ⊥
not_next n t e = let z : ◌≡◌ {A = ℕ} 0 1 = cc in omega arith

read_line : (n : ℕ) (s : State) (r : Record) (l : List Record) → plain r ≡ true →
    read_from n s (split 10 (text_from (r ∷ l))) ≡ on_step n (λ t. read_from (n + 1) t (split 10 (text_from l))) (step s r)
read_line n s r l h =
    let c = split_cons 10 (text_from l) in
    rw (split_at 10 (line r) (text_from l) (line_lacks r h), c.2, record_back r h)

-- a written text is read as its records are
pub read_text : (l : List Record) (n : ℕ) (s t : State) → every plain l ≡ true → run s l ≡ next t → (m : ℕ) × (read_from n s (split 10 (text_from l)) ≡ at_end m t)
read_text [] n s t h e = (n, ap (at_end n) (next_same s t e))
read_text (r ∷ l) n s t h e =
    let a = and-true (plain r) (every plain l) h in
    go (step s r) e (λ u. read_text l (n + 1) u t a.1) (read_line n s r l a.0)
  where
    go : (x : Step) → then x (λ u. run u l) ≡ next t →
        ((u : State) → run u l ≡ next t → (m : ℕ) × (read_from (n + 1) u (split 10 (text_from l)) ≡ at_end m t)) →
        read_from n s (split 10 (text_from (r ∷ l))) ≡ on_step n (λ u. read_from (n + 1) u (split 10 (text_from l))) x →
        (m : ℕ) × (read_from n s (split 10 (text_from (r ∷ l))) ≡ at_end m t)
    go (next u) e ih q = let i = ih u e in (i.0, q ∙ i.1)
    go (refuse k) e ih q = absurd (not_next k t e)

abbrev plan : ℕ → ℕ → ℕ → List Start → List Task → Plan
plan p q n ss ts = record { passes = p; ranks = q; regions = n; starts = ss; tasks = ts }

abbrev task : ℕ → ℕ → ℕ → List Access → Task
task q k c l = record { rank = q; kernel = k; constant = c; accesses = l }

module _ (p q n : ℕ) where
  run_starts : (acc l : List Start) (b : List Record) → every (start_fits n) l ≡ true → distinct (started (acc ++ l)) ≡ true →
      run (closed (plan p q n acc [])) (start_records l ++ b) ≡ run (closed (plan p q n (acc ++ l) [])) b
  run_starts acc [] b h d = rw (append-nil acc)
  run_starts acc (s ∷ l) b h d =
      let a = and-true (start_fits n s) (every (start_fits n) l) h in
      let e = and-true (ltb s.region n) (in_word s.value) a.0 in
      let m : mem s.region (started acc) ≡ false = distinct_before (started acc) s.region (started l) (rw (map_append (λ x. x.region) acc (s ∷ l)) at d) in
      let i = run_starts (acc ++ (s ∷ [])) l b a.1 (rw (append_assoc acc (s ∷ []) l) d) in
      rw (e.0, leb-zero s.value, e.1, m) (i ∙ rw (append_assoc acc (s ∷ []) l))

  run_accesses : (ss : List Start) (ts : List Task) (r k c : ℕ) (acc l : List Access) (b : List Record) →
      every (access_fits n) l ≡ true → length (acc ++ l) ≤ 8 → distinct (named (acc ++ l)) ≡ true →
      run (opened (plan p q n ss ts) (task r k c acc)) (access_records l ++ b) ≡ run (opened (plan p q n ss ts) (task r k c (acc ++ l))) b
  run_accesses ss ts r k c acc [] b h g d = rw (append-nil acc)
  run_accesses ss ts r k c acc (x ∷ l) b h g d =
      let a = and-true (access_fits n x) (every (access_fits n) l) h in
      let m : mem x.region (named acc) ≡ false = distinct_before (named acc) x.region (named l) (rw (map_append (λ x. x.region) acc (x ∷ l)) at d) in
      let w : length acc < 8 = omega (arith, length-append acc (x ∷ l)) in
      let i = run_accesses ss ts r k c (acc ++ (x ∷ [])) l b a.1 (rw (append_assoc acc (x ∷ []) l) g) (rw (append_assoc acc (x ∷ []) l) d) in
      rw (a.0, lt-ltb (length acc) 8 w, m) (i ∙ rw (append_assoc acc (x ∷ []) l))

  run_tasks : (ss : List Start) (acc l : List Task) → every (task_fits q n) l ≡ true → length (acc ++ l) ≤ max_tasks →
      run (closed (plan p q n ss acc)) (task_records l) ≡ next (closed (plan p q n ss (acc ++ l)))
  run_tasks ss acc [] h g = rw (append-nil acc)
  run_tasks ss acc (t ∷ l) h g =
      let a = and-true (task_fits q n t) (every (task_fits q n) l) h in
      let o = and-true (open_fits q n t) (suits t.kernel (read_count t.accesses)) a.0 in
      let o1 = and-true (ltb t.rank q) _ o.0 in
      let o2 = and-true (leb t.kernel 4) _ o1.1 in
      let o3 = and-true (in_word t.constant) _ o2.1 in
      let o4 = and-true (leb (length t.accesses) 8) _ o3.1 in
      let o5 = and-true (every (access_fits n) t.accesses) (distinct (named t.accesses)) o4.1 in
      let w : length acc < max_tasks = omega (arith, length-append acc (t ∷ l)) in
      let u = run_accesses ss acc t.rank t.kernel t.constant [] t.accesses (End ∷ task_records l) o5.0 (leb-true _ _ o4.0) o5.1 in
      let i = run_tasks ss (acc ++ (t ∷ [])) l a.1 (rw (append_assoc acc (t ∷ []) l) g) in
      rw (o1.0, leb-zero t.kernel, o2.0, leb-zero t.constant, o3.0, lt-ltb (length acc) max_tasks w) (u ∙ rw o.1 (i ∙ rw (append_assoc acc (t ∷ []) l)))

pub run_records : (P : Plan) → valid P ≡ true → run first (records P) ≡ next (closed P)
unfolding valid
run_records P h =
    let v1 = and-true (leb P.passes max_passes) _ h in
    let v2 = and-true (leb 1 P.ranks) _ v1.1 in
    let v3 = and-true (leb P.ranks max_ranks) _ v2.1 in
    let v4 = and-true (leb 1 P.regions) _ v3.1 in
    let v5 = and-true (leb P.regions max_regions) _ v4.1 in
    let v6 = and-true (every (start_fits P.regions) P.starts) _ v5.1 in
    let v7 = and-true (distinct (started P.starts)) _ v6.1 in
    let v8 = and-true (leb (length P.tasks) max_tasks) _ v7.1 in
    rw (leb-zero P.passes, v1.0, v2.0, v3.0, v4.0, v5.0)
    (run_starts P.passes P.ranks P.regions [] P.starts (task_records P.tasks) v6.0 v7.0
    ∙ run_tasks P.passes P.ranks P.regions P.starts [] P.tasks v8.1 (leb-true _ _ v8.0))
