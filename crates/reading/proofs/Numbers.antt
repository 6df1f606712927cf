-- The numbers of refusals are 1 to 10.
use Rattle.text.specs.declared.Record.{Record}
use Rattle.text.specs.declared.Record.TheVariants.{Loop, Begin, End, Unreadable}
use mathlib.Core.Path.{subst, ◌≡◌}
use lib.ListN.{length}
use lib.Dec.{ltb, leb}
use mathlib.Core.Bool.{Bool, true, false, cond, not}
use mathlib.Core.List.{List, [], ◌∷◌}
use native.Mathlib.Omega.{arith}
use Prim.Native.Nat.{ℕ, ◌+◌, ◌≤◌}
use Rattle.finite.specs.Lists.{mem}
use Rattle.body.specs.Transfers.{transfer_count}
use Rattle.kernels.specs.Kernels.{suits}
use Rattle.text.specs.Records.{record_of, split}
use Rattle.plan.specs.Layout.{body_of}
use Rattle.plan.specs.Limits.{max_accesses, max_bytes, max_kernel, max_passes, max_ranks, max_regions, max_tasks, max_transfers}
use Rattle.reading.specs.Plan.{named, read_count, started, words_of}
use Rattle.reading.specs.Reading.{Reading, State, Step, accepted, at_end, below, closed, first, is_empty, is_word, lies}
use Rattle.reading.specs.Reading.{need, next, no_task_yet, on_step, opened, read_from, read_of, refuse, refused, step, value_of}

abbrev pub Known : ℕ → Type 0
Known n = (1 ≤ n) × (n ≤ 10)

abbrev pub KnownStep : Step → Type 0
KnownStep (next s) = Unit
KnownStep (refuse n) = Known n

abbrev KnownReading : Reading → Type 0
KnownReading (accepted w) = Unit
KnownReading (refused n l) = Known n

known_need : (t : Bool) (n : ℕ) (x : Step) → Known n → KnownStep x → KnownStep (need t n x)
known_need true n x k h = h
known_need false n x k h = k

pub known_step : (s : State) (r : Record) → KnownStep (step s r)
known_step first (Loop p q n) =
    known_need (lies 0 max_passes p) 3 _ (omega arith, omega arith)
    (known_need (lies 1 max_ranks q) 3 _ (omega arith, omega arith)
    (known_need (lies 1 max_regions n) 3 _ (omega arith, omega arith) tt))
known_step first (Record.Start g v) = (omega arith, omega arith)
known_step first (Begin q k c) = (omega arith, omega arith)
known_step first (Record.Access m g) = (omega arith, omega arith)
known_step first End = (omega arith, omega arith)
known_step first Unreadable = (omega arith, omega arith)
known_step (closed P) (Loop p q n) = (omega arith, omega arith)
known_step (closed P) (Record.Start g v) =
    known_need (no_task_yet P) 2 _ (omega arith, omega arith)
    (known_need (below P.regions g) 3 _ (omega arith, omega arith)
    (known_need (is_word v) 3 _ (omega arith, omega arith)
    (known_need (not (mem (value_of g) (started P.starts))) 6 _ (omega arith, omega arith) tt)))
known_step (closed P) (Begin q k c) =
    known_need (below P.ranks q) 3 _ (omega arith, omega arith)
    (known_need (lies 0 max_kernel k) 3 _ (omega arith, omega arith)
    (known_need (is_word c) 3 _ (omega arith, omega arith)
    (known_need (ltb (length P.tasks) max_tasks) 10 _ (omega arith, omega arith) tt)))
known_step (closed P) (Record.Access m g) = (omega arith, omega arith)
known_step (closed P) End = (omega arith, omega arith)
known_step (closed P) Unreadable = (omega arith, omega arith)
known_step (opened P t) (Loop p q n) = (omega arith, omega arith)
known_step (opened P t) (Record.Start g v) = (omega arith, omega arith)
known_step (opened P t) (Begin q k c) = (omega arith, omega arith)
known_step (opened P t) (Record.Access m g) =
    known_need (below P.regions g) 3 _ (omega arith, omega arith)
    (known_need (ltb (length t.accesses) max_accesses) 10 _ (omega arith, omega arith)
    (known_need (not (mem (value_of g) (named t.accesses))) 6 _ (omega arith, omega arith) tt))
known_step (opened P t) End = known_need (suits t.kernel (read_count t.accesses)) 9 _ (omega arith, omega arith) tt
known_step (opened P t) Unreadable = (omega arith, omega arith)

known_cond : (b : Bool) (x y : Reading) → KnownReading x → KnownReading y → KnownReading (cond b x y)
known_cond true x y h k = h
known_cond false x y h k = k

known_end : (n : ℕ) (s : State) → KnownReading (at_end n s)
known_end n first = (omega arith, omega arith)
known_end n (opened P t) = (omega arith, omega arith)
known_end n (closed P) =
    known_cond (no_task_yet P) _ _ (omega arith, omega arith)
    (known_cond (leb (transfer_count (body_of (words_of P))) max_transfers) _ _ tt (omega arith, omega arith))

known_on : (n : ℕ) (k : State → Reading) (x : Step) → KnownStep x → ((s : State) → KnownReading (k s)) → KnownReading (on_step n k x)
known_on n k (next s) h f = f s
known_on n k (refuse m) h f = h

known_from : (ls : List (List ℕ)) (n : ℕ) (s : State) → KnownReading (read_from n s ls)
known_from [] n s = (omega arith, omega arith)
known_from (l ∷ []) n s = known_cond (is_empty l) _ _ (known_end n s) (omega arith, omega arith)
known_from (l ∷ m ∷ ls) n s = known_on n (λ t. read_from (n + 1) t (m ∷ ls)) (step s (record_of l)) (known_step s (record_of l)) (known_from (m ∷ ls) (n + 1))

pub refusal_known : (text : List ℕ) (n l : ℕ) → read_of text ≡ refused n l → (1 ≤ n) × (n ≤ 10)
unfolding read_of
refusal_known text n l e = subst KnownReading e (known_cond (ltb max_bytes (length text)) _ _ (omega arith, omega arith) (known_from (split 10 text) 1 first))
