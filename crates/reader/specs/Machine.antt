-- Reading as the code does it, on the plan's words: the same refusals, tested on the words, which
-- are stored along the way. Nothing here need be believed: `proofs/Same.antt` proves that it is
-- `read_of`.
use Rattle.std.specs.Prelude.{ℕ, zero, suc, ◌+◌, ◌-◌, ◌*◌, Bool, cond, not, List, [], ◌∷◌, length, set, replicate, eqb, ltb, leb, None}
use Rattle.text.specs.declared.Record.{Record}
use Rattle.text.specs.declared.Record.TheVariants.{Loop, Start, Begin, Access, End, Unreadable}
use Rattle.finite.specs.Below.{any_below, count_below}
use Rattle.body.specs.Transfers.{transfer_count}
use Rattle.kernels.specs.Kernels.{suits}
use Rattle.text.specs.Records.{record_of, split}
use Rattle.plan.specs.Layout.{accesses_of, at, body_of, is_read, kernel_of, plan_words, ranks_of, region_at, regions_of, tasks_of, rank_index, kernel_index, constant_index, accesses_index, access_index}
use Rattle.plan.specs.Limits.{max_accesses, max_bytes, max_kernel, max_passes, max_ranks, max_regions, max_tasks, max_transfers}
use Rattle.reading.specs.Plan.{mode_word}
use Rattle.reading.specs.Reading.{Reading, accepted, below, is_empty, is_word, lies, line_refusal, record_refusal, refused, value_of}

-- phase 0: no line read, 1: no task open, 2: a task open; a flag for each region that a `start`
-- named; the words
pub data Move : Type 0 where
  go : ℕ → List ℕ → List ℕ → Move
  stop : ℕ → Move

abbrev pub unless : Bool → ℕ → Move → Move
unless t n m = cond t m (stop n)

-- the task that is open, and how many accesses it has
abbrev pub open_task : List ℕ → ℕ
open_task w = tasks_of w - 1

abbrev pub open_count : List ℕ → ℕ
open_count w = accesses_of w (open_task w)

abbrev pub put_loop : List ℕ → ℕ → ℕ → ℕ → List ℕ
put_loop w p q n = set (set (set w 0 p) 1 q) 2 n

abbrev pub put_begin : List ℕ → ℕ → ℕ → ℕ → ℕ → List ℕ
put_begin w t q k c = set (set (set (set w 3 (t + 1)) (rank_index t) q) (kernel_index t) k) (constant_index t) c

abbrev pub put_access : List ℕ → ℕ → ℕ → ℕ → List ℕ
put_access w t a x = set (set w (access_index t a) x) (accesses_index t) (a + 1)

abbrev pub move : ℕ → List ℕ → List ℕ → Record → Move
move zero f w (Loop p q n) =
    unless (lies 0 max_passes p) 3
    (unless (lies 1 max_ranks q) 3
    (unless (lies 1 max_regions n) 3
    (go 1 f (put_loop w (value_of p) (value_of q) (value_of n)))))
move zero f w (Start g v) = stop 2
move zero f w (Begin q k c) = stop 2
move zero f w (Access m g) = stop 2
move zero f w End = stop 2
move zero f w Unreadable = stop (record_refusal Unreadable)
move (suc zero) f w (Loop p q n) = stop 2
move (suc zero) f w (Start g v) =
    unless (eqb (tasks_of w) 0) 2
    (unless (below (regions_of w) g) 3
    (unless (is_word v) 3
    (unless (not (eqb (at f (value_of g)) 1)) 6
    (go 1 (set f (value_of g) 1) (set w (4 + value_of g) (value_of v))))))
move (suc zero) f w (Begin q k c) =
    unless (below (ranks_of w) q) 3
    (unless (lies 0 max_kernel k) 3
    (unless (is_word c) 3
    (unless (ltb (tasks_of w) max_tasks) 10
    (go 2 f (put_begin w (tasks_of w) (value_of q) (value_of k) (value_of c))))))
move (suc zero) f w (Access m g) = stop 5
move (suc zero) f w End = stop 5
move (suc zero) f w Unreadable = stop (record_refusal Unreadable)
move (suc (suc n)) f w (Loop p q r) = stop 2
move (suc (suc n)) f w (Start g v) = stop 2
move (suc (suc n)) f w (Begin q k c) = stop 4
move (suc (suc n)) f w (Access m g) =
    unless (below (regions_of w) g) 3
    (unless (ltb (open_count w) max_accesses) 10
    (unless (not (any_below (open_count w) (λ a. eqb (value_of g) (region_at w (open_task w) a)))) 6
    (go 2 f (put_access w (open_task w) (open_count w) (value_of g + 128 * mode_word m)))))
move (suc (suc n)) f w End =
    unless (suits (kernel_of w (open_task w)) (count_below (open_count w) (is_read w (open_task w)))) 9
    (go 1 f w)
move (suc (suc n)) f w Unreadable = stop (record_refusal Unreadable)

abbrev pub end_of : ℕ → ℕ → List ℕ → Reading
end_of n zero w = refused 2 n
end_of n (suc zero) w =
    cond (eqb (tasks_of w) 0) (refused 8 n) (cond (leb (transfer_count (body_of w)) max_transfers) (accepted w) (refused 10 n))
end_of n (suc (suc p)) w = refused 7 n

abbrev pub on_move : ℕ → (ℕ → List ℕ → List ℕ → Reading) → Move → Reading
on_move n k (go p f w) = k p f w
on_move n k (stop why) = refused why n

abbrev pub machine_from : ℕ → ℕ → List ℕ → List ℕ → List (List ℕ) → Reading
machine_from n p f w [] = refused (line_refusal None) n
machine_from n p f w (l ∷ []) = cond (is_empty l) (end_of n p w) (refused (line_refusal None) n)
machine_from n p f w (l ∷ m ∷ ls) = on_move n (λ p' f' w'. machine_from (n + 1) p' f' w' (m ∷ ls)) (move p f w (record_of l))

unfoldable pub machine_of : List ℕ → Reading
machine_of text = cond (ltb max_bytes (length text)) (refused 10 0) (machine_from 1 0 (replicate max_regions 0) (replicate plan_words 0) (split 10 text))
