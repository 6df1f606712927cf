-- A plan whose written text has the most bytes.
use Prim.Native.Nat.{ℕ, ◌+◌, ◌<◌}
use mathlib.Core.Path.{◌≡◌, refl, sym, ap, ◌∙◌}
use mathlib.Core.Bool.{true, not, ◌&&◌}
use mathlib.Core.List.Memᴰ.{head as here}
use mathlib.Core.List.{List, [], ◌∷◌, Memᴰ as In}
use native.Mathlib.Omega.{arith}
use borrow.Author.Tests.{eqb-true, eqb-false, not-true}
use lib.Dec.{eqb}
use lib.ListN.{length, replicate, get_or-replicate}
use Rattle.text.specs.declared.Mode.{Mode}
use Rattle.finite.specs.Lists.{distinct, gather, mem, range, tabulate}
use Rattle.finite.proofs.Below.{any_from}
use Rattle.finite.proofs.Lists.{in_gather_from, in_range_from}
use Rattle.finite.proofs.Members.{in_flat_map_from}
use Rattle.finite.proofs.Tests.{and-true}
use Rattle.kernels.specs.Kernels.{suits}
use Rattle.body.specs.Body.{Body}
use Rattle.body.specs.Transfers.{Transfer, equals, source, transfer, transfer_count, transfer_list, transferred, transfers_of, wanted}
use Rattle.plan.specs.Layout.{body_of, plan_words}
use Rattle.plan.specs.Limits.{max_accesses, max_passes, max_ranks, max_regions, max_tasks, max_word}
use Rattle.plan.specs.Sizes.{text_bytes}
use Rattle.reading.specs.Laws.{Says}
use Rattle.reading.specs.Plan.{Plan, Task, no_task, starts_of, task_at, words_of}
use Rattle.reading.specs.Valid.{valid}
use Rattle.text.specs.Digits.{digits}
use Rattle.reading.specs.Written.{Rising, records, text_from, text_of}
use Rattle.reading.proofs.Holds.{held}
use Rattle.reading.proofs.Limits.{limits}
use Rattle.reading.proofs.Starts.{starts_rising}
use Rattle.reading.proofs.Traces.{written}

none_in : (l : List Transfer) → ((x : Transfer) → In x l → ⊥) → length l ≡ 0
none_in [] f = refl
none_in (x ∷ l) f = absurd (f x (here refl))

-- tasks on one rank have no transfer
module _ (B : Body) (r : ℕ) (h : (i : ℕ) → i < B.tasks → B.rank i ≡ r) where
  none_wanted : (i g q : ℕ) → i < B.tasks → (q ≡ B.rank i → ⊥) → wanted B i g q ≡ true → ⊥
  unfolding wanted
  none_wanted i g q k n t =
      let (j, l, p) = any_from (λ t. eqb (B.rank t) q && (mem g (B.reads t) && equals (source B t g) i)) B.tasks t in
      n (sym (eqb-true (B.rank j) q (and-true (eqb (B.rank j) q) _ p).0) ∙ h j l ∙ sym (h i k))

  none_transferred : (i g q : ℕ) → i < B.tasks → transferred B i g q ≡ true → ⊥
  unfolding transferred
  none_transferred i g q k t =
      let u = and-true (not (eqb q (B.rank i))) (wanted B i g q) t in
      none_wanted i g q k (eqb-false q (B.rank i) (not-true (eqb q (B.rank i)) u.0)) u.1

  one_rank : transfer_count B ≡ 0
  unfolding transfer_count transfers_of
  one_rank = none_in (transfer_list B) none
    where
      none : (x : Transfer) → In x (transfer_list B) → ⊥
      none x m =
          let (i, a, b) = in_flat_map_from (transfers_of B) x (range 0 B.tasks) m in
          let (g, c, d) = in_flat_map_from (λ g. gather B.ranks (transferred B i g) (transfer i g)) x (B.writes i) b in
          let (q, k, t, e) = in_gather_from B.ranks (transferred B i g) (transfer i g) x d in
          none_transferred i g q (omega (arith, (in_range_from i 0 B.tasks a).1)) t

abbrev long_task : Task
long_task = record { rank = 10; kernel = 1; constant = max_word; accesses = tabulate max_accesses (λ a. record { mode = Mode.Inout; region = 100 + a }) }

unfoldable pub long_plan : Plan
long_plan =
    record {
      passes = max_passes;
      ranks = max_ranks;
      regions = max_regions;
      starts = starts_of (replicate plan_words max_word) 0 max_regions;
      tasks = replicate max_tasks long_task;
    }

long_valid : valid long_plan ≡ true
unfolding long_plan valid tabulate distinct mem suits
long_valid = refl

long_size : length (text_from (records long_plan)) ≡ text_bytes
unfolding long_plan tabulate digits
long_size = refl

long_rising : Rising 0 long_plan.starts
unfolding long_plan
long_rising = starts_rising (replicate plan_words max_word) 0 max_regions

long_tasks : length long_plan.tasks ≡ max_tasks
unfolding long_plan
long_tasks = refl

long_rank : (i : ℕ) → i < max_tasks → (task_at long_plan.tasks i).rank ≡ 10
unfolding long_plan
long_rank i h = ap (λ (t : Task). t.rank) (get_or-replicate max_tasks i long_task no_task h)

long_transfers : transfer_count (body_of (words_of long_plan)) ≡ 0
long_transfers =
    let H = held long_plan (limits long_plan long_valid) in
    one_rank (body_of (words_of long_plan)) 10 (λ i h. let k : i < length long_plan.tasks = omega (arith, H.tasks) in H.rank i k ∙ long_rank i (omega (arith, long_tasks)))

pub long_says : Says (text_from (records long_plan)) long_plan
long_says =
    record {
      lines = refl;
      size = omega (arith, long_size);
      within = long_valid;
      some = omega (arith, long_tasks);
      transfers = omega (arith, long_transfers);
    }

pub long_reached : length (text_of (words_of long_plan)) ≡ text_bytes
long_reached = ap length (sym ((written (text_from (records long_plan)) long_plan long_says).1 long_rising)) ∙ long_size
