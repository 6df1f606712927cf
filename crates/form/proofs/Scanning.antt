-- Laws of the scan of the tasks: _none, _more, _not and _done are a loop's, before its first turn,
-- over a turn, at a task that is not in form, and after its last.
use Rattle.std.proofs.Common.{◌≡◌, ℕ, suc, ◌+◌, ◌*◌, ◌<◌, ◌≤◌, Bool, true, false, not, ltb, leb, List, sym, refl, ◌∙◌, add-one, arith, ltb-true, leb-true, Option, Some, None}
use mathlib.Core.Bool.{and-false}
use borrow.Author.Tests.{not-true, not-false}
use Rattle.finite.specs.Below.{all_below, sum_below}
use Rattle.finite.proofs.Tests.{and-true, not_both}
use Rattle.finite.proofs.Below.{below_suc, all_none, all_more, all_done, all_fails, count_le, sum_none, sum_more, sum_done}
use Rattle.kernels.specs.declared.Permitted.TheVariants.{Any, Exactly, AtLeast}
use Rattle.kernels.specs.declared.Kernel.{Kernel}
use Rattle.kernels.specs.declared.Permitted.{Permitted}
use Rattle.kernels.specs.Kernels.{kernel_by, permits, allowed, suits}
use Rattle.kernels.proofs.Laws.{suits_by}
use Rattle.plan.specs.Limits.{max_ranks, max_accesses}
use Rattle.plan.specs.Layout.{ranks_of, tasks_of, rank_of, accesses_of}
use Rattle.plan.specs.Form.{rest_ok}
use Rattle.form.specs.Changes.{changed, change_count}
use Rattle.form.specs.Scan.{kept, fresh_all_ok, changes_of, head_ok, any_reads, takes_any, reads_ok, scan_ok, tasks_scan_ok, Open, Scanned}

-- the reads of a kernel that takes any need not be counted
pub suits_any : (k n : ℕ) → takes_any (kernel_by k) ≡ true → true ≡ suits k n
suits_any k n h = any_permits (kernel_by k) h ∙ suits_by k n (kernel_by k) refl
  where
    any_allows : (p : Permitted) → any_reads p ≡ true → true ≡ allowed p n
    any_allows Any h = refl
    any_allows (Exactly m) h = absurd (not_both h refl)
    any_allows (AtLeast m) h = absurd (not_both h refl)

    any_permits : (x : Option Kernel) → takes_any x ≡ true → true ≡ permits x n
    any_permits (Some kernel) h = any_allows kernel.permitted h
    any_permits None h = absurd (not_both h refl)

module _ (w : List ℕ) where
  pub record Head (i : ℕ) : Type 0 where
    pub rank : rank_of w i < ranks_of w
    pub few : accesses_of w i ≤ max_accesses

  pub head_of : (i : ℕ) → head_ok w i ≡ true → Head i
  head_of i h =
      let a = and-true (ltb (rank_of w i) (ranks_of w)) (leb (accesses_of w i) max_accesses) h in
      record { rank = ltb-true _ _ a.0; few = leb-true _ _ a.1 }

  -- what a scan of task i answers
  abbrev pub Task : ℕ → Option ℕ → List ℕ → Type 0
  Task i r l = Scanned (scan_ok w i) (changes_of w i) (kept w (suc i)) r l

  module _ (i : ℕ) (l : List ℕ) where
    pub task_fresh : fresh_all_ok w i ≡ false → Task i None l
    unfolding scan_ok
    task_fresh e = rw e (and-false (head_ok w i))

    module _ (t : Bool) (z : not t ≡ true) where
      pub task_head : t ≡ head_ok w i → Task i None l
      unfolding scan_ok
      task_head e = rw (← e, not-true t z)

      pub task_rest : t ≡ rest_ok w i → Task i None l
      unfolding scan_ok
      task_rest e = rw (← e, not-true t z, and-false (fresh_all_ok w i)) (and-false (head_ok w i))

      pub task_reads : t ≡ reads_ok w i → Task i None l
      unfolding scan_ok
      task_reads e = rw (← e, not-true t z, and-false (rest_ok w i), and-false (fresh_all_ok w i)) (and-false (head_ok w i))

  -- all tests hold
  pub task_fine : (i : ℕ) (h r s : Bool) (n : ℕ) (l : List ℕ) → h ≡ head_ok w i → not h ≡ false → Scanned (fresh_all_ok w i) (changes_of w i) (kept w (suc i)) (Some n) l
      → r ≡ rest_ok w i → not r ≡ false → s ≡ reads_ok w i → not s ≡ false → Task i (Some n) l
  unfolding scan_ok
  task_fine i h r s n l a a' b c c' d d' =
      (rw (sym a ∙ not-false h a', b.0, sym c ∙ not-false r c') (sym d ∙ not-false s d'), b.1, b.2)

  -- all tasks

  pub record Scanning (i n : ℕ) (l : List ℕ) : Type 0 where
    pub tested : true ≡ all_below i (scan_ok w)
    pub counts : n ≡ sum_below i (changes_of w)
    pub few : n ≤ 8 * i
    pub state : Open w i l

  pub scanning_none : (l : List ℕ) → Open w 0 l → Scanning 0 0 l
  scanning_none l o = record { tested = all_none (scan_ok w); counts = sum_none (changes_of w); few = omega arith; state = o }

  scan_head : (i : ℕ) → scan_ok w i ≡ true → Head i
  unfolding scan_ok
  scan_head i h = head_of i (and-true (head_ok w i) _ h).0

  pub task_few : (i c : ℕ) (m : List ℕ) → Task i (Some c) m → c ≤ 8
  task_few i c m t = omega (arith, t.1, count_le (changed w i) (accesses_of w i), (scan_head i t.0).few)

  pub scanning_more : (i n c : ℕ) (l m : List ℕ) → Scanning i n l → Task i (Some c) m → Scanning (i + 1) (n + c) m
  scanning_more i n c l m k t =
      let o = k.state in
      record {
        tested = all_more (scan_ok w) i true true k.tested (sym t.0);
        counts = sum_more (changes_of w) i n c k.counts t.1;
        few = omega (arith, task_few i c m t, k.few);
        state = rw add-one (record {
          tasks = o.tasks;
          most = o.most;
          ranks = below_suc (λ j. rank_of w j < max_ranks) i o.ranks (omega (arith, (scan_head i t.0).rank, o.most));
          keeps = t.2;
        });
      }

  -- what a scan of all tasks answers
  abbrev pub Tasks : Option ℕ → List ℕ → Type 0
  Tasks r l = Scanned (tasks_scan_ok w) (change_count w) (kept w (tasks_of w)) r l

  pub scanning_not : (i : ℕ) (m l : List ℕ) → Task i None m → i < tasks_of w → Tasks None l
  scanning_not i m l k b = all_fails (scan_ok w) (tasks_of w) i b k

  pub scanning_done : (i n : ℕ) (l : List ℕ) → Scanning i n l → tasks_of w ≤ i → i ≤ tasks_of w → Tasks (Some n) l
  unfolding change_count
  scanning_done i n l k p q =
      let e : i ≡ tasks_of w = omega arith in (
        sym (all_done (scan_ok w) (tasks_of w) i true k.tested p q),
        sum_done (changes_of w) (tasks_of w) i n k.counts p q,
        rw e at k.state.keeps,
      )
