-- What words in form say as numbers, and that the body which they hold fits.
use Rattle.std.proofs.Common.{◌≡◌, ℕ, ◌+◌, ◌<◌, ◌≤◌, Bool, true, false, cond, not, ◌&&◌, ◌||◌, eqb, ltb, leb, List, sym, mul-le-mul, arith, ltb-true, le-ltb, lt-ltb, eqb-true, leb-true}
use mathlib.Core.Bool.{and-eq-true_iff}
use native.Mathlib.Decide.{dec_lt}
use borrow.Author.Tests.{eqb-false, not-true}
use Rattle.finite.specs.Below.{all_below, count_below}
use Rattle.finite.specs.Lists.{mem, gather}
use Rattle.finite.proofs.Tests.{not_both}
use Rattle.finite.proofs.Below.{all_at}
use Rattle.finite.proofs.Members.{mem_in, distinct_gather}
use Rattle.finite.proofs.Lists.{in_gather_from}
use Rattle.kernels.specs.Kernels.{suits}
use Rattle.body.specs.Body.{Fits}
use Rattle.plan.specs.Limits.{max_passes, max_ranks, max_regions, max_tasks, max_accesses, max_kernel}
use Rattle.plan.specs.Layout.{at, passes_of, ranks_of, regions_of, tasks_of, starting_of, rank_of, kernel_of, accesses_of, access_at, region_at, is_read, is_written, body_of, task_words, access_end, rank_index}
use Rattle.plan.specs.Form.{counts_ok, value_ok, access_ok, rest_ok, used_ok, unused_ok, task_ok, words_ok, words_within}

-- what is known of task i, one that the plan has
pub record Used (w : List ℕ) (i : ℕ) : Type 0 where
  pub rank_below : rank_of w i < ranks_of w
  pub rank_most : rank_of w i < max_ranks
  pub accesses_most : accesses_of w i ≤ max_accesses
  pub access_below : (a : ℕ) → a < accesses_of w i → access_at w i a < access_end
  pub region_below : (a : ℕ) → a < accesses_of w i → region_at w i a < regions_of w
  -- no two accesses of one region
  pub apart : (a b : ℕ) → a < accesses_of w i → b < accesses_of w i → region_at w i a ≡ region_at w i b → a ≡ b
  pub suited : suits (kernel_of w i) (count_below (accesses_of w i) (is_read w i)) ≡ true
  pub rest_zero : (a : ℕ) → accesses_of w i ≤ a → a < max_accesses → access_at w i a ≡ 0

-- what is known of the words
pub record Formed (w : List ℕ) : Type 0 where
  pub passes_most : passes_of w ≤ max_passes
  pub ranks_least : 1 ≤ ranks_of w
  pub ranks_most : ranks_of w ≤ max_ranks
  pub regions_least : 1 ≤ regions_of w
  pub regions_most : regions_of w ≤ max_regions
  pub tasks_least : 1 ≤ tasks_of w
  pub tasks_most : tasks_of w ≤ max_tasks
  pub value_zero : (g : ℕ) → regions_of w ≤ g → g < max_regions → starting_of w g ≡ 0
  pub used : (i : ℕ) → i < tasks_of w → Used w i
  pub unused : (i j : ℕ) → tasks_of w ≤ i → i < max_tasks → j < task_words → at w (rank_index i + j) ≡ 0

-- the parts of a conjunction
both : (a b : Bool) → (a && b) ≡ true → (a ≡ true) × (b ≡ true)
both a b h = (and-eq-true_iff a b).0 h

-- a test that holds where another does not
other : (a b : Bool) → (a || b) ≡ true → a ≡ false → b ≡ true
other true b h e = absurd (not_both h e)
other false b h e = h

module _ (w : List ℕ) where
  access_facts : (i a : ℕ) → access_ok w i a ≡ true →
      (access_at w i a < access_end) × (region_at w i a < regions_of w) × ((b : ℕ) → b < a → region_at w i b ≡ region_at w i a → ⊥)
  access_facts i a h =
      let u = both (ltb (access_at w i a) access_end) _ h in
      let v = both (ltb (region_at w i a) (regions_of w)) _ u.1 in (
        ltb-true _ _ u.0,
        ltb-true _ _ v.0,
        λ b l. eqb-false _ _ (not-true (eqb (region_at w i b) (region_at w i a)) (all_at (λ b. not (eqb (region_at w i b) (region_at w i a))) a b v.1 l)),
      )

  used_apart : (i : ℕ) → ((a : ℕ) → a < accesses_of w i → access_ok w i a ≡ true)
      → (a b : ℕ) → a < accesses_of w i → b < accesses_of w i → region_at w i a ≡ region_at w i b → a ≡ b
  used_apart i h a b l m e =
      elim (dec_lt a b) [
        | yes k ↦ absurd ((access_facts i b (h b m)).2 a k e)
        | no k ↦
            elim (dec_lt b a) [
              | yes j ↦ absurd ((access_facts i a (h a l)).2 b j (sym e))
              | no j ↦ omega arith
            ]
      ]

  used_facts : (i : ℕ) → ranks_of w ≤ max_ranks → used_ok w i ≡ true → Used w i
  used_facts i m h =
      let r = both (ltb (rank_of w i) (ranks_of w)) _ h in
      let k = both (leb (kernel_of w i) max_kernel) _ r.1 in
      let n = both (leb (accesses_of w i) max_accesses) _ k.1 in
      let a = both (all_below (accesses_of w i) (access_ok w i)) _ n.1 in
      let s = both (suits (kernel_of w i) (count_below (accesses_of w i) (is_read w i))) (rest_ok w i) a.1 in
      let each : (b : ℕ) → b < accesses_of w i → access_ok w i b ≡ true = λ b l. all_at (access_ok w i) (accesses_of w i) b a.0 l in
      let below : rank_of w i < ranks_of w = ltb-true _ _ r.0 in
      record {
        rank_below = below;
        rank_most = omega arith;
        accesses_most = leb-true _ _ n.0;
        access_below = λ b l. (access_facts i b (each b l)).0;
        region_below = λ b l. (access_facts i b (each b l)).1;
        apart = used_apart i each;
        suited = s.0;
        rest_zero = λ b l u. eqb-true _ _ (other (ltb b (accesses_of w i)) _ (all_at (λ a. ltb a (accesses_of w i) || eqb (access_at w i a) 0) max_accesses b s.1 u) (le-ltb _ _ l));
      }

  -- the words that `words_ok` accepts
  pub formed : words_ok w ≡ true → Formed w
  unfolding words_within
  formed h =
      let c = both (counts_ok w) _ h in
      let v = both (all_below max_regions (value_ok w)) (all_below max_tasks (task_ok w)) c.1 in
      let p = both (leb (passes_of w) max_passes) _ c.0 in
      let r = both (leb 1 (ranks_of w)) _ p.1 in
      let s = both (leb (ranks_of w) max_ranks) _ r.1 in
      let g = both (leb 1 (regions_of w)) _ s.1 in
      let k = both (leb (regions_of w) max_regions) _ g.1 in
      let t = both (leb 1 (tasks_of w)) (leb (tasks_of w) max_tasks) k.1 in
      let ranks : ranks_of w ≤ max_ranks = leb-true _ _ s.0 in
      let tasks : tasks_of w ≤ max_tasks = leb-true _ _ t.1 in
      let task : (i : ℕ) → i < max_tasks → cond (ltb i (tasks_of w)) (used_ok w i) (unused_ok w i) ≡ true = λ i l. all_at (task_ok w) max_tasks i v.1 l in
      record {
        passes_most = leb-true _ _ p.0;
        ranks_least = leb-true _ _ r.0;
        ranks_most = ranks;
        regions_least = leb-true _ _ g.0;
        regions_most = leb-true _ _ k.0;
        tasks_least = leb-true _ _ t.0;
        tasks_most = tasks;
        value_zero = λ g l u. eqb-true _ _ (other (ltb g (regions_of w)) _ (all_at (value_ok w) max_regions g v.0 u) (le-ltb _ _ l));
        used = λ i l. used_facts i ranks (rw (lt-ltb i (tasks_of w) l) at (task i (omega arith)));
        unused = λ i j l u m. eqb-true _ _ (all_at (λ j. eqb (at w (rank_index i + j)) 0) task_words j (rw (le-ltb i (tasks_of w) l) at (task i u)) m);
      }

-- a region of task i, of those that p chooses, is one of the plan's
chosen_below : (w : List ℕ) (i g : ℕ) (p : ℕ → Bool) → Used w i → mem g (gather (accesses_of w i) p (region_at w i)) ≡ true → g < regions_of w
chosen_below w i g p u m =
    let r = in_gather_from (accesses_of w i) p (region_at w i) g (mem_in g (gather (accesses_of w i) p (region_at w i)) m) in
    rw r.3 (u.region_below r.0 r.1)

-- the body of words in form fits
pub fits : (w : List ℕ) → words_ok w ≡ true → Fits (body_of w)
fits w h =
    let f = formed w h in
    record {
      rank_below = λ i l. (f.used i l).rank_below;
      reads_below = λ i g l m. chosen_below w i g (is_read w i) (f.used i l) m;
      writes_below = λ i g l m. chosen_below w i g (is_written w i) (f.used i l) m;
      written_once = λ i l. distinct_gather (accesses_of w i) (is_written w i) (region_at w i) (λ j k u v e. let z : j ≡ k = (f.used i l).apart j k (omega arith) v e in omega arith);
      room = mul-le-mul f.ranks_most f.regions_most;
    }
