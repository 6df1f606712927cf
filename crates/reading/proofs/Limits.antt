-- A valid plan's limits, one by one.
use Prim.Native.Nat.{ℕ}
use mathlib.Core.Path.{◌≡◌}
use mathlib.Core.Bool.{true}
use lib.Dec.{leb, ltb}
use lib.ListN.{length}
use Rattle.finite.specs.Lists.{distinct}
use Rattle.finite.proofs.Tests.{and-true}
use Rattle.plan.specs.Limits.{max_passes, max_ranks, max_regions, max_tasks}
use Rattle.reading.specs.Plan.{Plan, Task, named, started}
use Rattle.reading.specs.Valid.{access_fits, every, in_word, open_fits, start_fits, task_fits, valid}

pub record Limits (P : Plan) : Type 0 where
  pub passes : leb P.passes max_passes ≡ true
  pub some_rank : leb 1 P.ranks ≡ true
  pub ranks : leb P.ranks max_ranks ≡ true
  pub some_region : leb 1 P.regions ≡ true
  pub regions : leb P.regions max_regions ≡ true
  pub starts : every (start_fits P.regions) P.starts ≡ true
  pub once : distinct (started P.starts) ≡ true
  pub count : leb (length P.tasks) max_tasks ≡ true
  pub tasks : every (task_fits P.ranks P.regions) P.tasks ≡ true

pub limits : (P : Plan) → valid P ≡ true → Limits P
unfolding valid
limits P h =
    let v1 = and-true (leb P.passes max_passes) _ h in
    let v2 = and-true (leb 1 P.ranks) _ v1.1 in
    let v3 = and-true (leb P.ranks max_ranks) _ v2.1 in
    let v4 = and-true (leb 1 P.regions) _ v3.1 in
    let v5 = and-true (leb P.regions max_regions) _ v4.1 in
    let v6 = and-true (every (start_fits P.regions) P.starts) _ v5.1 in
    let v7 = and-true (distinct (started P.starts)) _ v6.1 in
    let v8 = and-true (leb (length P.tasks) max_tasks) _ v7.1 in
    record {
      passes = v1.0;
      some_rank = v2.0;
      ranks = v3.0;
      some_region = v4.0;
      regions = v5.0;
      starts = v6.0;
      once = v7.0;
      count = v8.0;
      tasks = v8.1;
    }

pub is_valid : (P : Plan) → Limits P → valid P ≡ true
unfolding valid
is_valid P l =
    rw (l.passes, l.some_rank, l.ranks, l.some_region, l.regions, l.starts, l.once, l.count, l.tasks)

pub record Opens (q n : ℕ) (t : Task) : Type 0 where
  pub rank : ltb t.rank q ≡ true
  pub kernel : leb t.kernel 4 ≡ true
  pub constant : in_word t.constant ≡ true
  pub count : leb (length t.accesses) 8 ≡ true
  pub accesses : every (access_fits n) t.accesses ≡ true
  pub once : distinct (named t.accesses) ≡ true

pub opens : (q n : ℕ) (t : Task) → open_fits q n t ≡ true → Opens q n t
opens q n t h =
    let o1 = and-true (ltb t.rank q) _ h in
    let o2 = and-true (leb t.kernel 4) _ o1.1 in
    let o3 = and-true (in_word t.constant) _ o2.1 in
    let o4 = and-true (leb (length t.accesses) 8) _ o3.1 in
    let o5 = and-true (every (access_fits n) t.accesses) (distinct (named t.accesses)) o4.1 in
    record { rank = o1.0; kernel = o2.0; constant = o3.0; count = o4.0; accesses = o5.0; once = o5.1 }

pub is_open : (q n : ℕ) (t : Task) → Opens q n t → open_fits q n t ≡ true
is_open q n t o = rw (o.rank, o.kernel, o.constant, o.count, o.accesses, o.once)
