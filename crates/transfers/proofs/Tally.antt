-- How many flags are set: at the end as many as there are transfers.
use Prim.Native.Nat.{ℕ, ◌+◌, ◌*◌, ◌/◌, ◌%◌, ◌<◌}
use mathlib.Core.Path.{◌≡◌, refl, sym, ◌∙◌, ap}
use mathlib.Core.Bool.{Bool, true, false, cond}
use mathlib.Core.List.{List}
use native.Mathlib.Omega.{arith}
use borrow.Author.Tests.{lt-ltb, le-ltb}
use lib.ListN.{length}
use Rattle.finite.specs.Below.{count_below, sum_below}
use Rattle.finite.specs.Lists.{gather}
use Rattle.finite.proofs.Below.{sum_ext, sum_const, sum_more_at, sum_beyond, count_ext, count_beyond, count_never, count_split}
use Rattle.finite.proofs.Lists.{length_gather, length_flat_map_range, length_flat_map_gather}
use Rattle.body.specs.Transfers.{transfer, transferred, transfers_of, transfer_count}
use Rattle.plan.specs.Layout.{ranks_of, tasks_of, accesses_of, region_at, is_written, body_of}
use Rattle.transfers.specs.Wanted.{wanted_at}
use Rattle.transfers.specs.Search.{per_flag, access_flags}
use Rattle.plan.proofs.Facts.{Formed}

per_flag_at : (p : ℕ → ℕ → ℕ → Bool) (k i a q : ℕ) → a < 8 → q < 16 → k ≡ 128 * i + 16 * a + q → per_flag p k ≡ p i a q
per_flag_at p k i a q l m e =
    let u : k / 128 ≡ i = omega arith in
    let v : k / 16 % 8 ≡ a = omega arith in
    let z : k % 16 ≡ q = omega arith in
    rw (u, v, z)

-- the ranks of one access are more by d
pub count_more_at : (p r : ℕ → ℕ → ℕ → Bool) (i a d : ℕ) → i < 128 → a < 8 → count_below 16 (r i a) ≡ count_below 16 (p i a) + d
    → ((j b q : ℕ) → b < 8 → q < 16 → (j ≡ i → b ≡ a → ⊥) → r j b q ≡ p j b q)
    → count_below access_flags (per_flag r) ≡ count_below access_flags (per_flag p) + d
count_more_at p r i a d li la e h =
    by_access r
    ∙ (sum_more_at 1024 (λ k. count_below 16 (p (k / 8) (k % 8))) (λ k. count_below 16 (r (k / 8) (k % 8))) (8 * i + a) d (omega arith) own (λ k n l. other k l n)
    ∙ ap (λ (x : ℕ). x + d) (sym (by_access p)))
  where
    by_access : (p : ℕ → ℕ → ℕ → Bool) → count_below access_flags (per_flag p) ≡ sum_below 1024 (λ k. count_below 16 (p (k / 8) (k % 8)))
    by_access p =
        count_split 1024 16 (per_flag p)
        ∙ sum_ext 1024 (λ k. count_below 16 (λ q. per_flag p (k * 16 + q))) (λ k. count_below 16 (p (k / 8) (k % 8)))
        (λ k l. count_ext 16 (λ q. per_flag p (k * 16 + q)) (p (k / 8) (k % 8)) (λ q m. per_flag_at p (k * 16 + q) (k / 8) (k % 8) q (omega arith) m (omega arith)))

    own : count_below 16 (r ((8 * i + a) / 8) ((8 * i + a) % 8)) ≡ count_below 16 (p ((8 * i + a) / 8) ((8 * i + a) % 8)) + d
    own =
        let u : (8 * i + a) / 8 ≡ i = omega arith in
        let v : (8 * i + a) % 8 ≡ a = omega arith in
        rw (u, v) e

    other : (k : ℕ) → k < 1024 → (k ≡ 8 * i + a → ⊥) → count_below 16 (r (k / 8) (k % 8)) ≡ count_below 16 (p (k / 8) (k % 8))
    other k l n = count_ext 16 (r (k / 8) (k % 8)) (p (k / 8) (k % 8)) (λ q m. h (k / 8) (k % 8) q (omega arith) m (λ x y. n (omega arith)))

module _ (w : List ℕ) (F : Formed w) where
  -- by task, access and rank
  count_by : count_below access_flags (per_flag (wanted_at w)) ≡ sum_below 128 (λ i. sum_below 8 (λ a. count_below 16 (wanted_at w i a)))
  count_by =
      count_split 128 128 (per_flag (wanted_at w))
      ∙ sum_ext 128 (λ i. count_below 128 (λ j. per_flag (wanted_at w) (i * 128 + j))) (λ i. sum_below 8 (λ a. count_below 16 (wanted_at w i a)))
      (λ i _. task i)
    where
      access : (i a : ℕ) → a < 8 → count_below 16 (λ q. per_flag (wanted_at w) (i * 128 + (a * 16 + q))) ≡ count_below 16 (wanted_at w i a)
      access i a l =
          count_ext 16 (λ q. per_flag (wanted_at w) (i * 128 + (a * 16 + q))) (wanted_at w i a)
          (λ q m. per_flag_at (wanted_at w) (i * 128 + (a * 16 + q)) i a q l m (omega arith))

      task : (i : ℕ) → count_below 128 (λ j. per_flag (wanted_at w) (i * 128 + j)) ≡ sum_below 8 (λ a. count_below 16 (wanted_at w i a))
      task i =
          count_split 8 16 (λ j. per_flag (wanted_at w) (i * 128 + j))
          ∙ sum_ext 8 (λ a. count_below 16 (λ q. per_flag (wanted_at w) (i * 128 + (a * 16 + q)))) (λ a. count_below 16 (wanted_at w i a)) (access i)

  -- an access of a task
  count_access : (i a : ℕ) → i < tasks_of w → a < accesses_of w i
      → count_below 16 (wanted_at w i a) ≡ cond (is_written w i a) (length (gather (ranks_of w) (transferred (body_of w) i (region_at w i a)) (transfer i (region_at w i a)))) 0
  unfolding wanted_at
  count_access i a l m = by (is_written w i a) refl
    where
      by : (b : Bool) → is_written w i a ≡ b → count_below 16 (wanted_at w i a) ≡ cond b (length (gather (ranks_of w) (transferred (body_of w) i (region_at w i a)) (transfer i (region_at w i a)))) 0
      by true e =
          count_beyond 16 (ranks_of w) (wanted_at w i a) F.ranks_most (λ q u v. rw (lt-ltb i (tasks_of w) l, lt-ltb a (accesses_of w i) m, e, le-ltb q (ranks_of w) u))
          ∙ (count_ext (ranks_of w) (wanted_at w i a) (transferred (body_of w) i (region_at w i a)) (λ q u. rw (lt-ltb i (tasks_of w) l, lt-ltb a (accesses_of w i) m, e, lt-ltb q (ranks_of w) u))
          ∙ sym (length_gather (ranks_of w) (transferred (body_of w) i (region_at w i a)) (transfer i (region_at w i a))))
      by false e = count_never 16 (wanted_at w i a) (λ q u. rw (lt-ltb i (tasks_of w) l, lt-ltb a (accesses_of w i) m, e))

  count_task : (i : ℕ) → i < tasks_of w → sum_below 8 (λ a. count_below 16 (wanted_at w i a)) ≡ length (transfers_of (body_of w) i)
  unfolding wanted_at transfers_of
  count_task i l =
      let u = F.used i l in
      sum_beyond 8 (accesses_of w i) (λ a. count_below 16 (wanted_at w i a)) u.accesses_most
      (λ a m n. count_never 16 (wanted_at w i a) (λ q v. rw (lt-ltb i (tasks_of w) l, le-ltb a (accesses_of w i) m)))
      ∙ (sum_ext (accesses_of w i) (λ a. count_below 16 (wanted_at w i a))
      (λ a. cond (is_written w i a) (length (gather (ranks_of w) (transferred (body_of w) i (region_at w i a)) (transfer i (region_at w i a)))) 0) (λ a m. count_access i a l m)
      ∙ sym (length_flat_map_gather (λ g. gather (ranks_of w) (transferred (body_of w) i g) (transfer i g)) (accesses_of w i) (is_written w i) (region_at w i)))

  pub count_found : count_below access_flags (per_flag (wanted_at w)) ≡ transfer_count (body_of w)
  unfolding wanted_at transfer_count
  count_found =
      count_by
      ∙ (sum_beyond 128 (tasks_of w) (λ i. sum_below 8 (λ a. count_below 16 (wanted_at w i a))) F.tasks_most
      (λ i m n. sum_ext 8 (λ a. count_below 16 (wanted_at w i a)) (λ a. 0) (λ a u. count_never 16 (wanted_at w i a) (λ q v. rw (le-ltb i (tasks_of w) m))) ∙ sum_const 8 0)
      ∙ (sum_ext (tasks_of w) (λ i. sum_below 8 (λ a. count_below 16 (wanted_at w i a))) (λ i. length (transfers_of (body_of w) i)) count_task
      ∙ sym (length_flat_map_range (transfers_of (body_of w)) (tasks_of w))))
