-- No more transfers than changes of a region's rank.
use mathlib.Core.Option.{Option, none, some}
use Rattle.std.proofs.Common.{◌≡◌, ℕ, zero, suc, ◌+◌, ◌*◌, ◌/◌, ◌%◌, ◌<◌, ◌≤◌, Bool, true, not, ◌&&◌, eqb, ltb, List, [], ◌∷◌, length, get_or, sym, refl, ap, ◌∙◌, arith, ltb-true, le-ltb, lt-ltb, eq-eqb, ne_eqb, eqb-true}
use borrow.Author.Tests.{not-true, eqb-false}
use Rattle.finite.specs.Below.{count_below}
use Rattle.finite.specs.Lists.{distinct, mem, position, tabulate}
use Rattle.finite.proofs.Below.{any_from, count_beyond, count_cover, count_ext, count_never, count_split, sum_beyond, sum_ext}
use Rattle.finite.proofs.Lists.{get_d_tabulate, length_tabulate}
use Rattle.finite.proofs.Members.{at_in, in_mem, mem_gather}
use Rattle.finite.proofs.Tabulate.{distinct_tabulate}
use Rattle.finite.proofs.Tests.{and-true, not_both}
use Rattle.body.specs.Transfers.{equals, source, transferred, wanted}
use Rattle.transfers.specs.Search.{access_flags}
use Rattle.form.specs.Changes.{change_count, changed}
use Rattle.plan.specs.Layout.{accesses_of, body_of, is_read, is_written, rank_of, ranks_of, reads_of, region_at, tasks_of}
use Rattle.transfers.specs.Wanted.{wanted_at}
use Rattle.plan.proofs.Facts.{Formed}
use Rattle.form.proofs.Trace.{Traced, last_is, trace}

-- where a number first stands in a list without repetitions
position_at : (l : List ℕ) (i : ℕ) → distinct l ≡ true → i < length l → position (get_or l i 0) l ≡ i
unfolding distinct position
position_at [] i h k = absurd (omega arith)
position_at (x ∷ l) zero h k = rw (eq-eqb x x refl)
position_at (x ∷ l) (suc i) h k =
    let a = and-true (not (mem x l)) (distinct l) h in
    let m : mem (get_or l i 0) l ≡ true = in_mem (get_or l i 0) l (at_in (get_or l i 0) 0 l i (omega arith) refl) in
    let n : (get_or l i 0 ≡ x) → ⊥ = λ e. not_both (rw e at m) (not-true (mem x l) a.0) in
    rw (ne_eqb (get_or l i 0) x n, position_at l i a.1 (omega arith))

-- the number that an option holds
abbrev held : Option ℕ → ℕ
held none = 0
held (some i) = i

module _ (w : List ℕ) where
  abbrev source_at : ℕ → ℕ → ℕ
  source_at u g = held (source (body_of w) u g)

  -- which access of task i names g
  abbrev access_of : ℕ → ℕ → ℕ
  access_of i g = position g (tabulate (accesses_of w i) (region_at w i))

  -- the flag of the transfer that access b of task u may ask for, at 8 u + b
  abbrev flag_for : ℕ → ℕ
  flag_for j =
      let u = j / 8 in
      let g = region_at w u (j % 8) in
      128 * source_at u g + 16 * access_of (source_at u g) g + rank_of w u

  abbrev changed_at : ℕ → Bool
  changed_at j = ltb (j / 8) (tasks_of w) && (ltb (j % 8) (accesses_of w (j / 8)) && changed w (j / 8) (j % 8))

  changed_flat : (u b : ℕ) → b < 8 → changed_at (u * 8 + b) ≡ (ltb u (tasks_of w) && (ltb b (accesses_of w u) && changed w u b))
  changed_flat u b h =
      let d : (u * 8 + b) / 8 ≡ u = omega arith in
      let m : (u * 8 + b) % 8 ≡ b = omega arith in
      rw (d, m)

  module _ (f : Formed w) where
    -- the changes of task u
    task_changes : (u : ℕ) → u < tasks_of w → count_below 8 (λ b. changed_at (u * 8 + b)) ≡ count_below (accesses_of w u) (changed w u)
    task_changes u h =
        count_beyond 8 (accesses_of w u) (λ b. changed_at (u * 8 + b)) (f.used u h).accesses_most
        (λ b l m. changed_flat u b m ∙ rw (lt-ltb u (tasks_of w) h, le-ltb b (accesses_of w u) l))
        ∙ count_ext (accesses_of w u) (λ b. changed_at (u * 8 + b)) (changed w u)
        (λ b l. let m = (f.used u h).accesses_most in changed_flat u b (omega arith) ∙ rw (lt-ltb u (tasks_of w) h, lt-ltb b (accesses_of w u) l))

    changes_flat : count_below (128 * 8) changed_at ≡ change_count w
    unfolding change_count
    changes_flat =
        count_split 128 8 changed_at
        ∙ (sum_beyond 128 (tasks_of w) (λ u. count_below 8 (λ b. changed_at (u * 8 + b))) f.tasks_most
        (λ u l m. count_never 8 (λ b. changed_at (u * 8 + b)) (λ b k. changed_flat u b k ∙ rw (le-ltb u (tasks_of w) l)))
        ∙ sum_ext (tasks_of w) (λ u. count_below 8 (λ b. changed_at (u * 8 + b))) (λ u. count_below (accesses_of w u) (changed w u)) task_changes)

    access_is : (i a : ℕ) → i < tasks_of w → a < accesses_of w i → access_of i (region_at w i a) ≡ a
    access_is i a h k =
        let d : distinct (tabulate (accesses_of w i) (region_at w i)) ≡ true =
        distinct_tabulate (accesses_of w i) (region_at w i) (λ x y l m. ne_eqb (region_at w i x) (region_at w i y) (λ e. let z : x ≡ y = (f.used i h).apart x y (omega arith) m e in omega arith)) in
        let e : get_or (tabulate (accesses_of w i) (region_at w i)) a 0 ≡ region_at w i a = get_d_tabulate (region_at w i) (accesses_of w i) a 0 k in
        rw e at (position_at (tabulate (accesses_of w i) (region_at w i)) a d (omega (arith, length_tabulate (region_at w i) (accesses_of w i))))

    -- a transfer's flag is that of an access at which the region's rank changes
    covered : (k i a q : ℕ) → i ≡ k / 128 → a ≡ k / 16 % 8 → q ≡ k % 16 → wanted_at w i a q ≡ true → (j : ℕ) × (j < 128 * 8) × (changed_at j ≡ true) × (flag_for j ≡ k)
    unfolding wanted_at transferred wanted
    covered k i a q ei ea eq h =
        let g = region_at w i a in
        let h1 = and-true (ltb i (tasks_of w)) _ h in
        let h2 = and-true (ltb a (accesses_of w i)) _ h1.1 in
        let h3 = and-true (is_written w i a) _ h2.1 in
        let h4 = and-true (ltb q (ranks_of w)) (transferred (body_of w) i (region_at w i a) q) h3.1 in
        let h5 = and-true (not (eqb q (rank_of w i))) (wanted (body_of w) i (region_at w i a) q) h4.1 in
        let t = any_from (λ t. eqb (rank_of w t) q && (mem (region_at w i a) (reads_of w t) && equals (source (body_of w) t (region_at w i a)) i)) (tasks_of w) h5.1 in
        let r1 = and-true (eqb (rank_of w t.0) q) _ t.2 in
        let r2 = and-true (mem (region_at w i a) (reads_of w t.0)) (equals (source (body_of w) t.0 (region_at w i a)) i) r1.1 in
        let b = any_from (λ b. is_read w t.0 b && eqb (region_at w i a) (region_at w t.0 b)) (accesses_of w t.0)
        (sym (mem_gather (accesses_of w t.0) (is_read w t.0) (region_at w t.0) (region_at w i a)) ∙ r2.0) in
        let same = eqb-true (region_at w i a) (region_at w t.0 b.0) (and-true (is_read w t.0 b.0) (eqb (region_at w i a) (region_at w t.0 b.0)) b.2).1 in
        let T = trace w (suc t.0) t.0 b.0 i (region_at w i a) q (omega arith) t.1 b.1 (sym same) (eqb-true (rank_of w t.0) q r1.0)
        (last_is (source (body_of w) t.0 (region_at w i a)) i r2.1) (λ e. eqb-false q (rank_of w i) (not-true (eqb q (rank_of w i)) h5.0) (sym e)) in
        found k i a q ei ea eq (ltb-true i (tasks_of w) h1.0) (ltb-true a (accesses_of w i) h2.0) T.0 T.1 T.2
      where
        found : (k i a q : ℕ) → i ≡ k / 128 → a ≡ k / 16 % 8 → q ≡ k % 16 → i < tasks_of w → a < accesses_of w i → (u b : ℕ) → Traced w i (region_at w i a) q u b →
            (j : ℕ) × (j < 128 * 8) × (changed_at j ≡ true) × (flag_for j ≡ k)
        found k i a q ei ea eq hi ha u b T =
            let few = f.tasks_most in
            let most = (f.used u T.task).accesses_most in
            let low : b < 8 = omega (arith, T.access) in
            let d : (u * 8 + b) / 8 ≡ u = omega arith in
            let m : (u * 8 + b) % 8 ≡ b = omega arith in
            let s : source_at u (region_at w i a) ≡ i = ap held T.sourced in (
              u * 8 + b,
              omega (arith, T.task),
              changed_flat u b low ∙ rw (lt-ltb u (tasks_of w) T.task, lt-ltb b (accesses_of w u) T.access, T.changes),
              rw (d, m, T.region, s, access_is i a hi ha, T.ranked) (omega arith),
            )

    pub transfers_bounded : count_below access_flags (λ k. wanted_at w (k / 128) (k / 16 % 8) (k % 16)) ≤ change_count w
    transfers_bounded =
        let c : count_below access_flags (λ k. wanted_at w (k / 128) (k / 16 % 8) (k % 16)) ≤ count_below (128 * 8) changed_at =
        count_cover access_flags (128 * 8) (λ k. wanted_at w (k / 128) (k / 16 % 8) (k % 16)) changed_at flag_for (λ k l h. covered k (k / 128) (k / 16 % 8) (k % 16) refl refl refl h) in
        omega (arith, changes_flat)
