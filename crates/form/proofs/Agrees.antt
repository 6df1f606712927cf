-- The scan's tests are those of Form.
use Rattle.std.proofs.Common.{◌≡◌, ℕ, zero, suc, ◌+◌, ◌-◌, ◌*◌, ◌/◌, ◌%◌, ◌<◌, ◌≤◌, Bool, true, false, not, ◌&&◌, eqb, ltb, leb, List, replicate, sym, refl, ap, ◌∙◌, ⊎_elim, arith, le-ltb, lt-ltb, eq-eqb, ne_eqb, eqb-true, le-leb, leb-true, Some, None}
use mathlib.Core.Bool.{or-true}
use native.Mathlib.Decide.{dec_lt}
use borrow.Author.Tests.{not-true, not-false}
use lib.ListN.{length-replicate, get_or-replicate}
use Rattle.finite.specs.Below.{all_below}
use Rattle.finite.proofs.Tests.{not_both, test_ext, and-true, and_intro, or_right, true_or_false}
use Rattle.finite.proofs.Below.{all_at, all_of, any_at, any_never}
use Rattle.kernels.proofs.Laws.{suits_kernel}
use Rattle.plan.specs.Limits.{max_passes, max_ranks, max_regions, max_tasks, max_accesses, max_kernel}
use Rattle.plan.specs.Layout.{at, passes_of, ranks_of, regions_of, tasks_of, starting_of, rank_of, kernel_of, accesses_of, access_at, region_at, rank_index, task_words, access_end}
use Rattle.plan.specs.Form.{counts_ok, value_ok, access_ok, rest_ok, used_ok, unused_ok, task_ok, words_ok, words_within}
use Rattle.plan.proofs.Facts.{Formed, formed}
use Rattle.form.specs.Changes.{names, change_count}
use Rattle.form.specs.Scan.{mark, kept, fresh_ok, fresh_all_ok, head_ok, reads_ok, scan_ok, absent_ok, behind_ok, tasks_scan_ok, behind_regions_ok, half, pair_ok, behind_tasks_ok, Open, Scanned, Answer}
use Rattle.form.proofs.Rest.{rest_at}

module _ (w : List ℕ) where
  -- what is kept of a region that no task has named, and of one that some task has

  kept_none : (n g : ℕ) → ((i : ℕ) → i < n → names w i g ≡ false) → kept w n g ≡ 0
  unfolding kept
  kept_none zero g h = refl
  kept_none (suc n) g h = rw (h n (omega arith)) (kept_none n g (λ i l. h i (omega arith)))

  kept_some : (n g i : ℕ) → i < n → names w i g ≡ true → kept w n g ≡ 0 → ⊥
  unfolding kept
  kept_some zero g i l h e = omega arith
  kept_some (suc n) g i l h e =
      ⊎_elim
      (λ (t : names w n g ≡ true). let z : mark w n ≡ 0 = rw t at e in omega arith)
      (λ (t : names w n g ≡ false).
      elim (dec_lt i n) [
        | yes k ↦ kept_some n g i k h (rw t at e)
        | no k ↦ (let s : i ≡ n = omega arith in not_both (rw s at h) t)
      ])
      (true_or_false (names w n g))

  pub record Counted : Type 0 where
    pub ranks : ranks_of w ≤ max_ranks
    pub regions : regions_of w ≤ max_regions
    pub tasks : tasks_of w ≤ max_tasks

  pub counted : counts_ok w ≡ true → Counted
  counted h =
      let a = and-true (leb (passes_of w) max_passes) _ h in
      let b = and-true (leb 1 (ranks_of w)) _ a.1 in
      let c = and-true (leb (ranks_of w) max_ranks) _ b.1 in
      let d = and-true (leb 1 (regions_of w)) _ c.1 in
      let e = and-true (leb (regions_of w) max_regions) _ d.1 in
      let f = and-true (leb 1 (tasks_of w)) (leb (tasks_of w) max_tasks) e.1 in
      record { ranks = leb-true _ _ c.0; regions = leb-true _ _ e.0; tasks = leb-true _ _ f.1 }

  -- from the scan

  module _ (k : Counted) (s : tasks_scan_ok w ≡ true) (r : behind_regions_ok w ≡ true) (t : behind_tasks_ok w ≡ true) where
    absent : (g : ℕ) → g < max_regions → regions_of w ≤ g → absent_ok w g ≡ true
    absent g l b = or_right (ltb g (regions_of w)) (absent_ok w g) (all_at (behind_ok w) max_regions g r l) (le-ltb g (regions_of w) b)

    value_of_scan : (g : ℕ) → g < max_regions → value_ok w g ≡ true
    value_of_scan g l =
        elim (dec_lt g (regions_of w)) [
          | yes b ↦ rw (lt-ltb g (regions_of w) b)
          | no b ↦ (rw (and-true (eqb (kept w (tasks_of w) g) 0) (eqb (starting_of w g) 0) (absent g l (omega arith))).1 (or-true (ltb g (regions_of w))))
        ]

    region_of_scan : (i a : ℕ) → i < tasks_of w → a < accesses_of w i → region_at w i a < regions_of w
    region_of_scan i a l m =
        elim (dec_lt (region_at w i a) (regions_of w)) [
          | yes b ↦ b
          | no b ↦ absurd (kept_some (tasks_of w) (region_at w i a) i l
              (any_at (λ b. eqb (region_at w i a) (region_at w i b)) (accesses_of w i) a m (eq-eqb (region_at w i a) (region_at w i a) refl))
              (eqb-true _ _ (and-true (eqb (kept w (tasks_of w) (region_at w i a)) 0) (eqb (starting_of w (region_at w i a)) 0) (absent (region_at w i a) (omega arith) (omega arith))).0))
        ]

    access_of_scan : (i a : ℕ) → i < tasks_of w → a < accesses_of w i → fresh_ok w i a ≡ true → access_ok w i a ≡ true
    access_of_scan i a l m h =
        let f = and-true (ltb (access_at w i a) access_end) (all_below a (λ b. not (eqb (region_at w i b) (region_at w i a)))) h in
        rw (f.0, lt-ltb (region_at w i a) (regions_of w) (region_of_scan i a l m)) f.1

    used_of_scan : (i : ℕ) → i < tasks_of w → used_ok w i ≡ true
    unfolding scan_ok
    used_of_scan i l =
        let h = and-true (head_ok w i) (fresh_all_ok w i && (rest_ok w i && reads_ok w i)) (all_at (scan_ok w) (tasks_of w) i s l) in
        let f = and-true (fresh_all_ok w i) (rest_ok w i && reads_ok w i) h.1 in
        let e = and-true (rest_ok w i) (reads_ok w i) f.1 in
        let a = and-true (ltb (rank_of w i) (ranks_of w)) (leb (accesses_of w i) max_accesses) h.0 in
        let k : leb (kernel_of w i) max_kernel ≡ true = le-leb _ _ (suits_kernel (kernel_of w i) _ e.1) in
        let c : all_below (accesses_of w i) (access_ok w i) ≡ true = all_of (access_ok w i) (accesses_of w i) (λ j m. access_of_scan i j l m (all_at (fresh_ok w i) (accesses_of w i) j f.0 m)) in
        rw (a.0, k, a.1, c, e.1) e.0

    word_of_scan : (m : ℕ) → m < half w + half w → at w (rank_index (tasks_of w) + m) ≡ 0
    word_of_scan m l =
        elim (dec_lt m (half w)) [
          | yes b ↦ eqb-true _ _ (pair m b).0
          | no b ↦ (let e : rank_index (tasks_of w) + half w + (m - half w) ≡ rank_index (tasks_of w) + m = omega arith in
              sym (ap (at w) e) ∙ eqb-true _ _ (pair (m - half w) (omega arith)).1)
        ]
      where
        pair : (j : ℕ) → j < half w → (eqb (at w (rank_index (tasks_of w) + j)) 0 ≡ true) × (eqb (at w (rank_index (tasks_of w) + half w + j)) 0 ≡ true)
        pair j b = and-true (eqb (at w (rank_index (tasks_of w) + j)) 0) (eqb (at w (rank_index (tasks_of w) + half w + j)) 0) (all_at (pair_ok w) (half w) j t b)

    unused_of_scan : (i : ℕ) → i < max_tasks → tasks_of w ≤ i → unused_ok w i ≡ true
    unused_of_scan i l b =
        all_of (λ j. eqb (at w (rank_index i + j)) 0) task_words
        (λ j m. let e : rank_index (tasks_of w) + (task_words * (i - tasks_of w) + j) ≡ rank_index i + j = omega arith in
        eq-eqb (at w (rank_index i + j)) 0 (sym (ap (at w) e) ∙ word_of_scan (task_words * (i - tasks_of w) + j) (omega (arith, k.tasks))))

    task_of_scan : (i : ℕ) → i < max_tasks → task_ok w i ≡ true
    task_of_scan i l =
        elim (dec_lt i (tasks_of w)) [
          | yes b ↦ rw (lt-ltb i (tasks_of w) b) (used_of_scan i b)
          | no b ↦ rw (le-ltb i (tasks_of w) (omega arith)) (unused_of_scan i l (omega arith))
        ]

  -- and back

  module _ (F : Formed w) where
    fresh_of_form : (i a : ℕ) → i < tasks_of w → a < accesses_of w i → fresh_ok w i a ≡ true
    fresh_of_form i a l m =
        let u = F.used i l in
        rw (lt-ltb _ _ (u.access_below a m))
        (all_of (λ b. not (eqb (region_at w i b) (region_at w i a))) a
        (λ b k. rw (ne_eqb (region_at w i b) (region_at w i a) (λ e. let z : b ≡ a = u.apart b a (omega arith) m e in omega arith))))

    rest_of_form : (i : ℕ) → i < tasks_of w → rest_ok w i ≡ true
    rest_of_form i l =
        all_of (rest_at w i) max_accesses
        (λ a m. elim (dec_lt a (accesses_of w i)) [
          | yes k ↦ rw (lt-ltb a (accesses_of w i) k)
          | no k ↦ rw (eq-eqb _ _ ((F.used i l).rest_zero a (omega arith) m)) (or-true (ltb a (accesses_of w i)))
        ])

    scan_of_form : (i : ℕ) → i < tasks_of w → scan_ok w i ≡ true
    unfolding scan_ok
    scan_of_form i l =
        let u = F.used i l in
        let f : fresh_all_ok w i ≡ true = all_of (fresh_ok w i) (accesses_of w i) (λ a m. fresh_of_form i a l m) in
        rw (lt-ltb _ _ u.rank_below, le-leb _ _ u.accesses_most, f, rest_of_form i l) u.suited

    absent_of_form : (g : ℕ) → g < max_regions → behind_ok w g ≡ true
    absent_of_form g l =
        elim (dec_lt g (regions_of w)) [
          | yes b ↦ rw (lt-ltb g (regions_of w) b)
          | no b ↦ (rw (le-ltb g (regions_of w) (omega arith), eq-eqb _ _ (unnamed (omega arith)), eq-eqb _ _ (F.value_zero g (omega arith) l)))
        ]
      where
        unnamed : regions_of w ≤ g → kept w (tasks_of w) g ≡ 0
        unnamed b =
            kept_none (tasks_of w) g
            (λ i m. any_never (λ a. eqb g (region_at w i a)) (accesses_of w i)
            (λ a n. ne_eqb g (region_at w i a) (λ e. absurd (omega (arith, (F.used i m).region_below a n)))))

    word_of_form : (m : ℕ) → m < half w + half w → at w (rank_index (tasks_of w) + m) ≡ 0
    word_of_form m l =
        let e : rank_index (tasks_of w + m / task_words) + m % task_words ≡ rank_index (tasks_of w) + m = omega arith in
        sym (ap (at w) e) ∙ F.unused (tasks_of w + m / task_words) (m % task_words) (omega arith) (omega (arith, F.tasks_most)) (omega arith)

    pair_of_form : (j : ℕ) → j < half w → pair_ok w j ≡ true
    pair_of_form j l =
        let e : rank_index (tasks_of w) + (half w + j) ≡ rank_index (tasks_of w) + half w + j = omega arith in
        rw (eq-eqb _ _ (word_of_form j (omega arith)), eq-eqb _ _ (sym (ap (at w) e) ∙ word_of_form (half w + j) (omega arith)))

  agrees : counts_ok w ≡ true → (tasks_scan_ok w && (behind_regions_ok w && behind_tasks_ok w)) ≡ words_ok w
  unfolding words_within
  agrees h =
      test_ext (tasks_scan_ok w && (behind_regions_ok w && behind_tasks_ok w)) (counts_ok w && (all_below max_regions (value_ok w) && all_below max_tasks (task_ok w)))
      (λ e.
      let a = and-true (tasks_scan_ok w) (behind_regions_ok w && behind_tasks_ok w) e in
      let b = and-true (behind_regions_ok w) (behind_tasks_ok w) a.1 in
      and_intro (counts_ok w) (all_below max_regions (value_ok w) && all_below max_tasks (task_ok w)) h
      (and_intro (all_below max_regions (value_ok w)) (all_below max_tasks (task_ok w))
      (all_of (value_ok w) max_regions (value_of_scan (counted h) a.0 b.0 b.1))
      (all_of (task_ok w) max_tasks (task_of_scan (counted h) a.0 b.0 b.1))))
      (λ e.
      let F = formed w e in
      and_intro (tasks_scan_ok w) (behind_regions_ok w && behind_tasks_ok w)
      (all_of (scan_ok w) (tasks_of w) (scan_of_form F))
      (and_intro (behind_regions_ok w) (behind_tasks_ok w)
      (all_of (behind_ok w) max_regions (absent_of_form F))
      (all_of (pair_ok w) (half w) (pair_of_form F))))

  -- the answers: t that of the test of the counts, n and l those of the scan of the tasks

  pub open_of : (t : Bool) → t ≡ counts_ok w → not t ≡ false → Open w 0 (replicate max_regions 0)
  unfolding kept
  open_of t e z =
      let k = counted (sym e ∙ not-false t z) in
      record {
        tasks = k.tasks;
        most = k.ranks;
        ranks = λ j l. absurd (omega arith);
        keeps = record { size = length-replicate {A = ℕ} max_regions 0; word = λ g m. get_or-replicate {A = ℕ} max_regions g 0 0 m };
      }

  pub answer_counts : (t : Bool) → t ≡ counts_ok w → not t ≡ true → Answer w None
  unfolding words_within
  answer_counts t e z = rw (sym e ∙ not-true t z)

  module _ (t : Bool) (e : t ≡ counts_ok w) (z : not t ≡ false) where
    pub answer_tasks : tasks_scan_ok w ≡ false → Answer w None
    answer_tasks s = sym (agrees (sym e ∙ not-false t z)) ∙ rw s

    -- b and c answer the tests of what lies behind the regions and behind the tasks
    module _ (b c : Bool) (p : b ≡ behind_regions_ok w) (q : c ≡ behind_tasks_ok w) (n : ℕ) (l : List ℕ) (k : Scanned (tasks_scan_ok w) (change_count w) (kept w (tasks_of w)) (Some n) l) where
      found : (b && c) ≡ words_ok w
      found = rw (p, q) (sym (ap (λ (u : Bool). u && (behind_regions_ok w && behind_tasks_ok w)) k.0) ∙ agrees (sym e ∙ not-false t z))

      pub answer_behind : not (b && c) ≡ true → Answer w None
      answer_behind h = sym found ∙ not-true (b && c) h

      pub answer_fine : not (b && c) ≡ false → Answer w (Some n)
      answer_fine h = (sym found ∙ not-false (b && c) h, k.1)
