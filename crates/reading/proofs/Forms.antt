-- Words in form are a plan's canonical ones, and these are in form.
use Prim.Native.Nat.{ℕ, zero, suc, ◌+◌, ◌-◌, ◌/◌, ◌%◌, ◌≤◌, ◌<◌}
use mathlib.Core.Path.{◌≡◌, refl, sym, ap, ◌∙◌, subst}
use mathlib.Core.Bool.{Bool, true, false, not, cond, ◌||◌}
use mathlib.Core.List.{List, map, [], ◌∷◌, ◌++◌}
use native.Mathlib.Omega.{arith}
use borrow.Author.Tests.{leb-true, ltb-true, ltb-false, eqb-true, le-leb, lt-ltb, le-ltb, eq-eqb, not-true}
use lib.Dec.{eqb, leb, ltb, eqb-suc-suc, eqb-suc-zero}
use lib.ListN.{length, get_or, get_or-eq_default}
use Rattle.text.specs.declared.Mode.{Mode}
use Rattle.finite.specs.Below.{all_below, count_below}
use Rattle.finite.specs.Lists.{distinct, tabulate}
use Rattle.finite.proofs.Below.{all_at, all_of}
use Rattle.finite.proofs.Lists.{get_d_tabulate, length_tabulate}
use Rattle.finite.proofs.Tabulate.{distinct_tabulate, distinct_tabulate_at, map_tabulate, tabulate_ext, tabulate_list}
use Rattle.finite.proofs.Tests.{and_intro, and-true, not_both}
use Rattle.kernels.specs.Kernels.{suits}
use Rattle.plan.specs.Form.{Words, access_ok, counts_ok, rest_ok, task_ok, unused_ok, used_ok, value_ok, words_ok, words_within}
use Rattle.plan.specs.Layout.{access_at, accesses_of, at, constant_of, is_read, kernel_of, plan_words, rank_of, ranks_of, region_at, regions_of, tasks_of}
use Rattle.plan.specs.Layout.{rank_index, kernel_index, constant_index, accesses_index, access_index, task_words, access_end}
use Rattle.plan.specs.Limits.{max_passes, max_ranks, max_regions, max_tasks}
use Rattle.reading.specs.Plan.{Access, access_of, access_word, mode_of, mode_word, named, no_task, plan_of, read_count, read_mode, start_at, starts_of, task_at, task_of, task_word, word_at, words_of}
use Rattle.reading.specs.Valid.{access_fits, every, in_word, open_fits, task_fits, valid}
use Rattle.reading.proofs.Back.{start_word, task_word_lem, word_at_lem}
use Rattle.reading.proofs.Canonical.{canonical}
use Rattle.reading.proofs.Limits.{Limits, is_open, is_valid, limits, opens}
use Rattle.reading.proofs.Lists.{alike_refl, every_at, every_tabulate}
use Rattle.reading.proofs.Round.{Said, said}
use Rattle.reading.proofs.Starts.{start_none, starts_every, starts_in, starts_once, starts_out}

pub read_mode_lem : (m : ℕ) → read_mode (mode_of m) ≡ not (eqb m 1)
read_mode_lem zero = refl
read_mode_lem (suc zero) = refl
read_mode_lem (suc (suc n)) = rw (eqb-suc-suc (suc n) 0, eqb-suc-zero n)

mode_word_lem : (m : ℕ) → m < 3 → mode_word (mode_of m) ≡ m
mode_word_lem zero h = refl
mode_word_lem (suc zero) h = refl
mode_word_lem (suc (suc zero)) h = refl
mode_word_lem (suc (suc (suc n))) h = absurd (omega arith)

access_word_lem : (c : ℕ) → c < access_end → access_word (access_of c) ≡ c
access_word_lem c h = rw (mode_word_lem (c / 128) (omega arith)) (omega arith)

pub mode_few : (m : Mode) → mode_word m ≤ 2
mode_few Mode.In = omega arith
mode_few Mode.Out = omega arith
mode_few Mode.Inout = omega arith

access_few : (c : ℕ) → access_word (access_of c) < access_end
access_few c = omega (arith, mode_few (mode_of (c / 128)))

pub none_word : (j : ℕ) → task_word no_task j ≡ 0
none_word zero = refl
none_word (suc zero) = refl
none_word (suc (suc zero)) = refl
none_word (suc (suc (suc zero))) = refl
none_word (suc (suc (suc (suc a)))) = refl

or_right : (a b : Bool) → (a || b) ≡ true → a ≡ false → b ≡ true
or_right true b h e = absurd (not_both refl e)
or_right false b h e = h

count_snoc : (l : List Access) (x : Access) → read_count (l ++ (x ∷ [])) ≡ read_count l + cond (read_mode x.mode) 1 0
count_snoc [] x = omega arith
count_snoc (y ∷ l) x = omega (arith, count_snoc l x)

pub count_tabulate : (n : ℕ) (f : ℕ → Access) (q : ℕ → Bool) → ((i : ℕ) → read_mode (f i).mode ≡ q i) → read_count (tabulate n f) ≡ count_below n q
unfolding count_below tabulate
count_tabulate zero f q h = refl
count_tabulate (suc n) f q h = count_snoc (tabulate n f) (f n) ∙ rw (h n, count_tabulate n f q h)

-- one task
module _ (w : List ℕ) (t : ℕ) where
  reads_same : read_count (task_of w t).accesses ≡ count_below (accesses_of w t) (is_read w t)
  reads_same = count_tabulate (accesses_of w t) (λ a. access_of (access_at w t a)) (is_read w t) (λ i. read_mode_lem (access_at w t i / 128))

  regions_same : named (task_of w t).accesses ≡ tabulate (accesses_of w t) (region_at w t)
  regions_same = map_tabulate (λ a. a.region) (accesses_of w t) (λ a. access_of (access_at w t a))

  -- the tests of a task in use
  pub record Used : Type 0 where
    pub rank : ltb (rank_of w t) (ranks_of w) ≡ true
    pub kernel : leb (kernel_of w t) 4 ≡ true
    pub count : leb (accesses_of w t) 8 ≡ true
    pub each : all_below (accesses_of w t) (access_ok w t) ≡ true
    pub suited : suits (kernel_of w t) (count_below (accesses_of w t) (is_read w t)) ≡ true
    pub tail : rest_ok w t ≡ true

  used : used_ok w t ≡ true → Used
  used h =
      let u1 = and-true (ltb (rank_of w t) (ranks_of w)) _ h in
      let u2 = and-true (leb (kernel_of w t) 4) _ u1.1 in
      let u3 = and-true (leb (accesses_of w t) 8) _ u2.1 in
      let u4 = and-true (all_below (accesses_of w t) (access_ok w t)) _ u3.1 in
      let u5 = and-true (suits (kernel_of w t) (count_below (accesses_of w t) (is_read w t))) (rest_ok w t) u4.1 in
      record { rank = u1.0; kernel = u2.0; count = u3.0; each = u4.0; suited = u5.0; tail = u5.1 }

  is_used_lem : Used → used_ok w t ≡ true
  is_used_lem u = rw (u.rank, u.kernel, u.count, u.each, u.suited, u.tail)

  -- what an access in use is
  pub record Named (a : ℕ) : Type 0 where
    pub code : ltb (access_at w t a) access_end ≡ true
    pub region : ltb (region_at w t a) (regions_of w) ≡ true
    pub before : all_below a (λ b. not (eqb (region_at w t b) (region_at w t a))) ≡ true

  access_named : Used → (a : ℕ) → a < accesses_of w t → Named a
  access_named u a h =
      let e = all_at (access_ok w t) (accesses_of w t) a u.each h in
      let n1 = and-true (ltb (access_at w t a) access_end) _ e in
      let n2 = and-true (ltb (region_at w t a) (regions_of w)) _ n1.1 in
      record { code = n1.0; region = n2.0; before = n2.1 }

  task_ok_lem : Used → in_word (constant_of w t) ≡ true → task_fits (ranks_of w) (regions_of w) (task_of w t) ≡ true
  task_ok_lem u c =
      and_intro (open_fits (ranks_of w) (regions_of w) (task_of w t)) _
      (is_open (ranks_of w) (regions_of w) (task_of w t)
      (record {
        rank = u.rank;
        kernel = u.kernel;
        constant = c;
        count = rw (length_tabulate (λ a. access_of (access_at w t a)) (accesses_of w t)) u.count;
        accesses = every_tabulate (access_fits (regions_of w)) (λ a. access_of (access_at w t a)) (accesses_of w t) (λ a k. (access_named u a k).region);
        once = rw regions_same
            (distinct_tabulate (accesses_of w t) (region_at w t)
            (λ i j p k. not-true _ (all_at (λ b. not (eqb (region_at w t b) (region_at w t j))) j i (access_named u j (omega arith)).before p)));
      }))
      (rw reads_same u.suited)

  used_ok_lem : task_fits (ranks_of w) (regions_of w) (task_of w t) ≡ true → ((a : ℕ) → a < accesses_of w t → access_at w t a < access_end) →
      ((a : ℕ) → accesses_of w t ≤ a → a < 8 → access_at w t a ≡ 0) → Used
  used_ok_lem h code tail =
      let b = and-true (open_fits (ranks_of w) (regions_of w) (task_of w t)) _ h in
      let o = opens (ranks_of w) (regions_of w) (task_of w t) b.0 in
      let len = length_tabulate (λ a. access_of (access_at w t a)) (accesses_of w t) in
      let d : distinct (tabulate (accesses_of w t) (region_at w t)) ≡ true = rw regions_same at o.once in
      record {
        rank = o.rank;
        kernel = o.kernel;
        count = rw len at o.count;
        each = all_of (access_ok w t) (accesses_of w t)
            (λ a k.
            and_intro (ltb (access_at w t a) access_end) _ (lt-ltb _ _ (code a k))
            (and_intro (ltb (region_at w t a) (regions_of w)) _ (below o.accesses a k)
            (all_of (λ x. not (eqb (region_at w t x) (region_at w t a))) a
            (λ x m. rw (distinct_tabulate_at (accesses_of w t) (region_at w t) x a d m k)))));
        suited = rw reads_same at b.1;
        tail = all_of (λ a. ltb a (accesses_of w t) || eqb (access_at w t a) 0) 8 (λ a k. behind a k (ltb a (accesses_of w t)) refl);
      }
    where
      below : every (access_fits (regions_of w)) (task_of w t).accesses ≡ true → (a : ℕ) → a < accesses_of w t → ltb (region_at w t a) (regions_of w) ≡ true
      below e a k =
          let len = length_tabulate (λ a. access_of (access_at w t a)) (accesses_of w t) in
          rw (get_d_tabulate (λ a. access_of (access_at w t a)) (accesses_of w t) a (access_of 0) k)
          at (every_at (access_fits (regions_of w)) (task_of w t).accesses a (access_of 0) e (omega arith))

      behind : (a : ℕ) → a < 8 → (x : Bool) → ltb a (accesses_of w t) ≡ x → (x || eqb (access_at w t a) 0) ≡ true
      behind a k true e = refl
      behind a k false e = eq-eqb _ _ (tail a (ltb-false _ _ e) k)

  -- the words of the task that they say
  access_at_lem : (a : ℕ) → a < accesses_of w t → get_or (map access_word (task_of w t).accesses) a 0 ≡ access_word (access_of (access_at w t a))
  access_at_lem a h =
      ap (λ (l : List ℕ). get_or l a 0) (map_tabulate access_word (accesses_of w t) (λ a. access_of (access_at w t a)))
      ∙ get_d_tabulate (λ a. access_word (access_of (access_at w t a))) (accesses_of w t) a 0 h

  access_past : (a : ℕ) → accesses_of w t ≤ a → get_or (map access_word (task_of w t).accesses) a 0 ≡ 0
  access_past a h =
      ap (λ (l : List ℕ). get_or l a 0) (map_tabulate access_word (accesses_of w t) (λ a. access_of (access_at w t a)))
      ∙ get_or-eq_default (tabulate (accesses_of w t) (λ a. access_word (access_of (access_at w t a)))) 0
      (let len = length_tabulate (λ a. access_word (access_of (access_at w t a))) (accesses_of w t) in omega arith)

  used_word : Used → (j : ℕ) → j < task_words → task_word (task_of w t) j ≡ get_or w (rank_index t + j) 0
  used_word u zero h = let e : rank_index t ≡ rank_index t + 0 = omega arith in ap (at w) e
  used_word u (suc zero) h = let e : kernel_index t ≡ rank_index t + 1 = omega arith in ap (at w) e
  used_word u (suc (suc zero)) h = let e : constant_index t ≡ rank_index t + 2 = omega arith in ap (at w) e
  used_word u (suc (suc (suc zero))) h =
      let e : accesses_index t ≡ rank_index t + 3 = omega arith in
      length_tabulate (λ a. access_of (access_at w t a)) (accesses_of w t) ∙ ap (at w) e
  used_word u (suc (suc (suc (suc a)))) h =
      let e : access_index t a ≡ rank_index t + suc (suc (suc (suc a))) = omega arith in
      go (ltb a (accesses_of w t)) refl ∙ ap (at w) e
    where
      go : (x : Bool) → ltb a (accesses_of w t) ≡ x → get_or (map access_word (task_of w t).accesses) a 0 ≡ access_at w t a
      go true e =
          let k : a < accesses_of w t = ltb-true _ _ e in
          access_at_lem a k ∙ access_word_lem (access_at w t a) (ltb-true _ _ (access_named u a k).code)
      go false e =
          let z : eqb (access_at w t a) 0 ≡ true = or_right (ltb a (accesses_of w t)) _ (all_at (λ a. ltb a (accesses_of w t) || eqb (access_at w t a) 0) 8 a u.tail (omega arith)) e in
          access_past a (ltb-false _ _ e) ∙ sym (eqb-true _ _ z)

-- the tests of a plan
pub record Tests (w : List ℕ) : Type 0 where
  pub passes : leb (at w 0) max_passes ≡ true
  pub some_rank : leb 1 (ranks_of w) ≡ true
  pub ranks : leb (ranks_of w) max_ranks ≡ true
  pub some_region : leb 1 (regions_of w) ≡ true
  pub regions : leb (regions_of w) max_regions ≡ true
  pub some_task : leb 1 (tasks_of w) ≡ true
  pub tasks : leb (tasks_of w) max_tasks ≡ true
  pub values : all_below max_regions (value_ok w) ≡ true
  pub each : all_below max_tasks (task_ok w) ≡ true

pub tests : (w : List ℕ) → words_ok w ≡ true → Tests w
unfolding words_within
tests w h =
    let a = and-true (counts_ok w) _ h in
    let b = and-true (all_below max_regions (value_ok w)) (all_below max_tasks (task_ok w)) a.1 in
    let v1 = and-true (leb (at w 0) max_passes) _ a.0 in
    let v2 = and-true (leb 1 (ranks_of w)) _ v1.1 in
    let v3 = and-true (leb (ranks_of w) max_ranks) _ v2.1 in
    let v4 = and-true (leb 1 (regions_of w)) _ v3.1 in
    let v5 = and-true (leb (regions_of w) max_regions) _ v4.1 in
    let v6 = and-true (leb 1 (tasks_of w)) (leb (tasks_of w) max_tasks) v5.1 in
    record {
      passes = v1.0;
      some_rank = v2.0;
      ranks = v3.0;
      some_region = v4.0;
      regions = v5.0;
      some_task = v6.0;
      tasks = v6.1;
      values = b.0;
      each = b.1;
    }

is_ok : (w : List ℕ) → Tests w → words_ok w ≡ true
unfolding words_within
is_ok w t = rw (t.passes, t.some_rank, t.ranks, t.some_region, t.regions, t.some_task, t.tasks, t.values, t.each)

-- words in form
module _ (w : List ℕ) (W : Words w) (T : Tests w) where
  in_use : (t : ℕ) → t < at w 3 → Used w t
  in_use t h =
      let k : at w 3 ≤ max_tasks = leb-true _ _ T.tasks in
      used w t (rw (lt-ltb t (tasks_of w) h) at (all_at (task_ok w) max_tasks t T.each (omega arith)))

  not_in_use : (t j : ℕ) → t < max_tasks → at w 3 ≤ t → j < task_words → at w (rank_index t + j) ≡ 0
  not_in_use t j h k l =
      let e : unused_ok w t ≡ true = rw (le-ltb t (tasks_of w) k) at (all_at (task_ok w) max_tasks t T.each h) in
      eqb-true _ _ (all_at (λ j. eqb (at w (rank_index t + j)) 0) task_words j e l)

  plan_limits : Limits (plan_of w)
  unfolding plan_of
  plan_limits =
      record {
        passes = T.passes;
        some_rank = T.some_rank;
        ranks = T.ranks;
        some_region = T.some_region;
        regions = T.regions;
        starts = starts_every w (regions_of w) 0 (regions_of w) (omega arith) (λ x h. le-leb _ _ (W.fits (4 + x)));
        once = starts_once w 0 (regions_of w);
        count = rw (length_tabulate (task_of w) (tasks_of w)) T.tasks;
        tasks = every_tabulate (task_fits (ranks_of w) (regions_of w)) (task_of w) (tasks_of w) (λ t k. task_ok_lem w t (in_use t k) (le-leb _ _ (W.fits (constant_index t))));
      }

  task_part : (t j : ℕ) → t < max_tasks → j < task_words → task_word (task_at (tabulate (tasks_of w) (task_of w)) t) j ≡ at w (rank_index t + j)
  task_part t j h k = go (ltb t (tasks_of w)) refl
    where
      go : (x : Bool) → ltb t (tasks_of w) ≡ x → task_word (task_at (tabulate (tasks_of w) (task_of w)) t) j ≡ at w (rank_index t + j)
      go true e =
          let l : t < at w 3 = ltb-true _ _ e in
          ap (λ x. task_word x j) (get_d_tabulate (task_of w) (tasks_of w) t no_task l) ∙ used_word w t (in_use t l) j k
      go false e =
          let l : at w 3 ≤ t = ltb-false _ _ e in
          let len = length_tabulate (task_of w) (tasks_of w) in
          ap (λ x. task_word x j) (get_or-eq_default (tabulate (tasks_of w) (task_of w)) no_task (let m : length (tabulate (tasks_of w) (task_of w)) ≤ t = omega arith in m))
          ∙ none_word j ∙ sym (not_in_use t j h l k)

  start_part : (g : ℕ) → g < max_regions → start_at (starts_of w 0 (regions_of w)) g ≡ at w (4 + g)
  start_part g h = go (ltb g (regions_of w)) refl
    where
      go : (x : Bool) → ltb g (regions_of w) ≡ x → start_at (starts_of w 0 (regions_of w)) g ≡ at w (4 + g)
      go true e = let l : g < at w 2 = ltb-true _ _ e in starts_in w 0 (regions_of w) g (omega arith) (omega arith)
      go false e =
          let l : at w 2 ≤ g = ltb-false _ _ e in
          starts_out w 0 (regions_of w) g (λ y a b c. omega arith)
          ∙ sym (eqb-true _ _ (or_right (ltb g (regions_of w)) _ (all_at (value_ok w) max_regions g T.values h) e))

  word_part : (i : ℕ) → i < plan_words → word_at (plan_of w) i ≡ at w i
  unfolding plan_of
  word_part zero h = refl
  word_part (suc zero) h = refl
  word_part (suc (suc zero)) h = refl
  word_part (suc (suc (suc zero))) h = length_tabulate (task_of w) (tasks_of w)
  word_part (suc (suc (suc (suc i)))) h = go (ltb i max_regions) refl
    where
      go : (x : Bool) → ltb i max_regions ≡ x →
          cond x (start_at (starts_of w 0 (regions_of w)) i)
          (task_word (task_at (tabulate (tasks_of w) (task_of w)) ((i - max_regions) / task_words)) ((i - max_regions) % task_words)) ≡ at w (suc (suc (suc (suc i))))
      go true e = let q : 4 + i ≡ suc (suc (suc (suc i))) = omega arith in start_part i (ltb-true _ _ e) ∙ ap (at w) q
      go false e =
          let l : max_regions ≤ i = ltb-false _ _ e in
          let q : rank_index ((i - max_regions) / task_words) + (i - max_regions) % task_words ≡ suc (suc (suc (suc i))) = omega arith in
          task_part ((i - max_regions) / task_words) ((i - max_regions) % task_words) (omega arith) (omega arith) ∙ ap (at w) q

  words_same : words_of (plan_of w) ≡ w
  unfolding words_of
  words_same =
      tabulate_ext plan_words (word_at (plan_of w)) (at w) word_part
      ∙ subst (λ (n : ℕ). tabulate n (at w) ≡ w) W.size (tabulate_list w 0)

  some_said : leb 1 (length (plan_of w).tasks) ≡ true
  unfolding plan_of
  some_said = rw (length_tabulate (task_of w) (tasks_of w)) T.some_task

  pub is_canonical : canonical w ≡ true
  unfolding canonical
  is_canonical =
      and_intro (valid (plan_of w)) _ (is_valid (plan_of w) plan_limits)
      (and_intro (leb 1 (length (plan_of w).tasks)) _ some_said (rw words_same (alike_refl w)))

high_of : (w : List ℕ) (g : ℕ) → at w 2 ≤ g → (plan_of w).regions ≤ g
unfolding plan_of
high_of w g k = k

-- canonical words
module _ (w : List ℕ) (S : Said w) where
  L : Limits (plan_of w)
  L = limits (plan_of w) S.valids

  word_is : (i : ℕ) → i < plan_words → at w i ≡ word_at (plan_of w) i
  word_is i h = ap (λ (l : List ℕ). get_or l i 0) (sym S.words) ∙ word_at_lem (plan_of w) i h

  task_is : (t j i : ℕ) → t < max_tasks → j < task_words → i ≡ rank_index t + j → at w i ≡ task_word (task_at (plan_of w).tasks t) j
  task_is t j i h k e = ap (at w) e ∙ word_is (rank_index t + j) (omega arith) ∙ task_word_lem (plan_of w) t j k

  used_is : (t : ℕ) → t < at w 3 → task_at (plan_of w).tasks t ≡ task_of w t
  unfolding plan_of
  used_is t h = get_d_tabulate (task_of w) (tasks_of w) t no_task h

  none_is : (t : ℕ) → at w 3 ≤ t → task_at (plan_of w).tasks t ≡ no_task
  unfolding plan_of
  none_is t h =
      let len = length_tabulate (task_of w) (tasks_of w) in
      get_or-eq_default (tabulate (tasks_of w) (task_of w)) no_task (let m : length (tabulate (tasks_of w) (task_of w)) ≤ t = omega arith in m)

  tasks_few : at w 3 ≤ max_tasks
  unfolding plan_of
  tasks_few = let l : length (tabulate (tasks_of w) (task_of w)) ≤ max_tasks = leb-true _ _ L.count in omega (arith, length_tabulate (task_of w) (tasks_of w))

  task_fine : (t : ℕ) → t < at w 3 → task_fits (ranks_of w) (regions_of w) (task_of w t) ≡ true
  unfolding plan_of
  task_fine t h =
      let len = length_tabulate (task_of w) (tasks_of w) in
      rw (used_is t h) at (every_at (task_fits (ranks_of w) (regions_of w)) (plan_of w).tasks t no_task L.tasks (omega arith))

  access_is : (t a : ℕ) → t < at w 3 → a < 8 → access_at w t a ≡ get_or (map access_word (task_of w t).accesses) a 0
  access_is t a h k =
      let f = tasks_few in
      task_is t (suc (suc (suc (suc a)))) (access_index t a) (omega arith) (omega arith) (omega arith)
      ∙ ap (λ x. task_word x (suc (suc (suc (suc a))))) (used_is t h)

  accesses_few : (t : ℕ) → t < at w 3 → accesses_of w t ≤ 8
  accesses_few t h =
      let o = opens (ranks_of w) (regions_of w) (task_of w t) (and-true (open_fits (ranks_of w) (regions_of w) (task_of w t)) _ (task_fine t h)).0 in
      let m : length (task_of w t).accesses ≤ 8 = leb-true _ _ o.count in
      omega (arith, length_tabulate (λ a. access_of (access_at w t a)) (accesses_of w t))

  each_is : (t : ℕ) → t < max_tasks → (x : Bool) → ltb t (tasks_of w) ≡ x → cond x (used_ok w t) (unused_ok w t) ≡ true
  each_is t h true e =
      let l : t < at w 3 = ltb-true _ _ e in
      let f = accesses_few t l in
      is_used_lem w t (used_ok_lem w t (task_fine t l)
      (λ a k. let c = access_is t a l (omega arith) in let d = access_at_lem w t a k in let m = access_few (access_at w t a) in omega arith)
      (λ a k m. access_is t a l m ∙ access_past w t a k))
  each_is t h false e =
      let l : at w 3 ≤ t = ltb-false _ _ e in
      all_of (λ j. eqb (at w (rank_index t + j)) 0) task_words
      (λ j k. eq-eqb _ _ (task_is t j (rank_index t + j) h k refl ∙ ap (λ x. task_word x j) (none_is t l) ∙ none_word j))

  value_is : (g : ℕ) → g < max_regions → (x : Bool) → ltb g (regions_of w) ≡ x → (x || eqb (at w (4 + g)) 0) ≡ true
  value_is g h true e = refl
  value_is g h false e = eq-eqb _ _ (word_is (4 + g) (omega arith) ∙ start_word (plan_of w) g h ∙ past)
    where
      past : start_at (plan_of w).starts g ≡ 0
      past = start_none (plan_of w).regions g (plan_of w).starts L.starts (high (ltb-false _ _ e))
        where
          high : at w 2 ≤ g → (plan_of w).regions ≤ g
          high k = high_of w g k

  said_tests : Tests w
  unfolding plan_of
  said_tests =
      record {
        passes = L.passes;
        some_rank = L.some_rank;
        ranks = L.ranks;
        some_region = L.some_region;
        regions = L.regions;
        some_task = rw (length_tabulate (task_of w) (tasks_of w)) at S.some;
        tasks = le-leb _ _ tasks_few;
        values = all_of (value_ok w) max_regions (λ g h. value_is g h (ltb g (regions_of w)) refl);
        each = all_of (task_ok w) max_tasks (λ t h. each_is t h (ltb t (tasks_of w)) refl);
      }

pub canonical_ok : (w : List ℕ) → canonical w ≡ true → words_ok w ≡ true
canonical_ok w h = is_ok w (said_tests w (said w h))

pub ok_canonical : (w : List ℕ) → Words w → words_ok w ≡ true → canonical w ≡ true
ok_canonical w W h = is_canonical w W (tests w h)
