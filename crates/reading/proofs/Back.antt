-- The words of a plan that keeps the limits say that plan, and are in form.
use Prim.Native.Nat.{ℕ, zero, suc, ◌+◌, ◌-◌, ◌*◌, ◌/◌, ◌%◌, ◌≤◌, ◌<◌}
use mathlib.Core.Path.{◌≡◌, refl, sym, ap, ◌∙◌}
use mathlib.Core.Bool.{Bool, true, false}
use mathlib.Core.List.{List, map}
use native.Mathlib.Omega.{arith}
use borrow.Author.Tests.{leb-true, ltb-true, ltb-false, le-leb, lt-ltb, le-ltb}
use lib.Dec.{leb, ltb}
use lib.ListN.{length, get_or, get_or-map}
use Rattle.text.specs.declared.Mode.{Mode}
use Rattle.finite.specs.Lists.{tabulate}
use Rattle.finite.proofs.Lists.{get_d_tabulate}
use Rattle.finite.proofs.Tabulate.{tabulate_ext, tabulate_list}
use Rattle.finite.proofs.Tests.{and_intro, and-true}
use Rattle.plan.specs.Layout.{plan_words, rank_index, kernel_index, constant_index, accesses_index, access_index, task_words}
use Rattle.plan.specs.Limits.{max_regions, max_tasks}
use Rattle.reading.specs.Plan.{Access, Plan, Start, Task, access_of, access_word, mode_of, mode_word, no_task, plan_of, start_at, starts_of, task_at, task_of, task_word, word_at, words_of}
use Rattle.reading.specs.Valid.{access_fits, every, open_fits, task_fits, valid}
use Rattle.reading.proofs.Canonical.{canonical}
use Rattle.reading.proofs.Limits.{Limits, Opens, is_valid, opens}
use Rattle.reading.proofs.Lists.{alike_refl, every_at}
use Rattle.reading.proofs.Starts.{start_fits_lem, start_none, starts_every, starts_in, starts_once, starts_out}

abbrev pub no_access : Access
no_access = record { mode = Mode.In; region = 0 }

-- an access by its word
pub access_split : (m : Mode) (r : ℕ) → r < max_regions → ((r + 128 * mode_word m) / 128 ≡ mode_word m) × ((r + 128 * mode_word m) % 128 ≡ r)
access_split Mode.In r h = (omega arith, omega arith)
access_split Mode.Out r h = (omega arith, omega arith)
access_split Mode.Inout r h = (omega arith, omega arith)

mode_back : (m : Mode) → mode_of (mode_word m) ≡ m
mode_back Mode.In = refl
mode_back Mode.Out = refl
mode_back Mode.Inout = refl

pub access_back : (a : Access) → a.region < max_regions → access_of (access_word a) ≡ a
access_back a h = let s = access_split a.mode a.region h in rw (s.0, s.1, mode_back a.mode)

accesses_back : (n : ℕ) (l : List Access) → n ≤ max_regions → every (access_fits n) l ≡ true → (a : ℕ) → a < length l → access_of (get_or (map access_word l) a 0) ≡ get_or l a no_access
accesses_back n l h k a m =
    rw (get_or-map access_word l a no_access)
    (access_back (get_or l a no_access) (let b : (get_or l a no_access).region < n = ltb-true _ _ (every_at (access_fits n) l a no_access k m) in omega arith))

task_same : (a b c a' b' c' : ℕ) (l l' : List Access) → a ≡ a' → b ≡ b' → c ≡ c' → l ≡ l' →
    ◌≡◌ {A = Task} (record { rank = a; kernel = b; constant = c; accesses = l }) (record { rank = a'; kernel = b'; constant = c'; accesses = l' })
task_same a b c a' b' c' l l' p q r s = rw (p, q, r, s)

-- word j of task t
pub task_word_lem : (P : Plan) (t j : ℕ) → j < task_words → word_at P (rank_index t + j) ≡ task_word (task_at P.tasks t) j
task_word_lem P t j h =
    let e : rank_index t + j ≡ suc (suc (suc (suc (max_regions + task_words * t + j)))) = omega arith in
    let q : (max_regions + task_words * t + j - max_regions) / task_words ≡ t = omega arith in
    let r : (max_regions + task_words * t + j - max_regions) % task_words ≡ j = omega arith in
    rw (e, le-ltb (max_regions + task_words * t + j) max_regions (omega arith), q, r)

pub start_word : (P : Plan) (g : ℕ) → g < max_regions → word_at P (4 + g) ≡ start_at P.starts g
start_word P g h =
    let e : 4 + g ≡ suc (suc (suc (suc g))) = omega arith in
    rw (e, lt-ltb g max_regions h)

pub word_at_lem : (P : Plan) (i : ℕ) → i < plan_words → get_or (words_of P) i 0 ≡ word_at P i
unfolding words_of
word_at_lem P i h = get_d_tabulate (word_at P) plan_words i 0 h

-- plans that differ in their `start` records alone, and start at the same values, have the same words
pub words_same : (P Q : Plan) → P.passes ≡ Q.passes → P.ranks ≡ Q.ranks → P.regions ≡ Q.regions → P.tasks ≡ Q.tasks →
    ((g : ℕ) → start_at P.starts g ≡ start_at Q.starts g) → words_of P ≡ words_of Q
unfolding words_of
words_same P Q p q n t s = tabulate_ext plan_words (word_at P) (word_at Q) (λ i h. same i)
  where
    same : (i : ℕ) → word_at P i ≡ word_at Q i
    same zero = p
    same (suc zero) = q
    same (suc (suc zero)) = n
    same (suc (suc (suc zero))) = ap length t
    same (suc (suc (suc (suc i)))) = rw (s i, t)

module _ (P : Plan) (L : Limits P) where
  abbrev words : List ℕ
  words = words_of P

  pub few : length P.tasks ≤ max_tasks
  few = leb-true _ _ L.count

  pub low : P.regions ≤ max_regions
  low = leb-true _ _ L.regions

  pub task_at_lem : (t j i : ℕ) → t < max_tasks → j < task_words → i ≡ rank_index t + j → get_or words i 0 ≡ task_word (task_at P.tasks t) j
  task_at_lem t j i h k e = ap (λ (x : ℕ). get_or words x 0) e ∙ word_at_lem P (rank_index t + j) (omega arith) ∙ task_word_lem P t j k

  pub opens_at : (t : ℕ) → t < length P.tasks → Opens P.ranks P.regions (task_at P.tasks t)
  opens_at t h = opens _ _ _ (and-true (open_fits P.ranks P.regions (task_at P.tasks t)) _ (every_at (task_fits P.ranks P.regions) P.tasks t no_task L.tasks h)).0

  pub list_back : (t : ℕ) → t < length P.tasks →
      tabulate (get_or words (accesses_index t) 0) (λ a. access_of (get_or words (access_index t a) 0)) ≡ (task_at P.tasks t).accesses
  list_back t h =
      let l = (task_at P.tasks t).accesses in
      let o = opens_at t h in
      let f = few in
      let m : length (task_at P.tasks t).accesses ≤ 8 = leb-true _ _ o.count in
      let c : get_or words (accesses_index t) 0 ≡ length (task_at P.tasks t).accesses = task_at_lem t 3 (accesses_index t) (omega arith) (omega arith) (omega arith) in
      rw c
      (tabulate_ext (length (task_at P.tasks t).accesses) (λ a. access_of (get_or words (access_index t a) 0)) (λ a. get_or (task_at P.tasks t).accesses a no_access)
      (λ a k. ap access_of (task_at_lem t (suc (suc (suc (suc a)))) (access_index t a) (omega arith) (omega arith) (omega arith))
      ∙ accesses_back P.regions (task_at P.tasks t).accesses low o.accesses a (omega arith))
      ∙ tabulate_list (task_at P.tasks t).accesses no_access)

  task_back : (t : ℕ) → t < length P.tasks → task_of words t ≡ task_at P.tasks t
  task_back t h =
      let f = few in
      task_same _ _ _ _ _ _ _ _
      (task_at_lem t 0 (rank_index t) (omega arith) (omega arith) (omega arith))
      (task_at_lem t 1 (kernel_index t) (omega arith) (omega arith) (omega arith))
      (task_at_lem t 2 (constant_index t) (omega arith) (omega arith) (omega arith))
      (list_back t h)

  tasks_back : tabulate (get_or words 3 0) (task_of words) ≡ P.tasks
  tasks_back =
      let c : get_or words 3 0 ≡ length P.tasks = word_at_lem P 3 (omega arith) in
      rw c
      (tabulate_ext (length P.tasks) (task_of words) (λ i. get_or P.tasks i no_task) task_back
      ∙ tabulate_list P.tasks no_task)

  abbrev pub again : Plan
  again =
      record {
        passes = P.passes;
        ranks = P.ranks;
        regions = P.regions;
        starts = starts_of words 0 P.regions;
        tasks = P.tasks;
      }

  plan_same : (a b c a' b' c' : ℕ) (l l' : List Start) (k k' : List Task) → a ≡ a' → b ≡ b' → c ≡ c' → l ≡ l' → k ≡ k' →
      ◌≡◌ {A = Plan} (record { passes = a; ranks = b; regions = c; starts = l; tasks = k }) (record { passes = a'; ranks = b'; regions = c'; starts = l'; tasks = k' })
  plan_same a b c a' b' c' l l' k k' p q r s t = rw (p, q, r, s, t)

  -- the plan that they say: its `start` records in their order by region, none of value 0
  pub plan_back : plan_of words ≡ again
  unfolding plan_of
  plan_back =
      plan_same _ _ _ _ _ _ _ _ _ _
      (word_at_lem P 0 (omega arith))
      (word_at_lem P 1 (omega arith))
      (word_at_lem P 2 (omega arith))
      (ap (starts_of words 0) (word_at_lem P 2 (omega arith)))
      tasks_back

  pub start_value : (g : ℕ) → g < max_regions → get_or words (4 + g) 0 ≡ start_at P.starts g
  start_value g h = word_at_lem P (4 + g) (omega arith) ∙ start_word P g h

  pub start_same : (g : ℕ) → start_at (starts_of words 0 P.regions) g ≡ start_at P.starts g
  start_same g = go (ltb g P.regions) refl
    where
      go : (t : Bool) → ltb g P.regions ≡ t → start_at (starts_of words 0 P.regions) g ≡ start_at P.starts g
      go true e =
          let h : g < P.regions = ltb-true _ _ e in
          let k = low in
          starts_in words 0 P.regions g (omega arith) (omega arith) ∙ start_value g (omega arith)
      go false e =
          let h : P.regions ≤ g = ltb-false _ _ e in
          starts_out words 0 P.regions g (λ y a b c. omega arith) ∙ sym (start_none P.regions g P.starts L.starts h)

  again_limits : Limits again
  again_limits =
      record {
        passes = L.passes;
        some_rank = L.some_rank;
        ranks = L.ranks;
        some_region = L.some_region;
        regions = L.regions;
        starts = starts_every words P.regions 0 P.regions (omega arith)
            (λ x h. let k = low in rw (start_value x (omega arith)) (start_fits_lem P.regions x P.starts L.starts));
        once = starts_once words 0 P.regions;
        count = L.count;
        tasks = L.tasks;
      }

  words_back : words_of (plan_of words) ≡ words
  words_back = ap words_of plan_back ∙ words_same again P refl refl refl refl start_same

  pub is_canonical : 1 ≤ length P.tasks → canonical words ≡ true
  unfolding canonical
  is_canonical s =
      and_intro (valid (plan_of words)) _ (rw plan_back (is_valid again again_limits))
      (and_intro (leb 1 (length (plan_of words).tasks)) _ (rw plan_back (le-leb _ _ s))
      (rw words_back (alike_refl words)))
