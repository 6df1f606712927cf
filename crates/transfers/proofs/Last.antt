-- What `last` holds after the writes of the tasks before t: the last of them that wrote each region
-- of the plan, or that none did. _none, _more and _done are a loop's: before its first turn, over a
-- turn, and after its last.
use Prim.Native.Nat.{ℕ, zero, suc, ◌+◌, ◌*◌, ◌≤◌, ◌<◌}
use mathlib.Core.Path.{◌≡◌, refl, sym, ◌∙◌, ap, subst}
use mathlib.Core.Bool.{Bool, true, false, cond, ◌&&◌, and-eq-true_iff}
use mathlib.Core.Logic.{⊎_elim}
use mathlib.Core.List.{List, []}
use mathlib.Core.Option.{Option, none, some}
use native.Mathlib.Decide.{dec_lt, ℕ_discrete}
use native.Mathlib.Numerals.{add-one}
use native.Mathlib.Omega.{arith}
use borrow.Author.Tests.{eqb-true, eqb-false, eq-eqb, lt-ltb, le-ltb}
use lib.Dec.{eqb, ltb}
use lib.ListN.{length, get_or, set, replicate, length-set, length-replicate, get_or-replicate, get_or-eq_default}
use lib.Seq.{get_or-set_same, get_or-set_other}
use Rattle.finite.specs.Lists.{mem}
use Rattle.finite.proofs.Tests.{true_or_false, not_both, ltb_next}
use Rattle.finite.proofs.Below.{any_at, any_from}
use Rattle.finite.proofs.Members.{mem_gather}
use Rattle.finite.proofs.Update.{length_set_if, set_ind, set_at}
use Rattle.finite.proofs.Replaced.{list_ext}
use Rattle.finite.proofs.Lists.{length_tabulate, get_d_tabulate}
use Rattle.body.specs.Transfers.{last_before}
use Rattle.body.proofs.Writers.{last_wrote, last_kept}
use Rattle.plan.specs.Limits.{max_regions, max_accesses}
use Rattle.plan.specs.Layout.{regions_of, tasks_of, rank_of, accesses_of, region_at, is_written, writes_of, body_of}
use Rattle.transfers.specs.Search.{row_of, writes_in, region_in, Ready, access_base, base_of, Apart, unwritten, no_writers, source_end, Sources, noted, noted_task, noted_tasks}
use Rattle.plan.proofs.Facts.{Formed}
use Rattle.transfers.proofs.Rows.{row_writes, row_region}

-- noted

pub noted_none : (row : List ℕ) (base : ℕ) (last : List ℕ) → last ≡ noted row base 0 last
unfolding noted
noted_none row base last = refl

pub noted_more : (row : List ℕ) (base a g : ℕ) (last xs ys : List ℕ) → xs ≡ noted row base a last → g ≡ region_in row a
    → ys ≡ cond (writes_in row a) (set xs g (base + 65536 * a)) xs → ys ≡ noted row base (a + 1) last
unfolding noted
noted_more row base a g last xs ys h e f = rw (add-one, f, h, e)

pub noted_done : (row : List ℕ) (base n a : ℕ) (last xs : List ℕ) → xs ≡ noted row base a last → n ≤ a → a ≤ n → xs ≡ noted row base n last
noted_done row base n a last xs h p q = let e : n ≡ a = omega arith in rw e h

pub length_noted : (row : List ℕ) (base n : ℕ) (last : List ℕ) → length (noted row base n last) ≡ length last
unfolding noted
length_noted row base zero last = refl
length_noted row base (suc a) last = length_set_if (writes_in row a) (noted row base a last) (region_in row a) (base + 65536 * a) ∙ length_noted row base a last

noted_below : (row : List ℕ) (base n m : ℕ) (last : List ℕ) → ((a : ℕ) → a < n → base + 65536 * a < m) → ((g : ℕ) → get_or last g 0 < m) → (g : ℕ) → get_or (noted row base n last) g 0 < m
unfolding noted
noted_below row base zero m last h f g = f g
noted_below row base (suc a) m last h f g = turn (writes_in row a) (noted_below row base a m last (λ b l. h b (omega arith)) f g)
  where
    turn : (b : Bool) → get_or (noted row base a last) g 0 < m → get_or (cond b (set (noted row base a last) (region_in row a) (base + 65536 * a)) (noted row base a last)) g 0 < m
    turn true e = set_ind (λ x. x < m) (noted row base a last) (region_in row a) g (base + 65536 * a) 0 (h a (omega arith)) e
    turn false e = e

-- a region that the accesses do not write
noted_kept : (row : List ℕ) (base n : ℕ) (last : List ℕ) (g : ℕ) → ((a : ℕ) → a < n → writes_in row a ≡ true → region_in row a ≡ g → ⊥)
    → get_or (noted row base n last) g 0 ≡ get_or last g 0
unfolding noted
noted_kept row base zero last g h = refl
noted_kept row base (suc a) last g h = turn (writes_in row a) refl ∙ noted_kept row base a last g (λ b l. h b (omega arith))
  where
    turn : (b : Bool) → writes_in row a ≡ b
        → get_or (cond b (set (noted row base a last) (region_in row a) (base + 65536 * a)) (noted row base a last)) g 0 ≡ get_or (noted row base a last) g 0
    turn true e = get_or-set_other (noted row base a last) (region_in row a) g (base + 65536 * a) 0 (λ z. h a (omega arith) e (sym z))
    turn false e = refl

-- the region of an access that writes, and that no other access has
noted_wrote : (row : List ℕ) (base n : ℕ) (last : List ℕ) (a : ℕ) → a < n → writes_in row a ≡ true → region_in row a < length last
    → ((b : ℕ) → b < n → region_in row b ≡ region_in row a → b ≡ a) → get_or (noted row base n last) (region_in row a) 0 ≡ base + 65536 * a
unfolding noted
noted_wrote row base zero last a l e m f = absurd (omega arith)
noted_wrote row base (suc k) last a l e m f =
    elim (ℕ_discrete k a) [
      | yes z ↦ here z
      | no z ↦ there (writes_in row k) z (noted_wrote row base k last a (omega arith) e m (λ b j. f b (omega arith)))
    ]
  where
    here : k ≡ a → get_or (noted row base (suc k) last) (region_in row a) 0 ≡ base + 65536 * a
    here z = rw (z, e) (get_or-set_same (noted row base a last) (region_in row a) (base + 65536 * a) 0 (omega (arith, length_noted row base a last)))

    there : (b : Bool) → (k ≡ a → ⊥) → get_or (noted row base k last) (region_in row a) 0 ≡ base + 65536 * a
        → get_or (cond b (set (noted row base k last) (region_in row k) (base + 65536 * k)) (noted row base k last)) (region_in row a) 0 ≡ base + 65536 * a
    there true z h = get_or-set_other (noted row base k last) (region_in row k) (region_in row a) (base + 65536 * k) 0 (λ y. z (f k (omega arith) (sym y))) ∙ h
    there false z h = h

-- what a task notes, of numbers that are known otherwise
pub noted_task_lem : (w : List ℕ) (table : List (List ℕ)) (t rank base n : ℕ) (last xs : List ℕ) → Ready w table t → rank ≡ rank_of w t → base ≡ access_base t rank
    → n ≡ accesses_of w t → xs ≡ noted (get_or table t []) base n last → xs ≡ noted_task w t last
noted_task_lem w table t rank base n last xs r q b e f = f ∙ rw (b, q, e, r.row)

-- the region of the next access, where no two accesses have one region
pub noted_own : (row : List ℕ) (base n a : ℕ) (last xs : List ℕ) → Apart row n → a < n → xs ≡ noted row base a last → get_or xs (region_in row a) 0 ≡ get_or last (region_in row a) 0
unfolding Apart
noted_own row base n a last xs h l e = rw e (noted_kept row base a last (region_in row a) (λ b k _ z. let q : b ≡ a = h b a (omega arith) l z in omega arith))

-- noted_tasks

pub noted_tasks_none : (w last : List ℕ) → last ≡ noted_tasks w 0 last
unfolding noted_tasks
noted_tasks_none w last = refl

pub noted_tasks_more : (w : List ℕ) (t : ℕ) (last xs ys : List ℕ) → xs ≡ noted_tasks w t last
    → ys ≡ noted_task w t xs → ys ≡ noted_tasks w (t + 1) last
unfolding noted_tasks
noted_tasks_more w t last xs ys h e = rw (add-one, e, h)

-- no_writers

pub sources_none : (n : ℕ) → Sources (no_writers n)
sources_none n = record { size = length_tabulate (λ g. cond (ltb g n) (unwritten g) 0) max_regions; each = below }
  where
    one : (b : Bool) (g : ℕ) → g < max_regions → cond b (unwritten g) 0 < source_end
    one true g l = omega arith
    one false g l = omega arith

    below : (g : ℕ) → get_or (no_writers n) g 0 < source_end
    below g =
        elim (dec_lt g max_regions) [
          | yes l ↦ rw (get_d_tabulate (λ g. cond (ltb g n) (unwritten g) 0) max_regions g 0 l) (one (ltb g n) g l)
          | no l ↦ (let e : get_or (no_writers n) g 0 ≡ 0 = get_or-eq_default (no_writers n) 0 (omega (arith, length_tabulate (λ g. cond (ltb g n) (unwritten g) 0) max_regions)) in omega arith)
        ]

pub sources_named : (n : ℕ) (xs : List ℕ) → xs ≡ no_writers n → Sources xs
sources_named n xs e = rw e (sources_none n)

none_at : (n g : ℕ) → g < n → n ≤ max_regions → get_or (no_writers n) g 0 ≡ unwritten g
none_at n g l m = get_d_tabulate (λ g. cond (ltb g n) (unwritten g) 0) max_regions g 0 (omega arith) ∙ rw (lt-ltb g n l)

pub no_writers_none : (xs : List ℕ) → xs ≡ replicate max_regions 0 → xs ≡ no_writers 0
no_writers_none xs e =
    list_ext xs (no_writers 0) (ap length e ∙ (length-replicate {A = ℕ} max_regions 0 ∙ sym (sources_none 0).size))
    (λ g l. let b : g < max_regions = omega (arith, ap length e, length-replicate {A = ℕ} max_regions 0) in
    ap (λ (ys : List ℕ). get_or ys g 0) e
    ∙ (get_or-replicate {A = ℕ} max_regions g 0 0 b ∙ sym (get_d_tabulate (λ g. cond (ltb g 0) (unwritten g) 0) max_regions g 0 b ∙ rw (le-ltb g 0 (omega arith)))))

pub no_writers_more : (xs : List ℕ) (n g : ℕ) → xs ≡ no_writers g → g < n → n ≤ max_regions → set xs g (unwritten g) ≡ no_writers (g + 1)
no_writers_more xs n g e l most =
    list_ext (set xs g (unwritten g)) (no_writers (g + 1)) (size ∙ sym (sources_none (g + 1)).size) (λ k m. at k (omega (arith, size)))
  where
    long : length xs ≡ max_regions
    long = ap length e ∙ (sources_none g).size

    size : length (set xs g (unwritten g)) ≡ max_regions
    size = length-set xs g (unwritten g) ∙ long

    one : (k : ℕ) (b : Bool) → eqb k g ≡ b → cond b (unwritten g) (cond (ltb k g) (unwritten k) 0) ≡ cond (ltb k (g + 1)) (unwritten k) 0
    one k true z = let y : k ≡ g = eqb-true k g z in rw (y, lt-ltb g (g + 1) (omega arith))
    one k false z = ap (λ (b : Bool). cond b (unwritten k) 0) (sym (ltb_next k g (eqb-false k g z)))

    at : (k : ℕ) → k < max_regions → get_or (set xs g (unwritten g)) k 0 ≡ get_or (no_writers (g + 1)) k 0
    at k m =
        set_at xs g k (unwritten g) 0 (omega (arith, long))
        ∙ (ap (λ (ys : List ℕ). cond (eqb k g) (unwritten g) (get_or ys k 0)) e
        ∙ (ap (λ (x : ℕ). cond (eqb k g) (unwritten g) x) (get_d_tabulate (λ k. cond (ltb k g) (unwritten k) 0) max_regions k 0 m)
        ∙ (one k (eqb k g) refl ∙ sym (get_d_tabulate (λ k. cond (ltb k (g + 1)) (unwritten k) 0) max_regions k 0 m))))

module _ (w : List ℕ) where
  -- s names the access of task i that writes region g
  pub record Writer (g i s : ℕ) : Type 0 where
    pub access : ℕ
    pub task : i < tasks_of w
    pub below : access < accesses_of w i
    pub writes : is_written w i access ≡ true
    pub region : region_at w i access ≡ g
    pub same : s ≡ base_of w i + 65536 * access

  -- s names the writer of region g, or that it has none
  abbrev pub Names : ℕ → Option ℕ → ℕ → Type 0
  Names g none s = s ≡ unwritten g
  Names g (some i) s = Writer g i s

  -- the writers that the tasks before t leave
  abbrev pub last_at : ℕ → List ℕ
  last_at t = noted_tasks w t (no_writers (regions_of w))

module _ (w : List ℕ) (F : Formed w) where
  length_noted_tasks : (t : ℕ) (last : List ℕ) → length (noted_tasks w t last) ≡ length last
  unfolding noted_tasks
  length_noted_tasks zero last = refl
  length_noted_tasks (suc t) last = length_noted (row_of w t) (base_of w t) (accesses_of w t) (noted_tasks w t last) ∙ length_noted_tasks t last

  noted_tasks_below : (t : ℕ) (last : List ℕ) → t ≤ tasks_of w → ((g : ℕ) → get_or last g 0 < source_end) → (g : ℕ) → get_or (noted_tasks w t last) g 0 < source_end
  unfolding noted_tasks
  noted_tasks_below zero last l f g = f g
  noted_tasks_below (suc t) last l f g =
      noted_below (row_of w t) (base_of w t) (accesses_of w t) source_end (noted_tasks w t last)
      (λ a m. omega (arith, F.tasks_most, (F.used t l).rank_most, (F.used t l).accesses_most)) (noted_tasks_below t last (omega arith) f) g

  pub sources_after : (t : ℕ) (last : List ℕ) → t ≤ tasks_of w → Sources last → Sources (noted_tasks w t last)
  sources_after t last l s = record { size = length_noted_tasks t last ∙ s.size; each = noted_tasks_below t last l s.each }

  -- the last of the accesses that write g, of which there is one
  access_wrote : (t a : ℕ) (last : List ℕ) → t < tasks_of w → a < accesses_of w t → is_written w t a ≡ true → region_at w t a < length last
      → get_or (noted_task w t last) (region_at w t a) 0 ≡ base_of w t + 65536 * a
  access_wrote t a last l k e m =
      let u = F.used t l in
      let within : (b : ℕ) → b < accesses_of w t → b < max_accesses = λ b j. omega (arith, u.accesses_most) in
      let z = row_region w t a (within a k) in
      subst (λ (g : ℕ). get_or (noted_task w t last) g 0 ≡ base_of w t + 65536 * a) z
      (noted_wrote (row_of w t) (base_of w t) (accesses_of w t) last a k (row_writes w t a (within a k) ∙ e) (subst (λ (g : ℕ). g < length last) (sym z) m)
      (λ b j y. u.apart b a j k (sym (row_region w t b (within b j)) ∙ (y ∙ z))))

  -- one task on: it writes g, or leaves it
  task_wrote : (t g : ℕ) (last : List ℕ) → t < tasks_of w → g < length last → mem g (writes_of w t) ≡ true
      → Writer w g t (get_or (noted_task w t last) g 0)
  task_wrote t g last l m h =
      let r = any_from (λ a. is_written w t a && eqb g (region_at w t a)) (accesses_of w t) (sym (mem_gather (accesses_of w t) (is_written w t) (region_at w t) g) ∙ h) in
      let b = (and-eq-true_iff (is_written w t r.0) (eqb g (region_at w t r.0))).0 r.2 in
      at r.0 r.1 b.0 (sym (eqb-true g (region_at w t r.0) b.1))
    where
      at : (a : ℕ) → a < accesses_of w t → is_written w t a ≡ true → region_at w t a ≡ g → Writer w g t (get_or (noted_task w t last) g 0)
      at a k e z =
          record {
            access = a;
            task = l;
            below = k;
            writes = e;
            region = z;
            same =
                subst (λ (x : ℕ). get_or (noted_task w t last) x 0 ≡ base_of w t + 65536 * a) z
                (access_wrote t a last l k e (subst (λ (x : ℕ). x < length last) (sym z) m));
          }

  task_kept : (t g : ℕ) (last : List ℕ) → t < tasks_of w → mem g (writes_of w t) ≡ false
      → get_or (noted_task w t last) g 0 ≡ get_or last g 0
  task_kept t g last l h =
      noted_kept (row_of w t) (base_of w t) (accesses_of w t) last g
      (λ a k e z. let j : a < max_accesses = omega (arith, (F.used t l).accesses_most) in
      not_both (mem_gather (accesses_of w t) (is_written w t) (region_at w t) g
      ∙ any_at (λ a. is_written w t a && eqb g (region_at w t a)) (accesses_of w t) a k
      ((and-eq-true_iff (is_written w t a) (eqb g (region_at w t a))).1 (sym (row_writes w t a j) ∙ e, eq-eqb g (region_at w t a) (sym z ∙ row_region w t a j)))) h)

  pub last_named : (g : ℕ) → g < regions_of w → (t : ℕ) → t ≤ tasks_of w → Names w g (last_before (body_of w) t g) (get_or (last_at w t) g 0)
  unfolding noted_tasks last_before
  last_named g m zero l = none_at (regions_of w) g m F.regions_most
  last_named g m (suc t) l =
      ⊎_elim
      (λ e. rw (last_wrote (body_of w) t g e) (task_wrote t g (last_at w t) l (omega (arith, (sources_after t (no_writers (regions_of w)) (omega arith) (sources_none (regions_of w))).size, F.regions_most)) e))
      (λ e. rw (last_kept (body_of w) t g e, task_kept t g (last_at w t) l e) (last_named g m t (omega arith)))
      (true_or_false (mem g (writes_of w t)))
