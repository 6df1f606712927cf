-- How many edges there can be: each item's own, one for each send and receive by its slot, and for each region that an item touches one
-- to it from the last writer before it, and one from it, where it only reads, to the next writer after it.
use Prim.Native.Nat.{ℕ, ◌+◌, ◌-◌, ◌*◌, ◌≤◌, ◌<◌}
use mathlib.Core.Path.{◌≡◌, refl, sym, ◌∙◌, ap, subst}
use mathlib.Core.Bool.{Bool, true, false, cond, not, ◌&&◌, ◌||◌, or-true}
use mathlib.Core.Logic.{◌⊎◌, inl, inr, ⊎_elim}
use native.Mathlib.Decide.{dec_lt}
use native.Mathlib.Omega.{arith}
use borrow.Author.Tests.{eqb-true, eqb-false, eq-eqb, leb-true, le-leb, lt-ltb, le-ltb, not-true}
use lib.Dec.{eqb, leb}
use lib.ListN.{length}
use Rattle.finite.specs.Below.{count_below, sum_below}
use Rattle.finite.specs.Lists.{mem}
use Rattle.finite.proofs.Tests.{and-true, not_both, or_cases}
use Rattle.finite.proofs.Below.{any_at, count_ext, count_sum, sum_const, sum_ext, sum_le}
use Rattle.finite.proofs.Lists.{length_flat_map_range, length_gather}
use Rattle.finite.proofs.Sums.{count_any, count_apart, count_disjoint, count_not, count_once, count_or, count_parts, sum_add, sum_cond, sum_swap}
use Rattle.body.specs.Body.{Body, Fits}
use Rattle.body.specs.Items.{Item, task, send, receive, kind_of, writer, item_count, item_at}
use Rattle.body.proofs.ItemList.{tasks_listed}
use Rattle.body.proofs.ItemCount.{items_counted}
use Rattle.body.proofs.ItemOrder.{listed_once}
use Rattle.edges.specs.Touch.{touch, touch_on}
use Rattle.edges.specs.Tests.{written, written_between, crossed, distance, kind_at, rank_at, paired, copy_edge, edge_test}
use Rattle.edges.specs.EdgeList.{edges_from, edge_list, Small, max_edges}

-- writers between

module _ (n : ℕ) (T : ℕ → ℕ → ℕ) (g : ℕ) where
  written_at : (lo k c : ℕ) → lo ≤ c → c < lo + k → T c g ≡ 2 → written n T lo k g ≡ true
  unfolding written
  written_at lo k c h l w =
      let e : lo + (c - lo) ≡ c = omega arith in
      any_at (λ j. eqb (T (lo + j) g) 2) k (c - lo) (omega arith) (rw e (eq-eqb (T c g) 2 w))

  between_same : (a b c : ℕ) → a < c → c < b → T c g ≡ 2 → written_between n T a b g ≡ true
  unfolding written_between
  between_same a b c h l w = rw (lt-ltb a b (omega arith)) (written_at (a + 1) (b - (a + 1)) c (omega arith) (omega arith) w)

  between_later : (a b c : ℕ) → b ≤ a → a < c → c < n → T c g ≡ 2 → written_between n T a b g ≡ true
  unfolding written_between
  between_later a b c m h l w = rw (le-ltb a b m, written_at (a + 1) (n - (a + 1)) c (omega arith) (omega arith) w)

  between_next : (a b c : ℕ) → b ≤ a → c < b → T c g ≡ 2 → written_between n T a b g ≡ true
  unfolding written_between
  between_next a b c m l w = rw (le-ltb a b m, written_at 0 b c (omega arith) (omega arith) w) (or-true (written n T (a + 1) (n - (a + 1)) g))

  -- of two writers, one stands between the other and b
  last_once : (a c b : ℕ) → a < c → c < n → T a g ≡ 2 → T c g ≡ 2 → written_between n T a b g ≡ false → written_between n T c b g ≡ false → ⊥
  last_once a c b l m u w e f =
      elim (dec_lt a b) [
        | yes h ↦ elim (dec_lt c b) [
          | yes k ↦ not_both (between_same a b c l k w) e
          | no k ↦ not_both (between_next c b a (omega arith) h u) f
        ]
        | no h ↦ not_both (between_later a b c (omega arith) l m w) e
      ]

  -- and between a and the other
  next_once : (a b c : ℕ) → b < c → c < n → T b g ≡ 2 → T c g ≡ 2 → written_between n T a b g ≡ false → written_between n T a c g ≡ false → ⊥
  next_once a b c l m u w e f =
      elim (dec_lt a b) [
        | yes h ↦ not_both (between_same a c b h l u) f
        | no h ↦ elim (dec_lt a c) [
          | yes k ↦ not_both (between_later a b c (omega arith) k m w) e
          | no k ↦ not_both (between_next a c b (omega arith) l u) f
        ]
      ]

-- touch

cond_most : (b : Bool) (x y m : ℕ) → x ≤ m → y ≤ m → cond b x y ≤ m
cond_most true x y m h k = h
cond_most false x y m h k = k

-- the one region that a send or receive touches, and those of a task
touched_once : (h n : ℕ) → count_below 128 (λ g. leb 1 (cond (eqb g h) n 0)) ≤ 1
touched_once h n = count_once 128 (λ g. leb 1 (cond (eqb g h) n 0)) true (λ g _ _. refl) (λ g k l _ x y. omega (arith, same g (eqb g h) refl x, same k (eqb k h) refl y))
  where
    same : (g : ℕ) (b : Bool) → eqb g h ≡ b → leb 1 (cond b n 0) ≡ true → g ≡ h
    same g true e t = eqb-true g h e
    same g false e t = absurd (not_both t refl)

touched_either : (b c : Bool) → leb 1 (cond b 2 (cond c 1 0)) ≡ (b || c)
touched_either true c = refl
touched_either false true = refl
touched_either false false = refl

task_is : (x : Item) → eqb (kind_of x) 0 ≡ true → x ≡ task (writer x)
task_is (task i) h = refl
task_is (send i g q) h = absurd (not_both h refl)
task_is (receive i g q) h = absurd (not_both h refl)

module _ (B : Body) where
  touch_most : (x : Item) (g : ℕ) → touch B x g ≤ 2
  unfolding touch
  touch_most (task i) g = cond_most (mem g (B.writes i)) 2 _ 2 (omega arith) (cond_most (mem g (B.reads i)) 1 0 2 (omega arith) (omega arith))
  touch_most (send i h q) g = cond_most (eqb g h) 1 0 2 (omega arith) (omega arith)
  touch_most (receive i h q) g = cond_most (eqb g h) 2 0 2 (omega arith) (omega arith)

  on_most : (q b g : ℕ) → touch_on B q b g ≤ 2
  unfolding touch_on
  on_most q b g = cond_most (eqb (rank_at B b) q) _ 0 2 (touch_most (item_at B b) g) (omega arith)

  on_own : (a g : ℕ) → touch_on B (rank_at B a) a g ≡ touch B (item_at B a) g
  unfolding touch_on
  on_own a g = rw (eq-eqb (rank_at B a) (rank_at B a) refl)

  -- an item touches copies on its rank alone
  on_rank : (q b g : ℕ) → 1 ≤ touch_on B q b g → rank_at B b ≡ q
  unfolding touch_on
  on_rank q b g h = go (eqb (rank_at B b) q) refl h
    where
      go : (t : Bool) → eqb (rank_at B b) q ≡ t → 1 ≤ cond t (touch B (item_at B b) g) 0 → rank_at B b ≡ q
      go true e h = eqb-true (rank_at B b) q e
      go false e h = absurd (omega arith)

  touched_most : Small B → (x : Item) → ((i : ℕ) → x ≡ task i → i < B.tasks) → count_below 128 (λ g. leb 1 (touch B x g)) ≤ cond (eqb (kind_of x) 0) 8 1
  unfolding touch
  touched_most S (task i) h =
      omega (
        arith,
        count_ext 128 (λ g. leb 1 (touch B (task i) g)) (λ g. mem g (B.writes i) || mem g (B.reads i)) (λ g _. touched_either (mem g (B.writes i)) (mem g (B.reads i))),
        S.accesses i (h i refl),
      )
  touched_most S (send i r q) h = touched_once r 1
  touched_most S (receive i r q) h = touched_once r 2

  abbrev touches : ℕ → ℕ → Bool
  touches a g = leb 1 (touch B (item_at B a) g)

  -- the regions that the items touch, in all
  abbrev touch_count : ℕ
  touch_count = sum_below (item_count B) (λ a. count_below 128 (touches a))

  -- the items that are tasks
  abbrev task_count : ℕ
  task_count = count_below (item_count B) (λ a. eqb (kind_at B a) 0)

  tasks_bounded : Fits B → task_count ≤ B.tasks
  tasks_bounded F =
      count_apart (item_count B) B.tasks (λ a. eqb (kind_at B a) 0) (λ a. writer (item_at B a))
      (λ a l h. (tasks_listed B (writer (item_at B a))).0 (a, l, task_is (item_at B a) h))
      (λ a b l m h k e.
      let s : a ≡ b = listed_once B F a b (omega arith) m (task_is (item_at B a) h ∙ (ap task e ∙ sym (task_is (item_at B b) k))) in
      omega arith)

  touches_bounded : Small B → touch_count ≤ item_count B + 7 * task_count
  touches_bounded S =
      omega (
        arith,
        sum_le (item_count B) (λ a. count_below 128 (touches a)) (λ a. cond (eqb (kind_at B a) 0) 8 1) (λ a l. touched_most S (item_at B a) (λ i e. (tasks_listed B i).0 (a, l, e))),
        sum_cond (item_count B) (λ a. eqb (kind_at B a) 0) 8 1,
        count_not (item_count B) (λ a. eqb (kind_at B a) 0),
      )

  -- edges by copies

  abbrev conflicts : ℕ → ℕ → ℕ → Bool
  conflicts a b g = crossed (item_count B) (touch_on B (rank_at B a)) a b g

  -- from a writer, and from an item that only reads
  abbrev from_writer : ℕ → ℕ → ℕ → Bool
  from_writer a b g = conflicts a b g && eqb (touch B (item_at B a) g) 2

  abbrev from_reader : ℕ → ℕ → ℕ → Bool
  from_reader a b g = conflicts a b g && not (eqb (touch B (item_at B a) g) 2)

  conflicts_is : (a b g : ℕ) → conflicts a b g ≡ true →
      (3 ≤ touch B (item_at B a) g + touch_on B (rank_at B a) b g) × (written_between (item_count B) (touch_on B (rank_at B a)) a b g ≡ false)
  unfolding crossed
  conflicts_is a b g h =
      let T = touch_on B (rank_at B a) in
      let x = and-true (leb 3 (T a g + T b g)) (not (written_between (item_count B) T a b g)) h in
      (omega (arith, on_own a g, leb-true 3 (T a g + T b g) x.0), not-true _ x.1)

  -- b touches the region, a is its last writer before b
  writer_is : (a b g : ℕ) → from_writer a b g ≡ true →
      (touches b g ≡ true) × (touch_on B (rank_at B b) a g ≡ 2) × (written_between (item_count B) (touch_on B (rank_at B b)) a b g ≡ false)
  writer_is a b g h =
      let x = and-true (conflicts a b g) (eqb (touch B (item_at B a) g) 2) h in
      let c = conflicts_is a b g x.0 in
      let w : touch B (item_at B a) g ≡ 2 = eqb-true (touch B (item_at B a) g) 2 x.1 in
      let l : 1 ≤ touch_on B (rank_at B a) b g = omega (arith, c.0) in
      let r : rank_at B a ≡ rank_at B b = sym (on_rank (rank_at B a) b g l) in (
        le-leb 1 (touch B (item_at B b) g) (omega (arith, on_own b g, subst (λ (q : ℕ). 1 ≤ touch_on B q b g) r l)),
        subst (λ (q : ℕ). touch_on B q a g ≡ 2) r (on_own a g ∙ w),
        subst (λ (q : ℕ). written_between (item_count B) (touch_on B q) a b g ≡ false) r c.1,
      )

  -- a touches the region, b is its next writer after a
  reader_is : (a b g : ℕ) → from_reader a b g ≡ true →
      (touches a g ≡ true) × (touch_on B (rank_at B a) b g ≡ 2) × (written_between (item_count B) (touch_on B (rank_at B a)) a b g ≡ false)
  reader_is a b g h =
      let x = and-true (conflicts a b g) (not (eqb (touch B (item_at B a) g) 2)) h in
      let c = conflicts_is a b g x.0 in
      let w : touch B (item_at B a) g ≡ 2 → ⊥ = eqb-false (touch B (item_at B a) g) 2 (not-true _ x.1) in
      let l = touch_most (item_at B a) g in
      let m = on_most (rank_at B a) b g in
      (le-leb 1 (touch B (item_at B a) g) (omega (arith, c.0)), omega (arith, c.0), c.1)

  -- such edges of item a, each counted for each of its regions
  abbrev writer_edges : ℕ → ℕ
  writer_edges a = sum_below (item_count B) (λ b. count_below 128 (from_writer a b))

  abbrev reader_edges : ℕ → ℕ
  reader_edges a = sum_below (item_count B) (λ b. count_below 128 (from_reader a b))

  writers_bounded : sum_below (item_count B) writer_edges ≤ touch_count
  writers_bounded =
      rw (sum_swap (item_count B) (item_count B) (λ a b. count_below 128 (from_writer a b)))
      (sum_le (item_count B) (λ b. sum_below (item_count B) (λ a. count_below 128 (from_writer a b))) (λ b. count_below 128 (touches b))
      (λ b _. count_disjoint (item_count B) 128 (λ a. from_writer a b) (touches b) (λ a g _ _ h. (writer_is a b g h).0)
      (λ a c g l m _ h k.
      let x = writer_is a b g h in
      let y = writer_is c b g k in
      last_once (item_count B) (touch_on B (rank_at B b)) g a c b l m x.1 y.1 x.2 y.2)))

  readers_bounded : sum_below (item_count B) reader_edges ≤ touch_count
  readers_bounded =
      sum_le (item_count B) reader_edges (λ a. count_below 128 (touches a))
      (λ a _. count_disjoint (item_count B) 128 (from_reader a) (touches a) (λ b g _ _ h. (reader_is a b g h).0)
      (λ b c g l m _ h k.
      let x = reader_is a b g h in
      let y = reader_is a c g k in
      next_once (item_count B) (touch_on B (rank_at B a)) g a b c l m x.1 y.1 x.2 y.2))

  -- edges by slots

  abbrev Paired : ℕ → ℕ → Type 0
  Paired a b = ((kind_at B a ≡ 1) × (b ≡ a + 1)) ⊎ ((kind_at B a ≡ 2) × (a ≡ b + 1))

  paired_is : (a b : ℕ) → paired B a b ≡ true → Paired a b
  unfolding paired
  paired_is a b h =
      ⊎_elim
      (λ u. let x = and-true (eqb (kind_at B a) 1) (eqb b (a + 1)) u in inl (eqb-true (kind_at B a) 1 x.0, eqb-true b (a + 1) x.1))
      (λ u. let x = and-true (eqb (kind_at B a) 2) (eqb a (b + 1)) u in inr (eqb-true (kind_at B a) 2 x.0, eqb-true a (b + 1) x.1))
      (or_cases (eqb (kind_at B a) 1 && eqb b (a + 1)) (eqb (kind_at B a) 2 && eqb a (b + 1)) h)

  paired_kind : (a b : ℕ) → Paired a b → not (eqb (kind_at B a) 0) ≡ true
  paired_kind a b (inl x) = rw x.0
  paired_kind a b (inr x) = rw x.0

  paired_once : (a b c : ℕ) → b < c → Paired a b → Paired a c → ⊥
  paired_once a b c l (inl x) (inl y) = omega (arith, x.1, y.1)
  paired_once a b c l (inl x) (inr y) = omega (arith, x.0, y.0)
  paired_once a b c l (inr x) (inl y) = omega (arith, x.0, y.0)
  paired_once a b c l (inr x) (inr y) = omega (arith, x.1, y.1)

  abbrev slot_edges : ℕ → ℕ
  slot_edges a = count_below (item_count B) (paired B a)

  slots_bounded : sum_below (item_count B) slot_edges + task_count ≤ item_count B
  slots_bounded =
      omega (
        arith,
        sum_le (item_count B) slot_edges (λ a. cond (not (eqb (kind_at B a) 0)) 1 0)
            (λ a _. count_once (item_count B) (paired B a) (not (eqb (kind_at B a) 0))
            (λ b _ h. paired_kind a b (paired_is a b h))
            (λ b c l _ h k. paired_once a b c l (paired_is a b h) (paired_is a c k))),
        count_sum (item_count B) (λ a. not (eqb (kind_at B a) 0)),
        count_not (item_count B) (λ a. eqb (kind_at B a) 0),
      )

  -- each item's own edge

  abbrev self_edges : ℕ → ℕ
  self_edges a = count_below (item_count B) (eqb a)

  selves_bounded : sum_below (item_count B) self_edges ≤ item_count B
  selves_bounded =
      omega (
        arith,
        sum_le (item_count B) self_edges (λ a. 1)
            (λ a _. count_once (item_count B) (eqb a) true (λ b _ h. refl) (λ b c l _ h k. omega (arith, eqb-true a b h, eqb-true a c k))),
        sum_const (item_count B) 1,
      )

  -- the rows

  row_bounded : (a : ℕ) → count_below (item_count B) (edge_test B a) ≤ (self_edges a + slot_edges a) + (writer_edges a + reader_edges a)
  unfolding edge_test copy_edge
  row_bounded a =
      omega (
        arith,
        count_or (item_count B) (eqb a) (λ b. paired B a b || copy_edge B a b),
        count_or (item_count B) (paired B a) (copy_edge B a),
        count_any (item_count B) 128 (conflicts a),
        sum_ext (item_count B) (λ b. count_below 128 (conflicts a b)) (λ b. count_below 128 (from_writer a b) + count_below 128 (from_reader a b))
            (λ b _. count_parts 128 (conflicts a b) (λ g. eqb (touch B (item_at B a) g) 2)),
        sum_add (item_count B) (λ b. count_below 128 (from_writer a b)) (λ b. count_below 128 (from_reader a b)),
      )

  rows_counted : length (edge_list B) ≡ sum_below (item_count B) (λ a. count_below (item_count B) (edge_test B a))
  unfolding edge_list edges_from
  rows_counted =
      length_flat_map_range (edges_from B) (item_count B)
      ∙ sum_ext (item_count B) (λ a. length (edges_from B a)) (λ a. count_below (item_count B) (edge_test B a))
      (λ a _. length_gather (item_count B) (edge_test B a) (λ b. (a, b, distance a b)))

  edges_counted : length (edge_list B) + task_count ≤ 2 * item_count B + 2 * touch_count
  edges_counted =
      omega (
        arith,
        rows_counted,
        sum_le (item_count B) (λ a. count_below (item_count B) (edge_test B a)) (λ a. (self_edges a + slot_edges a) + (writer_edges a + reader_edges a)) (λ a _. row_bounded a),
        sum_add (item_count B) (λ a. self_edges a + slot_edges a) (λ a. writer_edges a + reader_edges a),
        sum_add (item_count B) self_edges slot_edges,
        sum_add (item_count B) writer_edges reader_edges,
        selves_bounded,
        slots_bounded,
        writers_bounded,
        readers_bounded,
      )

  pub edges_bounded : Fits B → Small B → length (edge_list B) ≤ max_edges
  edges_bounded F S = omega (arith, edges_counted, touches_bounded S, tasks_bounded F, items_counted B, S.tasks, S.transfers)
