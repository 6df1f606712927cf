-- The marked items are those before item a with an edge to it, and their number is what an opening
-- counts.
use Prim.Native.Nat.{ℕ, ◌+◌, ◌-◌, ◌*◌, ◌/◌, ◌%◌, ◌≤◌, ◌<◌}
use mathlib.Core.Path.{◌≡◌, refl, sym, ◌∙◌, ap}
use mathlib.Core.Bool.{Bool, true, false, cond, ◌&&◌, ◌||◌, and-false}
use mathlib.Core.List.{List}
use native.Mathlib.Decide.{dec_lt, ℕ_discrete}
use native.Mathlib.Omega.{arith}
use borrow.Author.Tests.{ne_eqb, lt-ltb, le-ltb, leb-true, le-leb, lt-leb}
use lib.Dec.{eqb, ltb, leb}
use lib.ListN.{get_or}
use Rattle.finite.specs.Below.{count_below}
use Rattle.finite.proofs.Below.{any_never, any_ext, count_ext, count_beyond, count_never}
use Rattle.finite.proofs.Tests.{test_ext}
use Rattle.body.specs.Body.{Body, Fits}
use Rattle.body.specs.Items.{item_count, item_at, task}
use Rattle.edges.specs.Touch.{touch, touch_on}
use Rattle.edges.specs.Tests.{written_between, crossed, kind_at, rank_at, copy_edge}
use Rattle.edges.proofs.Touches.{touch_most}
use Rattle.plan.specs.Limits.{max_ranks}
use Rattle.plan.specs.Sizes.{max_items}
use Rattle.plan.specs.Layout.{body_of}
use Rattle.plan.specs.Code.{code_rank, code_kind, code_subject}
use Rattle.graph.specs.Table.{Graph, Task}
use Rattle.graph.proofs.Lookup.{body_fits, code_rank_lem, code_kind_lem, kind_few, rank_few, task_ready}
use Rattle.walk.specs.Rows.{partner_of}
use Rattle.walk.proofs.Touching.{touch_task, touch_region}
use Rattle.walk.proofs.RowMarks.{own_touch, other_touch, test_other, row_receive}
use Rattle.open_waits.specs.Sources.{max_places, is_since, since_with, hits, is_source, Kept, marked, Counted, Joined, Placed, Touched, ItemsPassed}
use Rattle.open_waits.proofs.Touching.{since_next, since_none, hits_ext, kept_ext, touched_none, touched_more}

-- a conflict
leb_rest : (x y : ℕ) → leb (3 - y) x ≡ leb 3 (x + y)
leb_rest x y =
    test_ext (leb (3 - y) x) (leb 3 (x + y)) (λ h. le-leb 3 (x + y) (omega (arith, leb-true (3 - y) x h))) (λ h. le-leb (3 - y) x (omega (arith, leb-true 3 (x + y) h)))

module _ (B : Body) (a b : ℕ) where
  abbrev q : ℕ
  q = rank_at B a

  hits_later : (t : ℕ → ℕ) → a ≤ b → hits B q a t b ≡ false
  unfolding hits is_since
  hits_later t l = any_never (λ g. is_since B q g (3 - t g) a b) 128 (λ g h. rw (le-ltb b a l))

  module _ (l : b < a) where
    crossed_since : (g : ℕ) → is_since B q g (3 - touch B (item_at B a) g) a b ≡ crossed (item_count B) (touch_on B q) b a g
    unfolding is_since crossed written_between
    crossed_since g = rw (lt-ltb b a l, sym (own_touch B a g), leb_rest (touch_on B q b g) (touch_on B q a g))

    apart_since : (g : ℕ) → (rank_at B b ≡ q → ⊥) → is_since B q g (3 - touch B (item_at B a) g) a b ≡ false
    unfolding is_since
    apart_since g n =
        rw (other_touch B q b g n, lt-leb (3 - touch B (item_at B a) g) 0 (omega (arith, own_touch B a g, touch_most B q a g))) (and-false (ltb b a))

    apart_crossed : (g : ℕ) → (rank_at B b ≡ q → ⊥) → crossed (item_count B) (touch_on B (rank_at B b)) b a g ≡ false
    unfolding crossed
    apart_crossed g n =
        rw (lt-leb 3 (touch_on B (rank_at B b) b g + touch_on B (rank_at B b) a g) (omega (arith, touch_most B (rank_at B b) b g, other_touch B (rank_at B b) a g (λ z. n (sym z)))))

    hits_copy : hits B q a (touch B (item_at B a)) b ≡ copy_edge B b a
    unfolding hits copy_edge
    hits_copy =
        elim (ℕ_discrete (rank_at B b) q) [
          | yes e ↦ rw e (any_ext 128 (λ g. is_since B q g (3 - touch B (item_at B a) g) a b) (crossed (item_count B) (touch_on B q) b a) (λ g h. crossed_since g))
          | no e ↦
              any_never (λ g. is_since B q g (3 - touch B (item_at B a) g) a b) 128 (λ g h. apart_since g e)
              ∙ sym (any_never (crossed (item_count B) (touch_on B (rank_at B b)) b a) 128 (λ g h. apart_crossed g e))
        ]

source_later : (B : Body) (a b : ℕ) → a ≤ b → is_source B a b ≡ false
unfolding is_source
source_later B a b l = rw (le-ltb b a l)

-- of an item before it, a receive alone has its partner
partner_before : (k a b : ℕ) → b < a → (eqb k 2 && eqb b (a - 1)) ≡ eqb b (partner_of k a)
partner_before k a b l =
    elim (ℕ_discrete k 2) [
      | yes e ↦ rw e
      | no e ↦
          elim (ℕ_discrete k 1) [
            | yes f ↦ rw f (sym (ne_eqb b (a + 1) (λ z. omega arith)))
            | no f ↦ rw (ne_eqb k 2 e, ne_eqb k 1 f) (sym (ne_eqb b a (λ z. omega arith)))
          ]
    ]

module _ (B : Body) (F : Fits B) (a : ℕ) (la : a < item_count B) (above : kind_at B a ≡ 2 → 1 ≤ a) where
  source_is : (b : ℕ) → ((eqb (kind_at B a) 2 && eqb b (a - 1)) || hits B (rank_at B a) a (touch B (item_at B a)) b) ≡ is_source B a b
  unfolding is_source
  source_is b =
      elim (dec_lt b a) [
        | yes l ↦
            rw (
              lt-ltb b a l,
              partner_before (kind_at B a) a b l,
              hits_copy B a b l,
              test_other B F a la true b (omega arith) (λ z. omega arith),
            )
        | no l ↦ rw (le-ltb b a (omega arith), hits_later B a b (touch B (item_at B a)) (omega arith)) (none (ℕ_discrete (kind_at B a) 2) (omega arith))
      ]
    where
      none : Dec (kind_at B a ≡ 2) → a ≤ b → ((eqb (kind_at B a) 2 && eqb b (a - 1)) || false) ≡ false
      none d m =
          elim d [
            | yes k ↦ rw (k, ne_eqb b (a - 1) (λ z. omega (arith, above k)))
            | no k ↦ rw (ne_eqb (kind_at B a) 2 k)
          ]

-- an item more is passed, which has touched its places
kept_next : (B : Body) (a m m' : ℕ) (heads writers nexts : List ℕ) → m ≤ m' → Kept B a (λ x. touch_on B (x / 128) a (x % 128)) m heads writers nexts → Kept B (a + 1) (λ x. 0) m' heads writers nexts
kept_next B a m m' heads writers nexts h K =
    kept_ext B (a + 1) m m' (λ x. 0) (λ x. 0) heads writers nexts (λ x l. refl) h (record {
      links = K.links;
      head = λ x b l. K.head x b l ∙ next x b 1 (omega arith);
      writer = λ x b l. K.writer x b l ∙ next x b 2 (omega arith);
    })
  where
    next : (x b c : ℕ) → 1 ≤ c → since_with B (x / 128) (x % 128) c a (touch_on B (x / 128) a (x % 128)) b ≡ since_with B (x / 128) (x % 128) c (a + 1) 0 b
    next x b c l = sym (since_next B (x / 128) (x % 128) c a b) ∙ sym (since_none B (x / 128) (x % 128) c (a + 1) b l)

-- item a, with its kind, its subject and its rank q by the table, and its mark
pub record Coded (w table : List ℕ) (n a kind subject q mark : ℕ) : Type 0 where
  pub graph : Graph w table n
  pub below : a < n
  pub code : ℕ
  pub number : code ≡ get_or table a 0
  pub kind_by : kind ≡ code_kind code
  pub subject_by : subject ≡ code_subject code
  pub rank_by : q ≡ code_rank code
  pub next : mark ≡ a + 1

module _ {w table : List ℕ} {n a kind subject q mark : ℕ} (I : Coded w table n a kind subject q mark) where
  abbrev B : Body
  B = body_of w

  kind_is : kind ≡ kind_at B a
  kind_is = I.kind_by ∙ code_kind_lem w table n I.graph a I.below I.code I.number

  rank_is : q ≡ rank_at B a
  rank_is = I.rank_by ∙ code_rank_lem w table n I.graph a I.below I.code I.number

  pub item_within : a < max_items
  item_within = omega (arith, I.below, I.graph.most)

  pub rank_within : q < max_ranks
  rank_within = omega (arith, rank_is, rank_few w table n I.graph a I.below)

  pub place_within : 128 * q + subject < max_places
  place_within = omega (arith, rank_within, I.subject_by)

  pub send_before : kind ≡ 2 → 1 ≤ a
  send_before z = row_receive w table n I.graph a I.below I.code kind I.number I.kind_by z

  pub task_coded : kind ≡ 0 → Task w subject
  task_coded z = task_ready w table n I.graph a I.below I.code I.number subject (sym I.kind_by ∙ z) I.subject_by

  module _ (heads writers nexts seen : List ℕ) (P : ItemsPassed B a heads writers nexts seen) where
    unmarked : (b : ℕ) → marked mark seen b ≡ false
    unmarked b = ne_eqb (get_or seen b 0) mark (λ z. omega (arith, I.next, P.most b))

    -- no item is marked yet
    pub counted_none : Counted mark seen 0
    counted_none =
        record { size = P.size; most = λ b. omega (arith, I.next, P.most b); count = sym (count_never max_items (marked mark seen) (λ b l. unmarked b)) }

    module _ (sent : List ℕ) (J : Joined mark (λ b. eqb kind 2 && eqb b (a - 1)) seen sent) (heads' writers' nexts' seen' : List ℕ) (number : ℕ) where
      -- it has touched its regions
      item_done : (t : ℕ → ℕ) (l : ℕ) → ((g : ℕ) → t g ≡ touch B (item_at B a) g) → l ≤ 8 * (a + 1) → Touched B a q t l mark heads' writers' nexts' sent seen' number
          → (number ≡ count_below (item_count B) (is_source B a)) × ItemsPassed B (a + 1) heads' writers' nexts' seen'
      unfolding touch_on
      item_done t l f h D = (
        D.counted.count
            ∙ (count_ext max_items (marked mark seen') (is_source B a) all
            ∙ (count_beyond max_items n (is_source B a) I.graph.most (λ b u v. source_later B a b (omega (arith, I.below))) ∙ ap (λ (x : ℕ). count_below x (is_source B a)) I.graph.count)),
        record {
          kept =
              kept_next B a l (8 * (a + 1)) heads' writers' nexts' h
              (kept_ext B a l l (λ x. cond (eqb q (x / 128)) (t (x % 128)) 0) (λ x. touch_on B (x / 128) a (x % 128)) heads' writers' nexts'
              (λ x u. rw (rank_is, f (x % 128))) (omega arith) D.kept);
          size = D.counted.size;
          most = λ b. omega (arith, I.next, D.counted.most b);
        },
      )
        where
          all : (b : ℕ) → b < max_items → marked mark seen' b ≡ is_source B a b
          all b u =
              D.joined b u
              ∙ (rw (J b u, unmarked b, kind_is, rank_is)
              (ap (λ (x : Bool). (eqb (kind_at B a) 2 && eqb b (a - 1)) || x) (hits_same b)
              ∙ source_is B (body_fits w table n I.graph) a (omega (arith, I.below, I.graph.count)) (λ z. send_before (kind_is ∙ z)) b))
            where
              hits_same : (b : ℕ) → hits B (rank_at B a) a t b ≡ hits B (rank_at B a) a (touch B (item_at B a)) b
              hits_same b = hits_ext B (rank_at B a) a b t (touch B (item_at B a)) (λ g u. f g)

      pub task_counted : kind ≡ 0 → Touched B a q (touch B (task subject)) (8 * (a + 1)) mark heads' writers' nexts' sent seen' number
          → (number ≡ count_below (item_count B) (is_source B a)) × ItemsPassed B (a + 1) heads' writers' nexts' seen'
      task_counted z D = item_done (touch B (task subject)) (8 * (a + 1)) (touch_task w table n I.graph a I.below I.code I.number kind subject I.kind_by I.subject_by z) (omega arith) D

      pub region_counted : (kind ≡ 0 → ⊥) → (first : ℕ) → Counted mark sent first
          → Placed (128 * q + subject) (8 * a) mark (eqb kind 2) heads heads' writers writers' nexts nexts' sent seen' number
          → (number ≡ count_below (item_count B) (is_source B a)) × ItemsPassed B (a + 1) heads' writers' nexts' seen'
      region_counted z first C Q =
          item_done (λ g. cond (eqb g subject) (cond (eqb kind 2) 2 1) 0) (8 * a + 1)
          (λ g. ap (λ (x : ℕ). cond (eqb g subject) x 0) kinds ∙ touch_region w table n I.graph a I.below I.code I.number kind subject I.kind_by I.subject_by z g) (omega arith)
          (touched_more B a q mark sent subject (8 * a) (128 * q + subject) (λ g. 0) (eqb kind 2) heads heads' writers writers' nexts nexts' sent seen' first number (omega (arith, I.subject_by)) rank_within (omega (arith, item_within)) (omega arith) refl refl
          (touched_none B a q mark sent (8 * a) first heads writers nexts P.kept C) Q)
        where
          kinds : cond (eqb kind 2) 2 1 ≡ kind
          kinds =
              elim (ℕ_discrete kind 2) [
                | yes y ↦ rw y
                | no y ↦ rw (ne_eqb kind 2 y) (omega (arith, kind_few w table n I.graph a I.below I.code I.number, I.kind_by, z))
              ]
