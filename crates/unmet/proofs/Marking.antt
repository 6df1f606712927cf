-- The marks of an item's edges tell which waits a finish meets and which are unmet; turns and ends
-- of the loops over them.
use Prim.Native.Nat.{ℕ, ◌+◌, ◌-◌, ◌≤◌, ◌<◌}
use mathlib.Core.Path.{◌≡◌, sym, ◌∙◌, ap}
use mathlib.Core.Bool.{Bool, true, false, cond, ◌&&◌}
use mathlib.Core.List.{List}
use native.Mathlib.Decide.{dec_lt}
use native.Mathlib.Omega.{arith}
use borrow.Author.Tests.{ltb-true, lt-ltb, le-ltb, lt-leb, le-leb}
use lib.Dec.{eqb, ltb, leb}
use lib.ListN.{get_or, set, length}
use Rattle.finite.specs.Below.{count_below}
use Rattle.finite.proofs.Tests.{and_intro, and-true, test_ext}
use Rattle.finite.proofs.Below.{count_more}
use Rattle.body.specs.Body.{Body, Fits}
use Rattle.body.specs.Items.{item_count, item_passes}
use Rattle.body.specs.Places.{system}
use Rattle.edges.specs.Tests.{distance, edge_test}
use Rattle.waits.specs.Waits.{is_unmet, fresh_count, meets}
use Rattle.waits.specs.Stored.{lowered_to}
use Rattle.waits.proofs.Unmet.{unmet_parts, unmet_of, count_left}
use Rattle.waits.proofs.Stored.{lower_length, lower_before, lower_more}
use Rattle.waits.proofs.Bodies.{source_made}
use Rattle.plan.specs.Sizes.{max_items, count_words, first_finished, first_unmet}
use Rattle.walk.specs.Rows.{Marks}
use Rattle.walk.proofs.Marked.{edge_marked}
use Rattle.steps.specs.State.{done_by, unmet_by}

-- the distance of an edge, as code has it
pub distance_by : (b a : ℕ) → cond (leb a b) 1 0 ≡ distance b a
distance_by b a =
    elim (dec_lt b a) [
      | yes l ↦ rw (lt-leb a b l, lt-ltb b a l)
      | no l ↦ rw (le-leb a b (omega arith), le-ltb b a (omega arith))
    ]

module _ (B : Body) (n : ℕ) (marks : List ℕ) where
  marked_meets : (b : ℕ) → Marks B n b false marks → (fin : ℕ → ℕ) (a : ℕ) → a < n →
      (eqb (get_or marks a 0) 1 && (eqb (fin a) (fin b + distance b a) && ltb (fin a) (item_passes B a))) ≡ meets (system B) (edge_test B) fin b a
  unfolding meets
  marked_meets b M fin a l = rw (edge_marked B n b false marks M a l)

  -- while a has a pass left, the passes that it waits for are made
  marked_unmet : Fits B → n ≡ item_count B → (a : ℕ) → Marks B n a true marks → (fin : ℕ → ℕ) (b : ℕ) → a < n → b < n → fin a < item_passes B a →
      (eqb (get_or marks b 0) 1 && ltb (fin b) (fin a + 1 - distance b a)) ≡ is_unmet (system B) (edge_test B) fin a b
  marked_unmet F c a M fin b la lb left = test_ext test (is_unmet (system B) (edge_test B) fin a b) onward back
    where
      test : Bool
      test = eqb (get_or marks b 0) 1 && ltb (fin b) (fin a + 1 - distance b a)

      mark : eqb (get_or marks b 0) 1 ≡ edge_test B b a
      mark = edge_marked B n a true marks M b lb

      onward : test ≡ true → is_unmet (system B) (edge_test B) fin a b ≡ true
      onward h =
          let u = and-true (eqb (get_or marks b 0) 1) (ltb (fin b) (fin a + 1 - distance b a)) h in
          let stands : edge_test B b a ≡ true = sym mark ∙ u.0 in
          let few : fin b < fin a + 1 - distance b a = ltb-true (fin b) (fin a + 1 - distance b a) u.1 in
          let source : fin a - distance b a < item_passes B b = source_made B F b a (fin a - distance b a) (omega arith) (omega arith) stands (omega arith) in
          unmet_of (system B) (edge_test B) fin a b (record { stands = stands; unfinished = omega arith; made = omega arith })

      back : is_unmet (system B) (edge_test B) fin a b ≡ true → test ≡ true
      back h =
          let u = unmet_parts (system B) (edge_test B) fin a b h in
          and_intro (eqb (get_or marks b 0) 1) (ltb (fin b) (fin a + 1 - distance b a)) (mark ∙ u.stands)
          (lt-ltb (fin b) (fin a + 1 - distance b a) (omega (arith, u.unfinished)))

  -- the turn of item a of the loop that lowers, from the counts l
  pub lower_turn : (b a : ℕ) (l m m' : List ℕ) (own served : ℕ) → Marks B n b false marks → a < n → n ≤ max_items → count_words ≤ length l →
      m ≡ lowered_to (system B) (edge_test B) first_unmet (done_by l) b a l → own ≡ item_passes B a → served ≡ done_by l b + distance b a →
      m' ≡ cond (eqb (get_or marks a 0) 1 && (eqb (done_by m a) served && ltb (done_by m a) own)) (set m (first_unmet + a) (unmet_by m a - 1)) m →
      (a + 1 ≤ n) × (length m' ≡ length l) × (m' ≡ lowered_to (system B) (edge_test B) first_unmet (done_by l) b (a + 1) l)
  lower_turn b a l m m' own served M la few long e o s w =
      (omega arith, ap length next ∙ lower_length (system B) (edge_test B) first_unmet (done_by l) b (a + 1) l, next)
    where
      same : done_by m a ≡ done_by l a
      same = ap (λ (x : List ℕ). done_by x a) e ∙ lower_before (system B) (edge_test B) first_unmet (done_by l) b a l (first_finished + a) (omega arith)

      next : m' ≡ lowered_to (system B) (edge_test B) first_unmet (done_by l) b (a + 1) l
      next =
          lower_more (system B) (edge_test B) first_unmet (done_by l) b a l m m'
          (eqb (get_or marks a 0) 1 && (eqb (done_by m a) served && ltb (done_by m a) own)) (omega arith) e
          (rw (same, s, o) (marked_meets b M (done_by l) a la)) w

  -- the turn of item b of the loop that counts, and its end
  module _ (F : Fits B) (c : n ≡ item_count B) (a : ℕ) (M : Marks B n a true marks) (la : a < n) (l : List ℕ) (left : done_by l a < item_passes B a) where
    pub count_turn : (b count one need : ℕ) → b < n → count ≡ count_below b (is_unmet (system B) (edge_test B) (done_by l) a) →
        need ≡ done_by l a + 1 - distance b a → one ≡ cond (eqb (get_or marks b 0) 1 && ltb (done_by l b) need) 1 0 →
        count + one ≡ count_below (b + 1) (is_unmet (system B) (edge_test B) (done_by l) a)
    count_turn b count one need lb e d f =
        count_more (is_unmet (system B) (edge_test B) (done_by l) a) b count one (eqb (get_or marks b 0) 1 && ltb (done_by l b) need) e f
        (rw d (marked_unmet F c a M (done_by l) b la lb left))

    pub count_end : (b count : ℕ) → n ≤ b → b ≤ n → count ≡ count_below b (is_unmet (system B) (edge_test B) (done_by l) a) →
        count ≡ fresh_count (system B) (edge_test B) (done_by l) a
    count_end b count h i e =
        let q : b ≡ item_count B = omega arith in
        e
        ∙ (ap (λ (j : ℕ). count_below j (is_unmet (system B) (edge_test B) (done_by l) a)) q
        ∙ sym (count_left (system B) (edge_test B) (done_by l) a left))
