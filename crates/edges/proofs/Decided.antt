-- The test of an edge is the edge rule.
use Prim.Native.Nat.{ℕ, suc, ◌+◌, ◌-◌, ◌≤◌, ◌<◌}
use mathlib.Core.Path.{◌≡◌, refl, sym, ◌∙◌, ap, subst}
use mathlib.Core.Bool.{true, false, not, ◌&&◌, ◌||◌, or-true}
use mathlib.Core.Logic.{◌⊎◌, ⊎_elim}
use native.Mathlib.Decide.{dec_lt, ℕ_discrete}
use native.Mathlib.Omega.{arith}
use borrow.Author.Tests.{eqb-true, eq-eqb, ne_eqb, lt-ltb, le-ltb, le-leb, leb-true, not-true}
use lib.Dec.{eqb, leb}
use Rattle.finite.proofs.Tests.{and_intro, and-true, not_both, or_cases, or_parts}
use Rattle.finite.proofs.Below.{any_at, any_from, any_never}
use Rattle.unroll.specs.Instances.{earlier, within}
use Rattle.unroll.specs.System.{System, Accesses, writing, Writes}
use Rattle.unroll.specs.Edges.{Conflict, Unwritten, Dependence, Edge, rule, reuse}
use Rattle.unroll.proofs.Instances.{before_item}
use Rattle.unroll.proofs.LastWriter.{unwritten_same, unwritten_next}
use Rattle.unroll.proofs.Edges.{edge_distance, conflict_written, conflict_writes}
use Rattle.body.specs.Body.{Body, Fits}
use Rattle.body.specs.Items.{item_count, item_at}
use Rattle.body.specs.Places.{slot, copy, system}
use Rattle.body.proofs.Accessed.{Place, of_copy, of_send, of_receive, place_of, rank_below, send_kind, receive_kind, send_slot, receive_slot, slot_users}
use Rattle.edges.specs.Touch.{touch_on}
use Rattle.edges.specs.Tests.{written, written_between, crossed, distance, kind_at, rank_at, paired, copy_edge, edge_test}
use Rattle.edges.proofs.Touches.{touch_most, writes_touch, touch_writes, accesses_touch, touch_accesses, touch_region}

pub distance_later : (a b : ℕ) → a < b → distance a b ≡ 0
distance_later a b l = rw (lt-ltb a b l)

pub distance_next : (a b : ℕ) → b ≤ a → distance a b ≡ 1
distance_next a b l = rw (le-ltb a b l)

-- an edge has no other distance: where a stands before b, the writer of the two has an instance
-- between theirs in two passes
pub edge_distance_is : (S : System) (a b d : ℕ) → Edge S a b d → d ≡ distance a b
edge_distance_is S a b d (reuse l e h) = h ∙ sym (distance_next a b (omega arith))
edge_distance_is S a b d (rule e) =
    elim (dec_lt a b) [
      | yes l ↦ first l ∙ sym (distance_later a b l)
      | no l ↦ omega (arith, distance_next a b (omega arith), edge_distance S a b d (rule e), later l)
    ]
  where
    first : a < b → d ≡ 0
    first l =
        elim (dec_lt 0 d) [
          | yes k ↦ absurd (⊎_elim
              (λ w. e.between 1 a e.from (earlier (omega arith)) (within (omega (arith, edge_distance S a b d (rule e))) l) w)
              (λ w. e.between 0 b e.to (within refl l) (earlier k) w)
              e.conflict.one_writes)
          | no k ↦ omega arith
        ]

    later : (a < b → ⊥) → 0 < d
    later l = elim (dec_lt 0 d) [ yes k ↦ k | no k ↦ absurd (l (before_item 0 a d b e.order (omega arith))) ]

-- at rank q's copy of region g
module _ (B : Body) (F : Fits B) (q g : ℕ) (lq : q < B.ranks) (lg : g < B.regions) where
  conflict_touch : (a b : ℕ) → a < item_count B → b < item_count B → Conflict (system B) a b (copy B q g) → 3 ≤ touch_on B q a g + touch_on B q b g
  conflict_touch a b la lb c =
      let u = accesses_touch B F q a g lq la lg c.first in
      let v = accesses_touch B F q b g lq lb lg c.second in
      ⊎_elim
      (λ w. omega (arith, v, writes_touch B F q a g lq la lg w))
      (λ w. omega (arith, u, writes_touch B F q b g lq lb lg w))
      c.one_writes

  touch_conflict : (a b : ℕ) → a < item_count B → b < item_count B → 3 ≤ touch_on B q a g + touch_on B q b g → Conflict (system B) a b (copy B q g)
  touch_conflict a b la lb h =
      let u = touch_most B q a g in
      let v = touch_most B q b g in
      elim (dec_lt (touch_on B q a g) 2) [
        | yes l ↦ conflict_writes (system B) a b (copy B q g) (touch_accesses B F q a g lq la lg (omega (arith, v))) (touch_writes B F q b g lq lb lg (omega (arith, v)))
        | no l ↦ conflict_written (system B) a b (copy B q g) (touch_writes B F q a g lq la lg (omega (arith, u))) (touch_accesses B F q b g lq lb lg (omega (arith, u)))
      ]

  written_none : (lo k : ℕ) → lo + k ≤ item_count B → written (item_count B) (touch_on B q) lo k g ≡ false →
      (c : ℕ) → lo ≤ c → c < lo + k → Writes (system B) c (copy B q g) → ⊥
  unfolding written
  written_none lo k r h c l m w =
      let z : lo + (c - lo) ≡ c = omega arith in
      let t : touch_on B q (lo + (c - lo)) g ≡ 2 = ap (λ (j : ℕ). touch_on B q j g) z ∙ writes_touch B F q c g lq (omega arith) lg w in
      not_both (any_at (λ j. eqb (touch_on B q (lo + j) g) 2) k (c - lo) (omega arith) (eq-eqb (touch_on B q (lo + (c - lo)) g) 2 t)) h

  none_written : (lo k : ℕ) → lo + k ≤ item_count B → ((c : ℕ) → lo ≤ c → c < lo + k → Writes (system B) c (copy B q g) → ⊥) →
      written (item_count B) (touch_on B q) lo k g ≡ false
  unfolding written
  none_written lo k r f =
      any_never (λ j. eqb (touch_on B q (lo + j) g) 2) k
      (λ j l. ne_eqb (touch_on B q (lo + j) g) 2 (λ e. f (lo + j) (omega arith) (omega arith) (touch_writes B F q (lo + j) g lq (omega arith) lg e)))

  -- between two items of one pass, and from a pass to the next

  unwritten_later : (a b : ℕ) → b < item_count B → a < b → Unwritten (system B) (copy B q g) 0 a 0 b → written_between (item_count B) (touch_on B q) a b g ≡ false
  unfolding written_between
  unwritten_later a b lb l f =
      rw (lt-ltb a b l) (none_written (a + 1) (b - (a + 1)) (omega arith) (λ c u v. f 0 c (omega arith) (within refl (omega arith)) (within refl (omega arith))))

  later_unwritten : (a b : ℕ) → b < item_count B → a < b → written_between (item_count B) (touch_on B q) a b g ≡ false → Unwritten (system B) (copy B q g) 0 a 0 b
  unfolding written_between
  later_unwritten a b lb l h =
      let k : written (item_count B) (touch_on B q) (a + 1) (b - (a + 1)) g ≡ false = rw (lt-ltb a b l) at h in
      unwritten_same (system B) (copy B q g) 0 a 0 b refl (λ c u v. written_none (a + 1) (b - (a + 1)) (omega arith) k c (omega arith) (omega arith))

  unwritten_back : (a b : ℕ) → a < item_count B → b ≤ a → Unwritten (system B) (copy B q g) 0 a 1 b → written_between (item_count B) (touch_on B q) a b g ≡ false
  unfolding written_between
  unwritten_back a b la l f =
      rw (
        le-ltb a b l,
        none_written (a + 1) (item_count B - (a + 1)) (omega arith) (λ c u v. f 0 c (omega arith) (within refl (omega arith)) (earlier (omega arith))),
        none_written 0 b (omega arith) (λ c u v. f 1 c (omega arith) (earlier (omega arith)) (within refl (omega arith))),
      )

  back_unwritten : (a b : ℕ) → a < item_count B → b ≤ a → written_between (item_count B) (touch_on B q) a b g ≡ false → Unwritten (system B) (copy B q g) 0 a 1 b
  unfolding written_between
  back_unwritten a b la l h =
      let k = or_parts (written (item_count B) (touch_on B q) (a + 1) (item_count B - (a + 1)) g) (written (item_count B) (touch_on B q) 0 b g) (rw (le-ltb a b l) at h) in
      unwritten_next (system B) (copy B q g) 0 a 1 b refl
      (λ c u v. written_none (a + 1) (item_count B - (a + 1)) (omega arith) k.0 c (omega arith) (omega arith))
      (λ c u v. written_none 0 b (omega arith) k.1 c u (omega arith))

  pub dependence_crossed : (a b d : ℕ) → d ≡ distance a b → (e : Dependence (system B) 0 a d b) → e.place ≡ copy B q g → crossed (item_count B) (touch_on B q) a b g ≡ true
  unfolding crossed
  dependence_crossed a b d s e x =
      and_intro (leb 3 (touch_on B q a g + touch_on B q b g)) (not (written_between (item_count B) (touch_on B q) a b g))
      (le-leb 3 (touch_on B q a g + touch_on B q b g) (conflict_touch a b e.from e.to (subst (λ (z : ℕ). Conflict (system B) a b z) x e.conflict)))
      (rw clear)
    where
      free : Unwritten (system B) (copy B q g) 0 a d b
      free = subst (λ (z : ℕ). Unwritten (system B) z 0 a d b) x e.between

      clear : written_between (item_count B) (touch_on B q) a b g ≡ false
      clear =
          elim (dec_lt a b) [
            | yes l ↦ unwritten_later a b e.to l (subst (λ (z : ℕ). Unwritten (system B) (copy B q g) 0 a z b) (s ∙ distance_later a b l) free)
            | no l ↦ (let m : b ≤ a = omega arith in unwritten_back a b e.from m (subst (λ (z : ℕ). Unwritten (system B) (copy B q g) 0 a z b) (s ∙ distance_next a b m) free))
          ]

  pub crossed_edge : (a b : ℕ) → a < item_count B → b < item_count B → crossed (item_count B) (touch_on B q) a b g ≡ true → Edge (system B) a b (distance a b)
  unfolding crossed
  crossed_edge a b la lb h =
      let r = and-true (leb 3 (touch_on B q a g + touch_on B q b g)) (not (written_between (item_count B) (touch_on B q) a b g)) h in
      let c : Conflict (system B) a b (copy B q g) = touch_conflict a b la lb (leb-true 3 (touch_on B q a g + touch_on B q b g) r.0) in
      let k : written_between (item_count B) (touch_on B q) a b g ≡ false = not-true (written_between (item_count B) (touch_on B q) a b g) r.1 in
      elim (dec_lt a b) [
        | yes l ↦ rw (distance_later a b l) (rule (record { from = la; to = lb; place = copy B q g; conflict = c; order = within refl l; between = later_unwritten a b lb l k }))
        | no l ↦ (let m : b ≤ a = omega arith in rw (distance_next a b m)
            (rule (record { from = la; to = lb; place = copy B q g; conflict = c; order = earlier (omega arith); between = back_unwritten a b la m k })))
      ]

-- the parts of the test
module _ (B : Body) where
  test_same : (a b : ℕ) → a ≡ b → edge_test B a b ≡ true
  unfolding edge_test
  test_same a b e = rw (eq-eqb a b e)

  test_paired : (a b : ℕ) → paired B a b ≡ true → edge_test B a b ≡ true
  unfolding edge_test
  test_paired a b h = rw h (or-true (eqb a b))

  test_copy : (a b : ℕ) → copy_edge B a b ≡ true → edge_test B a b ≡ true
  unfolding edge_test
  test_copy a b h = rw (h, or-true (paired B a b)) (or-true (eqb a b))

  paired_send : (a b : ℕ) → kind_at B a ≡ 1 → b ≡ suc a → paired B a b ≡ true
  unfolding paired
  paired_send a b k e = let s : b ≡ a + 1 = omega arith in rw (eq-eqb (kind_at B a) 1 k, eq-eqb b (a + 1) s)

  paired_receive : (a b : ℕ) → kind_at B a ≡ 2 → a ≡ suc b → paired B a b ≡ true
  unfolding paired
  paired_receive a b k e = let s : a ≡ b + 1 = omega arith in rw (eq-eqb (kind_at B a) 2 k, eq-eqb a (b + 1) s) (or-true (eqb (kind_at B a) 1 && eqb b (a + 1)))

module _ (B : Body) (F : Fits B) where
  paired_edge : (a b : ℕ) → a < item_count B → b < item_count B → paired B a b ≡ true → Edge (system B) a b (distance a b)
  unfolding paired
  paired_edge a b la lb h =
      ⊎_elim
      (λ t. let r = and-true (eqb (kind_at B a) 1) (eqb b (a + 1)) t in to_receive (eqb-true (kind_at B a) 1 r.0) (eqb-true b (a + 1) r.1))
      (λ t. let r = and-true (eqb (kind_at B a) 2) (eqb a (b + 1)) t in to_send (eqb-true (kind_at B a) 2 r.0) (eqb-true a (b + 1) r.1))
      (or_cases (eqb (kind_at B a) 1 && eqb b (a + 1)) (eqb (kind_at B a) 2 && eqb a (b + 1)) h)
    where
      to_receive : kind_at B a ≡ 1 → b ≡ a + 1 → Edge (system B) a b (distance a b)
      to_receive k e =
          let s : suc a ≡ b = omega arith in
          let m : kind_at B b ≡ 2 = subst (λ (z : ℕ). kind_at B z ≡ 2) s (send_kind B F a la k).1 in
          rw (distance_later a b (omega arith))
          (rule (record {
            from = la;
            to = lb;
            place = slot a;
            conflict = conflict_written (system B) a b (slot a) (send_slot B a k) (writing (receive_slot B b a (sym s) m));
            order = within refl (omega arith);
            between = unwritten_same (system B) (slot a) 0 a 0 b refl (λ c u v w. omega arith);
          }))

      to_send : kind_at B a ≡ 2 → a ≡ b + 1 → Edge (system B) a b (distance a b)
      to_send k e =
          let s : a ≡ suc b = omega arith in
          let r = receive_kind B F a la k in
          let j : r.0 ≡ b = omega (arith, r.1) in
          let m : kind_at B b ≡ 1 = subst (λ (z : ℕ). kind_at B z ≡ 1) j r.2 in
          rw (distance_next a b (omega arith))
          (rule (record {
            from = la;
            to = lb;
            place = slot b;
            conflict = conflict_written (system B) a b (slot b) (receive_slot B a b s k) (writing (send_slot B b m));
            order = earlier (omega arith);
            between = unwritten_next (system B) (slot b) 0 a 1 b refl
                (λ c u v w. ⊎_elim (λ t. omega (arith, t.1)) (λ t. omega (arith, t.1)) (slot_users B F c b v (writing w)))
                (λ c u v w. ⊎_elim (λ t. omega (arith, t.1)) (λ t. omega (arith, t.1)) (slot_users B F c b (omega arith) (writing w)));
          }))

  copy_edge_lem : (a b : ℕ) → a < item_count B → b < item_count B → copy_edge B a b ≡ true → Edge (system B) a b (distance a b)
  unfolding copy_edge crossed
  copy_edge_lem a b la lb h =
      let r = any_from (crossed (item_count B) (touch_on B (rank_at B a)) a b) 128 h in
      let g : ℕ = r.0 in
      let c = and-true (leb 3 (touch_on B (rank_at B a) a g + touch_on B (rank_at B a) b g)) (not (written_between (item_count B) (touch_on B (rank_at B a)) a b g)) r.2 in
      let t : 1 ≤ touch_on B (rank_at B a) a g = omega (arith, leb-true 3 (touch_on B (rank_at B a) a g + touch_on B (rank_at B a) b g) c.0, touch_most B (rank_at B a) b g) in
      crossed_edge B F (rank_at B a) g (rank_below B F a la) (touch_region B F (rank_at B a) a g la t) a b la lb r.2

  pub test_edge : (a b : ℕ) → a < item_count B → b < item_count B → edge_test B a b ≡ true → Edge (system B) a b (distance a b)
  unfolding edge_test
  test_edge a b la lb h =
      ⊎_elim
      (λ t. let s : a ≡ b = eqb-true a b t in reuse la s (distance_next a b (omega arith)))
      (λ t. ⊎_elim (paired_edge a b la lb) (copy_edge_lem a b la lb) (or_cases (paired B a b) (copy_edge B a b) t))
      (or_cases (eqb a b) (paired B a b || copy_edge B a b) h)

  module _ (few : B.regions ≤ 128) where
    dependence_test : (a b d : ℕ) → (a ≡ b → ⊥) → d ≡ distance a b → Dependence (system B) 0 a d b → edge_test B a b ≡ true
    unfolding copy_edge
    dependence_test a b d ne s e = go (place_of B F a e.place e.from e.conflict.first)
      where
        second : (k : ℕ) → e.place ≡ slot k → ((kind_at B b ≡ 1) × (b ≡ k)) ⊎ ((kind_at B b ≡ 2) × (b ≡ suc k))
        second k x = slot_users B F b k e.to (subst (λ (z : ℕ). Accesses (system B) b z) x e.conflict.second)

        go : Place B a (item_at B a) e.place → edge_test B a b ≡ true
        go (of_copy g lg x) =
            test_copy B a b (any_at (crossed (item_count B) (touch_on B (rank_at B a)) a b) 128 g (omega arith)
            (dependence_crossed B F (rank_at B a) g (rank_below B F a e.from) lg a b d s e x))
        go (of_send k x) = ⊎_elim (λ t. absurd (ne (sym t.1))) (λ t. test_paired B a b (paired_send B a b k t.1)) (second a x)
        go (of_receive k x) =
            let r = receive_kind B F a e.from k in
            ⊎_elim
            (λ t. test_paired B a b (paired_receive B a b k (omega (arith, r.1, t.1))))
            (λ t. absurd (ne (omega (arith, r.1, t.1))))
            (second (a - 1) x)

    pub edge_test_lem : (a b d : ℕ) → Edge (system B) a b d → edge_test B a b ≡ true
    edge_test_lem a b d (reuse l e h) = test_same B a b e
    edge_test_lem a b d (rule e) =
        elim (ℕ_discrete a b) [
          | yes s ↦ test_same B a b s
          | no ne ↦ dependence_test a b d ne (edge_distance_is (system B) a b d (rule e)) e
        ]
