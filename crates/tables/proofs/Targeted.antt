-- Targets put row by row, and sources counted along.
use Prim.Native.Nat.{ℕ, zero, suc, ◌+◌, ◌-◌, ◌≤◌, ◌<◌}
use mathlib.Core.Path.{◌≡◌, refl, sym, ◌∙◌, ap, ap₂, subst}
use mathlib.Core.Bool.{Bool, true, false, cond, not, ◌&&◌, and-true, and-false}
use mathlib.Core.List.{List, [], ◌∷◌}
use native.Mathlib.Decide.{dec_lt, ℕ_discrete}
use native.Mathlib.Omega.{arith}
use borrow.Author.Tests.{eq-eqb, ne_eqb}
use lib.Dec.{eqb}
use lib.ListN.{length, get_or, take, drop, set, replicate, length-set, length-replicate, get_or-replicate, get_or-eq_default}
use lib.Seq.{length-take-le, get_or-take, get_or-set_same, get_or-set_other, take_at}
use Rattle.finite.specs.Below.{any_below, count_below}
use Rattle.finite.specs.Lists.{tabulate, collect}
use Rattle.finite.specs.Put.{Added, RoomAt}
use Rattle.finite.proofs.Below.{any_at, count_none, count_next, one_at_most}
use Rattle.finite.proofs.Lists.{length_tabulate, get_d_tabulate}
use Rattle.finite.proofs.Collect.{collect_ext, collect_room, gather_collect}
use Rattle.finite.proofs.Puts.{added_none, added_same, added_put, room_same, collect_fits, collect_more, collect_done}
use Rattle.finite.proofs.Replaced.{list_ext}
use Rattle.finite.proofs.Tests.{not_both, eqb_comm}
use Rattle.finite.proofs.Update.{set_at}
use Rattle.body.specs.Body.{Body}
use Rattle.body.specs.Items.{item_count}
use Rattle.body.specs.Places.{system}
use Rattle.edges.specs.Tests.{edge_test}
use Rattle.waits.specs.InStep.{sources_of}
use Rattle.plan.specs.Sizes.{max_items, max_edges}
use Rattle.plan.specs.Layout.{body_of}
use Rattle.graph.specs.Table.{Graph}
use Rattle.graph.proofs.Small.{plan_fits, plan_small}
use Rattle.walk.specs.Rows.{Marks}
use Rattle.walk.proofs.Marked.{edge_marked}
use Rattle.prepared.specs.Tables.{leads, targets_of, targets_before}
use Rattle.prepared.proofs.Targets.{targets_most}
use Rattle.tables.specs.Targets.{is_marked, entry_of, row_of, Passed, Counted, Countable, RowPut, SourcesBefore}

-- the loop of `put_row`, its counts
module _ (p : ℕ → Bool) (xs : List ℕ) where
  pub counted_none : Counted p 0 xs xs
  counted_none = record { size = refl; each = λ b l. absurd (omega arith); behind = λ b l. refl }

  module _ (b : ℕ) (mid : List ℕ) (P : Counted p b xs mid) where
    pub counted_more : (out : List ℕ) → p b ≡ true → b < length mid → out ≡ set mid b (get_or mid b 0 + 1) → Counted p (b + 1) xs out
    counted_more out t l e =
        rw e record {
          size = length-set mid b (get_or mid b 0 + 1) ∙ P.size;
          each = each;
          behind = λ d m. get_or-set_other mid b d (get_or mid b 0 + 1) 0 (λ z. omega arith) ∙ P.behind d (omega arith);
        }
      where
        each : (d : ℕ) → d < b + 1 → get_or (set mid b (get_or mid b 0 + 1)) d 0 ≡ get_or xs d 0 + cond (p d) 1 0
        each d m =
            elim (ℕ_discrete d b) [
              | yes z ↦ rw (z, t) (get_or-set_same mid b (get_or mid b 0 + 1) 0 l ∙ ap (λ (x : ℕ). x + 1) (P.behind b (omega arith)))
              | no z ↦ get_or-set_other mid b d (get_or mid b 0 + 1) 0 z ∙ P.each d (omega arith)
            ]

    pub counted_other : p b ≡ false → Counted p (b + 1) xs mid
    counted_other t = record { size = P.size; each = each; behind = λ d m. P.behind d (omega arith) }
      where
        each : (d : ℕ) → d < b + 1 → get_or mid d 0 ≡ get_or xs d 0 + cond (p d) 1 0
        each d m =
            elim (ℕ_discrete d b) [
              | yes z ↦ rw (z, t) (P.behind b (omega arith) ∙ omega arith)
              | no z ↦ P.each d (omega arith)
            ]

    pub counted_done : (n : ℕ) → n ≤ b → b ≤ n → Counted p n xs mid
    counted_done n l m = let e : b ≡ n = omega arith in subst (λ (k : ℕ). Counted p k xs mid) e P

-- its targets
module _ (marks : List ℕ) (b : ℕ) where
  marked_in : get_or marks b 0 ≡ 1 → is_marked marks b ≡ true
  unfolding is_marked
  marked_in h = eq-eqb (get_or marks b 0) 1 h

  marked_out : (get_or marks b 0 ≡ 1 → ⊥) → is_marked marks b ≡ false
  unfolding is_marked
  marked_out h = ne_eqb (get_or marks b 0) 1 h

  entry_in : get_or marks b 0 ≡ 1 → entry_of marks b ≡ b ∷ []
  unfolding entry_of
  entry_in h = rw (marked_in h)

  entry_out : (get_or marks b 0 ≡ 1 → ⊥) → entry_of marks b ≡ []
  unfolding entry_of
  entry_out h = rw (marked_out h)

-- `skip_blocks` and `next_marked`
module _ (marks : List ℕ) (b n : ℕ) where
  module _ (r : ℕ) (P : Passed marks b n r) where
    pub passed_block : (t : Bool) → t ≡ any_below 16 (λ k. is_marked marks (r + k)) → t ≡ false → r + 16 ≤ n → Passed marks b n (r + 16)
    passed_block t e f l =
        record {
          least = omega (arith, P.least);
          most = l;
          none = λ k u v o.
              elim (dec_lt k r) [
                | yes m ↦ P.none k u m o
                | no m ↦
                    let z : r + (k - r) ≡ k = omega arith in
                    let q : get_or marks (r + (k - r)) 0 ≡ 1 = rw z o in
                    not_both (any_at (λ j. is_marked marks (r + j)) 16 (k - r) (omega arith) (marked_in marks (r + (k - r)) q)) (sym e ∙ f)
              ];
        }

-- b items are passed
pub record RowTo (marks : List ℕ) (at : ℕ) (targets sources : List ℕ) (b end : ℕ) (targets' sources' : List ℕ) : Type 0 where
  pub put : Added (collect b (entry_of marks)) at targets end targets'
  pub counted : Counted (is_marked marks) b sources sources'

row_other : (marks : List ℕ) (at : ℕ) (targets sources : List ℕ) (b end : ℕ) (targets' sources' : List ℕ) →
    RowTo marks at targets sources b end targets' sources' → (get_or marks b 0 ≡ 1 → ⊥) → RowTo marks at targets sources (b + 1) end targets' sources'
row_other marks at targets sources b end targets' sources' P o =
    record {
      put = collect_more (entry_of marks) at b targets end targets' end targets' P.put (rw (entry_out marks b o) added_none);
      counted = counted_other (is_marked marks) sources b sources' P.counted (marked_out marks b o);
    }

module _ (marks : List ℕ) (at : ℕ) (targets sources : List ℕ) where
  pub row_none : RowTo marks at targets sources 0 at targets sources
  unfolding collect
  row_none = record { put = added_none; counted = counted_none (is_marked marks) sources }

  module _ (b end : ℕ) (targets' sources' : List ℕ) (P : RowTo marks at targets sources b end targets' sources') where
    pub row_fits : (n : ℕ) → b < n → get_or marks b 0 ≡ 1 → RoomAt (row_of marks n) at targets → RoomAt (b ∷ []) end targets'
    unfolding row_of
    row_fits n l o h = room_same (entry_in marks b o) (collect_fits (entry_of marks) at n b targets end targets' h P.put l)

    pub row_size : length sources' ≡ length sources
    row_size = P.counted.size

    pub row_few : Countable sources → get_or sources' b 0 ≤ max_items
    row_few K = omega (arith, P.counted.behind b (omega arith), K.few b)

    pub row_more : (r : ℕ) (targets'' sources'' : List ℕ) → get_or marks b 0 ≡ 1 → b < length sources → Added (b ∷ []) end targets' r targets'' →
        sources'' ≡ set sources' b (get_or sources' b 0 + 1) → RowTo marks at targets sources (b + 1) r targets'' sources''
    row_more r targets'' sources'' o l k e =
        record {
          put = collect_more (entry_of marks) at b targets end targets' r targets'' P.put (rw (entry_in marks b o) k);
          counted = counted_more (is_marked marks) sources b sources' P.counted sources'' (marked_in marks b o) (omega (arith, row_size)) e;
        }

    -- none of the next d is marked
    row_pass : (d : ℕ) → ((k : ℕ) → b ≤ k → k < b + d → get_or marks k 0 ≡ 1 → ⊥) → RowTo marks at targets sources (b + d) end targets' sources'
    row_pass zero h = let e : b + 0 ≡ b = omega arith in rw e P
    row_pass (suc d) h =
        let e : b + suc d ≡ (b + d) + 1 = omega arith in
        rw e (row_other marks at targets sources (b + d) end targets' sources' (row_pass d (λ k u v. h k u (omega arith))) (h (b + d) (omega arith) (omega arith)))

    pub row_skip : (n r : ℕ) → Passed marks b n r → RowTo marks at targets sources r end targets' sources'
    row_skip n r Q =
        let e : b + (r - b) ≡ r = omega (arith, Q.least) in
        subst (λ (k : ℕ). RowTo marks at targets sources k end targets' sources') e (row_pass (r - b) (λ k u v. Q.none k u (omega arith)))

    pub row_done : (n : ℕ) → n ≤ b → b ≤ n → RowPut (row_of marks n) (is_marked marks) n at targets sources end targets' sources'
    unfolding row_of
    row_done n l m =
        record {
          put = collect_done (entry_of marks) at n b targets end targets' P.put l m;
          counted = counted_done (is_marked marks) sources b sources' P.counted n l m;
        }

-- the marks of item a without its own are its targets
module _ (B : Body) (n a : ℕ) (marks : List ℕ) (M : Marks B n a false marks) (l : a < max_items) where
  mark_leads : (b : ℕ) → b < n → is_marked (set marks a 0) b ≡ leads B a b
  unfolding is_marked leads
  mark_leads b m =
      ap (λ (x : ℕ). eqb x 1) (set_at marks a b 0 0 (omega (arith, M.room)))
      ∙ (go (eqb b a) ∙ ap₂ (λ (t u : Bool). t && not u) (edge_marked B n a false marks M b m) (eqb_comm b a))
    where
      go : (t : Bool) → eqb (cond t 0 (get_or marks b 0)) 1 ≡ (eqb (get_or marks b 0) 1 && not t)
      go true = sym (and-false (eqb (get_or marks b 0) 1))
      go false = sym (and-true (eqb (get_or marks b 0) 1))

  pub row_targets : n ≡ item_count B → row_of (set marks a 0) n ≡ targets_of B a
  unfolding row_of entry_of targets_of
  row_targets e =
      collect_ext n (entry_of (set marks a 0)) (λ b. cond (leads B a b) (b ∷ []) []) (λ b m. ap (λ (t : Bool). cond t (b ∷ []) []) (mark_leads b m))
      ∙ (ap (λ (k : ℕ). collect k (λ b. cond (leads B a b) (b ∷ []) [])) e ∙ sym (gather_collect (item_count B) (leads B a) (λ b. b)))

  pub from_fits : (at : ℕ) (out : List ℕ) → n ≡ item_count B → RoomAt (targets_of B a) at out → RoomAt (row_of (set marks a 0) n) at out
  from_fits at out e h = room_same (sym (row_targets e)) h

  pub from_put : (at : ℕ) (targets sources : List ℕ) (r : ℕ) (targets' sources' : List ℕ) → n ≡ item_count B →
      RowPut (row_of (set marks a 0) n) (is_marked (set marks a 0)) n at targets sources r targets' sources' →
      RowPut (targets_of B a) (leads B a) n at targets sources r targets' sources'
  from_put at targets sources r targets' sources' e P =
      record {
        put = added_same (row_targets e) P.put;
        counted =
            record {
              size = P.counted.size;
              each = λ b m. P.counted.each b m ∙ ap (λ (t : Bool). get_or sources b 0 + cond t 1 0) (mark_leads b m);
              behind = P.counted.behind;
            };
      }

-- the loop of `list_targets`: targets, starts and sources of the first a items
module _ (B : Body) (n : ℕ) where
  pub sources_none : (sources : List ℕ) → sources ≡ replicate max_items 0 → SourcesBefore B n 0 sources
  sources_none sources e = rw e record { size = length-replicate {A = ℕ} max_items 0; each = λ b l. none b ∙ count_none (λ c. leads B c b); few = λ b. omega (arith, none b) }
    where
      none : (b : ℕ) → ◌≡◌ {A = ℕ} (get_or (replicate max_items 0) b 0) 0
      none b =
          elim (dec_lt b max_items) [
            | yes l ↦ get_or-replicate {A = ℕ} max_items b 0 0 l
            | no l ↦ get_or-eq_default (replicate {A = ℕ} max_items 0) 0 {n = b} (omega (arith, length-replicate {A = ℕ} max_items 0))
          ]

  pub sources_more : (a : ℕ) (mid out : List ℕ) → SourcesBefore B n a mid → Counted (leads B a) n mid out → SourcesBefore B n (a + 1) out
  sources_more a mid out S C =
      record {
        size = C.size ∙ S.size;
        each = λ b l. C.each b l ∙ (ap (λ (x : ℕ). x + cond (leads B a b) 1 0) (S.each b l) ∙ sym (count_next (λ c. leads B c b) a));
        few = λ b.
            elim (dec_lt b n) [
              | yes l ↦ omega (arith, C.each b l, S.few b, one_at_most (leads B a b))
              | no l ↦ omega (arith, C.behind b (omega arith), S.few b)
            ];
      }

  pub sources_countable : (a : ℕ) (sources : List ℕ) → SourcesBefore B n a sources → a ≤ max_items → Countable sources
  sources_countable a sources S l = record { size = S.size; few = λ b. omega (arith, S.few b) }

  pub sources_done : (a : ℕ) (sources : List ℕ) → SourcesBefore B n a sources → n ≡ item_count B → n ≤ max_items → n ≤ a → a ≤ n →
      take n sources ≡ tabulate n (sources_of (system B) (edge_test B))
  unfolding sources_of leads
  sources_done a sources S e k l m =
      let z : a ≡ item_count B = omega arith in
      let long : length (take n sources) ≡ n = length-take-le n sources (omega (arith, S.size)) in
      list_ext (take n sources) (tabulate n (sources_of (system B) (edge_test B))) (long ∙ sym (length_tabulate (sources_of (system B) (edge_test B)) n))
      (λ b o.
      let q : b < n = omega (arith, long) in
      get_or-take n sources b 0 q
      ∙ (S.each b q ∙ (ap (λ (j : ℕ). count_below j (λ c. leads B c b)) z ∙ sym (get_d_tabulate (sources_of (system B) (edge_test B)) n b 0 q))))

-- what all targets need
module _ (w items : List ℕ) (n : ℕ) (G : Graph w items n) where
  all_few : length (collect n (targets_of (body_of w))) ≤ max_edges
  unfolding targets_before
  all_few =
      omega (
        arith,
        ap (λ (k : ℕ). length (collect k (targets_of (body_of w)))) G.count,
        targets_most (body_of w) (plan_fits w G.formed) (plan_small w G.formed),
      )

  module _ (out : List ℕ) (long : length out ≡ max_edges) where
    pub all_room : RoomAt (collect n (targets_of (body_of w))) 0 out
    all_room = record { fits = omega (arith, all_few) }

    module _ (a at : ℕ) (mid : List ℕ) (P : Added (collect a (targets_of (body_of w))) 0 out at mid) where
      pub next_fits : a < n → RoomAt (targets_of (body_of w) a) at mid
      next_fits l = collect_fits (targets_of (body_of w)) 0 n a out at mid all_room P l

      pub targets_few : a ≤ n → at ≤ max_edges
      targets_few l =
          elim (dec_lt a n) [
            | yes k ↦ omega (arith, P.end, collect_room n a (targets_of (body_of w)) k, all_few)
            | no k ↦ (let e : a ≡ n = omega arith in omega (arith, P.end, ap (λ (j : ℕ). length (collect j (targets_of (body_of w)))) e, all_few))
          ]

      pub start_at_lem : (v : ℕ) → v ≡ at → v ≡ length (targets_before (body_of w) a)
      unfolding targets_before
      start_at_lem v e = omega (arith, P.end)

      pub targets_listed : n ≤ a → a ≤ n → take at mid ≡ targets_before (body_of w) n
      unfolding targets_before
      targets_listed l m =
          let e : a ≡ n = omega arith in
          let q = added_put (omega (arith, P.end, targets_few m)) P in
          ap (take at) q.begins
          ∙ (take_at (collect a (targets_of (body_of w))) (drop (length (collect a (targets_of (body_of w)))) out) at (sym q.count)
          ∙ ap (λ (j : ℕ). collect j (targets_of (body_of w))) e)
