-- A turn in code: what it leaves is what a start and a finish leave, and the set has the items that
-- are ready then.
use Prim.Native.Nat.{ℕ, suc, ◌+◌, ◌-◌, ◌≤◌, ◌<◌}
use mathlib.Core.Path.{◌≡◌, refl, sym, ◌∙◌, ap, ap₂, subst}
use mathlib.Core.Bool.{Bool, true, false, cond, ◌&&◌, ◌||◌, or-false, and-false, and-true as and-always}
use mathlib.Core.List.{List, [], ◌∷◌}
use native.Mathlib.Decide.{dec_lt, ℕ_discrete}
use native.Mathlib.Omega.{arith}
use borrow.Author.Tests.{eqb-true, ltb-true, eq-eqb, ne_eqb, lt-ltb, le-ltb}
use lib.Dec.{eqb, ltb}
use lib.ListN.{length, get_or, set, length-set}
use lib.Seq.{get_or-set_other}
use Rattle.finite.specs.Lists.{mem}
use Rattle.finite.proofs.Tests.{and-true, eqb_from}
use Rattle.finite.proofs.Update.{set_at}
use Rattle.finite.proofs.Members.{mem_append}
use Rattle.body.specs.Body.{Body}
use Rattle.body.specs.Items.{item_count, item_at, item_passes}
use Rattle.body.specs.Places.{system}
use Rattle.body.proofs.Wrapped.{passes_most}
use Rattle.edges.specs.Tests.{edge_test}
use Rattle.waits.specs.InStep.{InStep}
use Rattle.waits.proofs.Unmet.{count_done}
use Rattle.waits.proofs.InStep.{step_agree}
use Rattle.plan.specs.Limits.{max_passes}
use Rattle.plan.specs.Sizes.{max_items, count_words, first_finished, first_unmet, first_held}
use Rattle.graph.specs.Answers.{plan_body}
use Rattle.masks.specs.Masks.{in_mask, Entered}
use Rattle.steps.specs.State.{done_by, unmet_by}
use Rattle.steps.specs.Answers.{Left, started, finished}
use Rattle.steps.specs.Calls.{lent, lent_by}
use Rattle.steps.specs.Turns.{is_ready}
use Rattle.prepared.specs.Tables.{sources_in, target_count, target_in}
use Rattle.prepared.specs.Steps.{lowered_by, freed_by, started_in, again, counts_in, finished_in, freed_in}
use Rattle.prepared.specs.Laws.{Prepared}
use Rattle.prepared.proofs.Lowering.{among, lowered_length, lowered_before, lowered_at, mem_freed}
use Rattle.prepared.proofs.Usable.{item_small, targets_small, target_small, apart, targets_among, again_is}
use Rattle.prepared.proofs.Starting.{started_same}
use Rattle.prepared.proofs.Finishing.{finished_same}
use Rattle.engine.specs.Usable.{Sized, Startable, Finishable, Apart}
use Rattle.values.proofs.Plans.{passes_few, plan_long, plan_body_lem, plan_formed}
use Rattle.runs.specs.Turns.{ReadyBut, Turn}

module _ (w tables : List ℕ) (P : Prepared w tables) (a : ℕ) (C W words : List ℕ) (X : Turn w a C W words) where
  abbrev B : Body
  B = plan_body w

  few : a < max_items
  few = item_small w tables P a X.below

  own_number : unmet_by C a ≡ 0
  unfolding is_ready
  own_number = eqb-true (unmet_by C a) 0 (and-true (ltb (done_by C a) (item_passes B a)) (eqb (unmet_by C a) 0) X.ready).1

  pass_left : done_by C a < item_passes B a
  unfolding is_ready
  pass_left = ltb-true (done_by C a) (item_passes B a) (and-true (ltb (done_by C a) (item_passes B a)) (eqb (unmet_by C a) 0) X.ready).0

  done_small : done_by C a < max_passes
  done_small =
      let p : B.passes ≤ max_passes = subst (λ (x : Body). x.passes ≤ max_passes) (sym (plan_body_lem w X.plan)) (passes_few w X.plan.formed) in
      omega (arith, pass_left, p, (passes_most B (item_at B a)).0)

  sized : (C1 W1 : List ℕ) → length C1 ≡ length C → length W1 ≡ length W → Sized tables C1 W1 a
  sized C1 W1 e f =
      record {
        long_tables = P.long;
        long_counts = omega (arith, e, X.idle.long_counts);
        long_values = omega (arith, f, X.idle.long_values);
        below = few;
      }

  pub startable : Startable tables C W a
  startable =
      record {
        sized = sized C W refl refl;
        row = record { few = P.read_few a X.below; below = λ k h. P.read_below a k X.below h };
        small = omega (arith, X.idle.idle a X.below, done_small);
      }

  -- an item that waits has a pass left
  waits_left : (b : ℕ) → b < item_count B → (unmet_by C b ≡ 0 → ⊥) → done_by C b < item_passes B b
  waits_left b lb n =
      elim (dec_lt (done_by C b) (item_passes B b)) [
        | yes l ↦ l
        | no l ↦ absurd (n (X.idle.fresh b lb ∙ count_done (system B) (edge_test B) (done_by C) b (omega arith)))
      ]

  pub out : in_mask words a ≡ false
  out = X.set.each a few ∙ rw (eq-eqb a a refl) (and-false (ltb a (item_count B) && is_ready B C a))

  -- after the start
  module _ (word : ℕ) (C1 W1 : List ℕ) (begun : ◌≡◌ {A = Left} (record { refusal = 0; word = word; counts = C1; values = W1 }) (started_in w tables C W a)) where
    begun_is : ◌≡◌ {A = Left} (record { refusal = 0; word = word; counts = C1; values = W1 }) (started w C W a)
    begun_is = begun ∙ started_same w tables C W (plan_long w X.plan) (plan_formed w X.plan) P a X.below

    counts_begun : C1 ≡ set C a (suc (get_or C a 0))
    counts_begun = ap (λ (r : Left). r.counts) begun_is

    size_begun : length C1 ≡ length C
    size_begun = ap length counts_begun ∙ length-set C a (suc (get_or C a 0))

    long_begun : count_words ≤ length C1
    long_begun = omega (arith, size_begun, X.idle.long_counts)

    kept : (i : ℕ) → max_items ≤ i → get_or C1 i 0 ≡ get_or C i 0
    kept i l = ap (λ (x : List ℕ). get_or x i 0) counts_begun ∙ get_or-set_other C a i (suc (get_or C a 0)) 0 (λ e. omega (arith, few))

    pub finishable : Finishable tables C1 W1 a
    finishable =
        record {
          sized = sized C1 W1 size_begun (ap (λ (r : Left). length r.values) begun_is ∙ length-set W (first_held + a) (started w C W a).word);
          row = record { few = P.written_few a X.below; below = λ k h. P.written_below a k X.below h };
          targets = record { ends = P.ends a X.below; few = targets_small w tables P a X.below; below = target_small w tables P a X.below };
          small = omega (arith, kept (first_finished + a) (omega arith), done_small);
        }

    pub own_begun : unmet_by C1 a ≡ 0
    own_begun = kept (first_unmet + a) (omega arith) ∙ own_number

    pub apart_begun : Apart C1 words
    unfolding is_ready
    apart_begun b l n =
        let e : eqb (unmet_by C b) 0 ≡ false = ne_eqb (unmet_by C b) 0 (λ z. n (kept (first_unmet + b) (omega arith) ∙ z)) in
        X.set.each b l ∙ rw (e, and-false (ltb (done_by C b) (item_passes B b)), and-false (ltb b (item_count B)))

    steps_begun : InStep (system B) (edge_test B) (done_by C1) (unmet_by C1) a
    steps_begun =
        step_agree (system B) (edge_test B) (done_by C) (done_by C1) (unmet_by C) (unmet_by C1) a X.below
        (λ b l. sym (kept (first_finished + b) (omega arith))) (λ b l. sym (kept (first_unmet + b) (omega arith))) X.in_step

    -- after the finish
    module _ (word' : ℕ) (C3 W3 words3 : List ℕ) (ended : ◌≡◌ {A = Left} (record { refusal = 0; word = word'; counts = C3; values = W3 }) (finished_in w tables C1 W1 a))
        (frees : Entered words (λ b. mem b (freed_in w tables C1 W1 a)) words3) where
      pub turn_left : lent C3 W3 ≡ lent_by (finished w (started w C W a).counts (started w C W a).values a)
      turn_left =
          ap (λ (r : Left). lent_by r) (ended ∙ finished_same w tables C1 W1 (plan_long w X.plan) (plan_formed w X.plan) P long_begun a X.below steps_begun)
          ∙ ap (λ (r : Left). lent_by (finished w r.counts r.values a)) begun_is

      abbrev f : ℕ → ℕ
      f = target_in tables a

      abbrev k : ℕ
      k = target_count tables a

      abbrev next : Bool
      next = again w tables C1 W1 a

      abbrev C2 : List ℕ
      C2 = lowered_by f k C1

      abbrev own : ℕ
      own = cond next (sources_in tables a) 0

      next_is : next ≡ ltb (suc (done_by C a)) (item_passes B a)
      next_is = again_is w tables P a X.below (plan_long w X.plan) (plan_formed w X.plan) C1 W1 ∙ ap (λ (x : ℕ). ltb (suc x) (item_passes B a)) (kept (first_finished + a) (omega arith))

      counts_ended : C3 ≡ set (set C2 (first_unmet + a) own) (first_finished + a) (suc (done_by C1 a))
      unfolding finished_in counts_in
      counts_ended = ap (λ (r : Left). r.counts) ended

      size_lowered : length C2 ≡ length C1
      size_lowered = lowered_length f k C1

      done_lowered : (b : ℕ) → b < max_items → done_by C2 b ≡ done_by C b
      done_lowered b l = lowered_before f k C1 (first_finished + b) (omega arith) ∙ kept (first_finished + b) (omega arith)

      number_lowered : (b : ℕ) → b < max_items → unmet_by C2 b ≡ cond (among f k b) (unmet_by C b - 1) (unmet_by C b)
      number_lowered b l =
          lowered_at f k C1 b (apart w tables P a X.below C1 long_begun) (omega (arith, long_begun))
          ∙ ap (λ (x : ℕ). cond (among f k b) (x - 1) x) (kept (first_unmet + b) (omega arith))

      done_after : (b : ℕ) → b < max_items → done_by C3 b ≡ cond (eqb b a) (suc (done_by C a)) (done_by C b)
      done_after b l =
          ap (λ (x : List ℕ). done_by x b) counts_ended
          ∙ (set_at (set C2 (first_unmet + a) own) (first_finished + a) (first_finished + b) (suc (done_by C1 a)) 0
          (omega (arith, few, size_lowered, long_begun, length-set C2 (first_unmet + a) own))
          ∙ rw (eqb_from first_finished b a, get_or-set_other C2 (first_unmet + a) (first_finished + b) own 0 (λ e. omega arith), kept (first_finished + a) (omega arith), done_lowered b l))

      number_after : (b : ℕ) → b < max_items → unmet_by C3 b ≡ cond (eqb b a) own (unmet_by C2 b)
      number_after b l =
          ap (λ (x : List ℕ). unmet_by x b) counts_ended
          ∙ (get_or-set_other (set C2 (first_unmet + a) own) (first_finished + a) (first_unmet + b) (suc (done_by C1 a)) 0 (λ e. omega (arith, few))
          ∙ (set_at C2 (first_unmet + a) (first_unmet + b) own 0 (omega (arith, few, size_lowered, long_begun))
          ∙ ap (λ (t : Bool). cond t own (unmet_by C2 b)) (eqb_from first_unmet b a)))

      -- the items that the finish makes ready
      freed_is : (b : ℕ) → b < max_items → mem b (freed_in w tables C1 W1 a) ≡ ((among f k b && eqb (unmet_by C b) 1) || ((next && eqb (sources_in tables a) 0) && eqb b a))
      unfolding freed_in mem
      freed_is b l =
          mem_append b (freed_by f k C1) (cond (next && eqb (sources_in tables a) 0) (a ∷ []) [])
          ∙ ap₂ ◌||◌
          (mem_freed f k C1 (apart w tables P a X.below C1 long_begun) b ∙ ap (λ (x : ℕ). among f k b && eqb x 1) (kept (first_unmet + b) (omega arith)))
          (alone (next && eqb (sources_in tables a) 0))
        where
          alone : (t : Bool) → mem b (cond t (a ∷ []) []) ≡ (t && eqb b a)
          alone true = or-false (eqb b a)
          alone false = refl

      -- the item itself
      own_after : in_mask words3 a ≡ is_ready B C3 a
      unfolding is_ready
      own_after =
          let none : eqb (unmet_by C a) 1 ≡ false = ne_eqb (unmet_by C a) 1 (λ e. omega (arith, own_number)) in
          let first : in_mask words3 a ≡ (next && eqb (sources_in tables a) 0) =
          frees.each a few ∙ rw (out, freed_is a few, none, and-false (among f k a), eq-eqb a a refl) (and-always (next && eqb (sources_in tables a) 0)) in
          let last : is_ready B C3 a ≡ (next && eqb own 0) = rw (done_after a few, number_after a few, eq-eqb a a refl) (ap (λ (t : Bool). t && eqb own 0) (sym next_is)) in
          first ∙ (side next ∙ sym last)
        where
          side : (t : Bool) → (t && eqb (sources_in tables a) 0) ≡ (t && eqb (cond t (sources_in tables a) 0) 0)
          side true = refl
          side false = refl

      -- another, with a pass left or not, before and after its number is lowered
      lowered_ready : (e l : Bool) (n : ℕ) → ((n ≡ 0 → ⊥) → l ≡ true) → ((l && eqb n 0) || (e && eqb n 1)) ≡ (l && eqb (cond e (n - 1) n) 0)
      lowered_ready false l n h = or-false (l && eqb n 0)
      lowered_ready true l n h =
          elim (ℕ_discrete n 0) [
            | yes z ↦ rw z (or-false (l && true))
            | no z ↦ rw (h z, ne_eqb n 0 z)
                (elim (ℕ_discrete n 1) [
                  | yes o ↦ rw o
                  | no o ↦ rw (ne_eqb n 1 o) (sym (ne_eqb (n - 1) 0 (λ q. omega arith)))
                ])
          ]

      other_after : (b : ℕ) → b < max_items → (b ≡ a → ⊥) → in_mask words3 b ≡ (ltb b (item_count B) && is_ready B C3 b)
      unfolding is_ready
      other_after b l ne =
          let freed : mem b (freed_in w tables C1 W1 a) ≡ (among f k b && eqb (unmet_by C b) 1) =
          freed_is b l ∙ rw (ne_eqb b a ne, and-false (next && eqb (sources_in tables a) 0)) (or-false (among f k b && eqb (unmet_by C b) 1)) in
          frees.each b l
          ∙ elim (dec_lt b (item_count B)) [
            | yes q ↦ rw (freed, X.set.each b l, ne_eqb b a ne, lt-ltb b (item_count B) q, done_after b l, number_after b l, ne_eqb b a ne, number_lowered b l)
                (ap (λ (t : Bool). t || (among f k b && eqb (unmet_by C b) 1)) (and-always (ltb (done_by C b) (item_passes B b) && eqb (unmet_by C b) 0))
                ∙ lowered_ready (among f k b) (ltb (done_by C b) (item_passes B b)) (unmet_by C b) (λ n. lt-ltb (done_by C b) (item_passes B b) (waits_left b q n)))
            | no q ↦ rw (freed, X.set.each b l, targets_among w tables P a X.below b, le-ltb b (item_count B) (omega arith))
          ]

      pub set_after : ReadyBut w C3 max_items words3
      set_after =
          record {
            size = frees.size;
            each = λ b l. each b l ∙ sym (rw (ne_eqb b max_items (λ e. omega arith)) (and-always (ltb b (item_count B) && is_ready B C3 b)));
          }
        where
          each : (b : ℕ) → b < max_items → in_mask words3 b ≡ (ltb b (item_count B) && is_ready B C3 b)
          each b l =
              elim (ℕ_discrete b a) [
                | yes e ↦ subst (λ (x : ℕ). in_mask words3 x ≡ (ltb x (item_count B) && is_ready B C3 x)) (sym e)
                    (own_after ∙ sym (ap (λ (t : Bool). t && is_ready B C3 a) (lt-ltb a (item_count B) X.below)))
                | no e ↦ other_after b l e
              ]
