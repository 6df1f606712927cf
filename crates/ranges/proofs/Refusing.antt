-- The ways to what refuses a step by tables, as code takes them.
use Prim.Native.Nat.{ℕ, ◌+◌, ◌-◌, ◌≤◌, ◌<◌}
use mathlib.Core.Path.{◌≡◌, refl, sym, ◌∙◌, ap}
use mathlib.Core.Bool.{Bool, true, false, cond, not, ◌&&◌, ◌||◌, and-true as and-always, and-false, or-false}
use mathlib.Core.Logic.{◌⊎◌, inl, inr}
use mathlib.Core.List.{List, []}
use native.Mathlib.Omega.{arith}
use borrow.Author.Tests.{eqb-true, ltb-true, leb-true, eq-eqb, ne_eqb, lt-ltb, le-ltb, le-leb, lt-leb, not-true, not-false}
use lib.Dec.{eqb, ltb, leb}
use lib.ListN.{length, get_or}
use lib.Seq.{get_or-take}
use Rattle.finite.specs.Below.{all_below}
use Rattle.finite.proofs.Tests.{true_or_false, and-true, and_intro, or_right, not_both, test_ext, false_of}
use Rattle.body.specs.Items.{item_count}
use Rattle.plan.specs.Limits.{max_passes}
use Rattle.plan.specs.Layout.{plan_words}
use Rattle.plan.specs.Sizes.{max_items, max_edges, count_words, value_words}
use Rattle.plan.specs.Code.{code_fewer}
use Rattle.graph.specs.Answers.{refusal_of, plan_body}
use Rattle.steps.specs.State.{state_of, unmet_by}
use Rattle.steps.specs.Answers.{count_ok, tests_by, finish_tests}
use Rattle.prepared.specs.Tables.{prepared_words, first_read, first_write, items_in, code_in, sources_in, start_in, target_count, target_in}
use Rattle.prepared.specs.Steps.{own_in, item_ok, places_ok, targets_ok, start_ok, finish_ok}
use Rattle.prepared.specs.Laws.{Prepared}
use Rattle.prepared.proofs.Usable.{reads_ok, writes_ok, targets_ok_lem}
use Rattle.ranges.specs.Judged.{first_refusal, all_long, start_refusal, finish_refusal}
use Rattle.ranges.specs.declared.Item.{Item}
use Rattle.ranges.specs.Numbers.{lengths_ok, early_refusal, Within, item_in, counted_ok, range_ok, running_ok, start_by, finish_by}

-- before the words of the item

pub lengths_long : (plan tables counts values : ℕ) → lengths_ok plan tables counts values ≡ true →
    (plan_words ≤ plan) × (prepared_words ≤ tables) × (count_words ≤ counts) × (value_words ≤ values)
lengths_long plan tables counts values e =
    let u = and-true (leb plan_words plan && (leb count_words counts && leb value_words values)) (leb prepared_words tables) e in
    let v = and-true (leb plan_words plan) (leb count_words counts && leb value_words values) u.0 in
    let x = and-true (leb count_words counts) (leb value_words values) v.1 in
    (leb-true _ _ v.0, leb-true _ _ u.1, leb-true _ _ x.0, leb-true _ _ x.1)

module _ (plan : ℕ) (tables : List ℕ) (counts values a : ℕ) where
  -- the answer is r
  abbrev pub Early : ℕ → Type 0
  Early r = (r ≡ early_refusal (lengths_ok plan (length tables) counts values) (items_in tables) a) × (r ≡ 0 → Within plan tables counts a)

  module _ (long : Bool) (is : long ≡ lengths_ok plan (length tables) counts values) where
    pub early_short : not long ≡ true → Early 11
    unfolding early_refusal
    early_short h = (rw (sym is ∙ not-true long h), λ z. absurd (omega arith))

    module _ (h : not long ≡ false) where
      all_long_lem : lengths_ok plan (length tables) counts values ≡ true
      all_long_lem = sym is ∙ not-false long h

      pub long_slices_lem : (plan_words ≤ plan) × (prepared_words ≤ length tables) × (count_words ≤ counts) × (value_words ≤ values)
      long_slices_lem = lengths_long plan (length tables) counts values all_long_lem

      module _ (n : ℕ) (e : n ≡ items_in tables) where
        pub early_many : max_items < n → Early 12
        unfolding early_refusal
        early_many k = (rw (all_long_lem, lt-leb (items_in tables) max_items (omega arith)), λ z. absurd (omega arith))

        module _ (few : n ≤ max_items) where
          pub early_beyond : n ≤ a → Early 13
          unfolding early_refusal
          early_beyond k = (rw (all_long_lem, le-leb (items_in tables) max_items (omega arith), le-ltb a (items_in tables) (omega arith)), λ z. absurd (omega arith))

          pub early_none : a < n → Early 0
          unfolding early_refusal
          early_none k = (
            rw (all_long_lem, le-leb (items_in tables) max_items (omega arith), lt-ltb a (items_in tables) (omega arith)),
            λ z. record {
              long_plan_lem = long_slices_lem.0;
              long_tables = long_slices_lem.1;
              long_counts = long_slices_lem.2;
              few = omega arith;
              below = omega arith;
            },
          )

-- the counts of passes

module _ (own started finished : ℕ) where
  pub counted_done : own ≤ finished → (eqb finished own && eqb started finished) ≡ counted_ok own started finished
  counted_done h = rw (le-ltb finished own h, and-false (eqb started (finished + 1)), or-false (eqb started finished), same)
    where
      same : leb finished own ≡ eqb finished own
      same = test_ext (leb finished own) (eqb finished own) (λ e. eq-eqb finished own (omega (arith, leb-true finished own e))) (λ e. le-leb finished own (omega (arith, eqb-true finished own e)))

-- an item's numbers

module _ (x : Item) where
  abbrev is_ready : Bool
  is_ready = (eqb x.unmet 0 && eqb x.started x.finished) && (ltb x.finished x.own && leb x.passes max_passes)

  -- a start that nothing refuses
  pub start_ready : is_ready ≡ true → 0 ≡ start_by x
  unfolding start_by
  start_ready h =
      let u = and-true (eqb x.unmet 0 && eqb x.started x.finished) (ltb x.finished x.own && leb x.passes max_passes) h in
      let v = and-true (eqb x.unmet 0) (eqb x.started x.finished) u.0 in
      let w = and-true (ltb x.finished x.own) (leb x.passes max_passes) u.1 in
      let l : x.finished < x.own = ltb-true _ _ w.0 in
      let z : x.unmet ≡ 0 = eqb-true _ _ v.0 in
      rw (w.1, le-leb x.finished x.own (omega arith), v.1, le-leb x.unmet x.items (omega arith), w.0, v.0)

  pub running_none : x.own ≤ x.finished → false ≡ running_ok x
  running_none h = rw (le-ltb x.finished x.own h)

  -- a finish that nothing refuses
  pub finish_running : (runs : Bool) → runs ≡ running_ok x → runs ≡ true → 0 ≡ finish_by x
  unfolding finish_by
  finish_running runs r h =
      let u = and-true (ltb x.finished x.own) (eqb x.started (x.finished + 1) && (leb x.unmet x.items && leb x.passes max_passes)) (sym r ∙ h) in
      let v = and-true (eqb x.started (x.finished + 1)) (leb x.unmet x.items && leb x.passes max_passes) u.1 in
      let w = and-true (leb x.unmet x.items) (leb x.passes max_passes) v.1 in
      let l : x.finished < x.own = ltb-true _ _ u.0 in
      let e : x.started ≡ x.finished + 1 = eqb-true _ _ v.0 in
      rw (w.1, le-leb x.finished x.own (omega arith), ne_eqb x.started x.finished (λ z. omega arith), v.0, u.0, w.0)

  module _ (ok : Bool) (is : ok ≡ range_ok x) where
    pub start_range : not ok ≡ true → 12 ≡ start_by x
    unfolding start_by
    start_range h = rw (sym is ∙ not-true ok h)

    pub finish_range : ok ≡ false → 12 ≡ finish_by x
    unfolding finish_by
    finish_range h = rw (sym is ∙ h)

    pub finish_idle : ok ≡ true → (runs : Bool) → runs ≡ running_ok x → runs ≡ false → 17 ≡ finish_by x
    unfolding finish_by
    finish_idle h runs r n = rw (sym is ∙ h, idle (true_or_false (eqb x.started x.finished)))
      where
        idle : (eqb x.started x.finished ≡ true) ⊎ (eqb x.started x.finished ≡ false) → eqb x.started x.finished ≡ true
        idle (inl e) = e
        idle (inr e) =
            let u = and-true (leb x.passes max_passes) (counted_ok x.own x.started x.finished && leb x.unmet x.items) (sym is ∙ h) in
            let v = and-true (counted_ok x.own x.started x.finished) (leb x.unmet x.items) u.1 in
            let m = eqb x.started (x.finished + 1) && ltb x.finished x.own in
            let w = and-true (leb x.finished x.own) (eqb x.started x.finished || m) v.0 in
            let y = and-true (eqb x.started (x.finished + 1)) (ltb x.finished x.own) (or_right (eqb x.started x.finished) m w.1 e) in
            let z : running_ok x ≡ true = rw (y.1, y.0, v.1, u.0) in
            absurd (not_both z (sym r ∙ n))

    module _ (h : not ok ≡ false) where
      in_range : range_ok x ≡ true
      in_range = sym is ∙ not-false ok h

      pub start_done : x.own ≤ x.finished → 14 ≡ start_by x
      unfolding start_by
      start_done l = rw (in_range, le-ltb x.finished x.own l)

      module _ (l : x.finished < x.own) where
        pub start_running : (x.started ≡ x.finished → ⊥) → 15 ≡ start_by x
        unfolding start_by
        start_running e = rw (in_range, lt-ltb x.finished x.own l, ne_eqb x.started x.finished e)

        pub start_unmet : x.started ≡ x.finished → is_ready ≡ false → 16 ≡ start_by x
        unfolding start_by
        start_unmet e n = rw (in_range, lt-ltb x.finished x.own l, eq-eqb x.started x.finished e, waits)
          where
            passes : leb x.passes max_passes ≡ true
            passes = (and-true (leb x.passes max_passes) (counted_ok x.own x.started x.finished && leb x.unmet x.items) in_range).0

            waits : eqb x.unmet 0 ≡ false
            waits = false_of (eqb x.unmet 0) (λ z. not_both (rw (z, eq-eqb x.started x.finished e, lt-ltb x.finished x.own l, passes)) n)

-- the targets
module _ (T : List ℕ) (a items : ℕ) where
  abbrev targets_below : Bool
  targets_below =
      ltb (sources_in T a) items
      && (leb (start_in T (a + 1)) max_edges
      && (ltb (target_count T a) items && all_below (target_count T a) (λ k. ltb (target_in T a k) items)))

-- the whole

module _ (long : Bool) (n a : ℕ) (ok : Bool) (own : ℕ) where
  pub first_early : first_refusal long n a ok own ≡ cond (eqb (early_refusal long n a) 0) (cond ok own 12) (early_refusal long n a)
  unfolding first_refusal early_refusal
  first_early = each long (leb n max_items) (ltb a n) ok
    where
      each : (l m b o : Bool) →
          cond (eqb (refusal_of l (m && (not b || o)) b) 0) own (refusal_of l (m && (not b || o)) b)
          ≡ cond (eqb (cond l (cond m (cond b 0 13) 12) 11) 0) (cond o own 12) (cond l (cond m (cond b 0 13) 12) 11)
      each false m b o = refl
      each true false b o = refl
      each true true false o = refl
      each true true true true = refl
      each true true true false = refl

  module _ (r : ℕ) (is : r ≡ early_refusal long n a) where
    first_refused : (r ≡ 0 → ⊥) → r ≡ first_refusal long n a ok own
    first_refused h = is ∙ sym (first_early ∙ rw (ne_eqb (early_refusal long n a) 0 (λ z. h (is ∙ z))))

    module _ (none : r ≡ 0) where
      first_own : (q : ℕ) → q ≡ cond ok own 12 → q ≡ first_refusal long n a ok own
      first_own q e = e ∙ sym (first_early ∙ rw (sym is ∙ none))

      first_words : ok ≡ false → 12 ≡ first_refusal long n a ok own
      first_words e = first_own 12 (rw e)

module _ (P T C : List ℕ) (room a : ℕ) where
  passes_same : get_or P 0 0 ≡ (plan_body P).passes
  passes_same = sym (get_or-take plan_words P 0 0 (omega arith))

  start_same : start_by (item_in P T C a) ≡ cond (item_ok P T C [] a) (tests_by (own_in P T C [] a) (state_of C []) (unmet_by C a) a) 12
  unfolding start_by item_in
  start_same =
      ap (λ (p : ℕ).
      cond
      (leb p max_passes && (count_ok (p - code_fewer (code_in T a)) (state_of C []) a && leb (unmet_by C a) (items_in T)))
      (tests_by (p - code_fewer (code_in T a)) (state_of C []) (unmet_by C a) a)
      12)
      passes_same

  finish_same : finish_by (item_in P T C a) ≡ cond (item_ok P T C [] a) (finish_tests (state_of C []) a) 12
  unfolding finish_by item_in
  finish_same =
      ap (λ (p : ℕ).
      cond
      (leb p max_passes && (count_ok (p - code_fewer (code_in T a)) (state_of C []) a && leb (unmet_by C a) (items_in T)))
      (finish_tests (state_of C []) a)
      12)
      passes_same

  and_kept : (i t : Bool) (own : ℕ) → t ≡ true → cond i own 12 ≡ cond (i && t) own 12
  and_kept i t own e = rw (e, and-always i)

  -- r is what refuses early, b the item's number as an index
  module _ (r : ℕ) (is : r ≡ early_refusal (all_long P T C room) (items_in T) a) where
    pub start_early : (r ≡ 0 → ⊥) → r ≡ start_refusal P T C room a
    unfolding start_refusal
    start_early h = first_refused (all_long P T C room) (items_in T) a _ _ r is h

    pub finish_early : (r ≡ 0 → ⊥) → r ≡ finish_refusal P T C room a
    unfolding finish_refusal
    finish_early h = first_refused (all_long P T C room) (items_in T) a _ _ r is h

    module _ (none : r ≡ 0) (b : ℕ) (e : b ≡ a) (places : Bool) where
      module _ (p : places ≡ places_ok P T C [] first_read b) where
        reads : places ≡ places_ok P T C [] first_read a
        reads = p ∙ ap (λ (x : ℕ). places_ok P T C [] first_read x) e

        pub start_places : not places ≡ true → 12 ≡ start_refusal P T C room a
        unfolding start_refusal start_ok
        start_places h =
            first_words (all_long P T C room) (items_in T) a _ _ r is none (rw (sym reads ∙ not-true places h) (and-false (item_ok P T C [] a)))

        pub start_numbers : not places ≡ false → (x : Item) → x ≡ item_in P T C b → (q : ℕ) → q ≡ start_by x → q ≡ start_refusal P T C room a
        unfolding start_refusal start_ok
        start_numbers h x i q k =
            first_own (all_long P T C room) (items_in T) a _ _ r is none q
            (k
            ∙ (ap start_by (i ∙ ap (item_in P T C) e)
            ∙ (start_same ∙ and_kept (item_ok P T C [] a) (places_ok P T C [] first_read a) _ (sym reads ∙ not-false places h))))

      module _ (p : places ≡ places_ok P T C [] first_write b) where
        writes : places ≡ places_ok P T C [] first_write a
        writes = p ∙ ap (λ (x : ℕ). places_ok P T C [] first_write x) e

        pub finish_places : not places ≡ true → 12 ≡ finish_refusal P T C room a
        unfolding finish_refusal finish_ok
        finish_places h =
            first_words (all_long P T C room) (items_in T) a _ _ r is none (rw (sym writes ∙ not-true places h) (and-false (item_ok P T C [] a)))

        module _ (h : not places ≡ false) (n : ℕ) (m : n ≡ items_in T) (targets : Bool) (t : targets ≡ targets_below T b n) where
          leads : targets ≡ targets_ok P T C [] a
          leads = t ∙ (ap (λ (x : ℕ). targets_below T b x) m ∙ ap (λ (x : ℕ). targets_below T x (items_in T)) e)

          pub finish_targets : not targets ≡ true → 12 ≡ finish_refusal P T C room a
          unfolding finish_refusal finish_ok
          finish_targets k =
              first_words (all_long P T C room) (items_in T) a _ _ r is none
              (rw (sym leads ∙ not-true targets k, and-false (places_ok P T C [] first_write a)) (and-false (item_ok P T C [] a)))

          pub finish_numbers : not targets ≡ false → (x : Item) → x ≡ item_in P T C b → (q : ℕ) → q ≡ finish_by x → q ≡ finish_refusal P T C room a
          unfolding finish_refusal finish_ok
          finish_numbers k x i q j =
              first_own (all_long P T C room) (items_in T) a _ _ r is none q
              (j
              ∙ (ap finish_by (i ∙ ap (item_in P T C) e)
              ∙ (finish_same
              ∙ and_kept (item_ok P T C [] a) (places_ok P T C [] first_write a && targets_ok P T C [] a) _
              (and_intro (places_ok P T C [] first_write a) (targets_ok P T C [] a) (sym writes ∙ not-false places h) (sym leads ∙ not-false targets k)))))

-- by the tables of the plan itself, in slices that are long enough

module _ (P T C : List ℕ) (own : Prepared P T) (long : plan_words ≤ length P) (counts : count_words ≤ length C) (a : ℕ) where
  known_few : items_in T ≤ max_items
  known_few = omega (arith, own.items, own.most)

  module _ (room : ℕ) (values : value_words ≤ room) where
    known_long : all_long P T C room ≡ true
    known_long =
        rw (le-leb plan_words (length P) long, le-leb count_words (length C) counts, le-leb value_words room values, le-leb prepared_words (length T) own.long)

    known_early : early_refusal (all_long P T C room) (items_in T) a ≡ cond (ltb a (items_in T)) 0 13
    unfolding early_refusal
    known_early = rw (known_long, le-leb (items_in T) max_items known_few)

    module _ (n : ℕ) (m : n ≡ items_in T) where
      beyond : n ≤ a → 13 ≡ early_refusal (all_long P T C room) (items_in T) a
      beyond h = sym (known_early ∙ rw (le-ltb a (items_in T) (omega arith)))

      pub known_start_beyond : n ≤ a → 13 ≡ start_refusal P T C room a
      known_start_beyond h = start_early P T C room a 13 (beyond h) (λ z. omega arith)

      pub known_finish_beyond : n ≤ a → 13 ≡ finish_refusal P T C room a
      known_finish_beyond h = finish_early P T C room a 13 (beyond h) (λ z. omega arith)

      module _ (h : a < n) (b : ℕ) (e : b ≡ a) (x : Item) (i : x ≡ item_in P T C b) (q : ℕ) where
        none : 0 ≡ early_refusal (all_long P T C room) (items_in T) a
        none = sym (known_early ∙ rw (lt-ltb a (items_in T) (omega arith)))

        below : b < item_count (plan_body P)
        below = omega (arith, own.items)

        pub known_start : q ≡ start_by x → q ≡ start_refusal P T C room a
        known_start k = start_numbers P T C room a 0 none refl b e true (sym (reads_ok P T own b below C [])) refl x i q k

        pub known_finish : q ≡ finish_by x → q ≡ finish_refusal P T C room a
        known_finish k =
            finish_numbers P T C room a 0 none refl b e true (sym (writes_ok P T own b below C [])) refl (items_in T) refl true (sym (targets_ok_lem P T own b below C [])) refl
            x i q k
