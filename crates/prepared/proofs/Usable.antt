-- What tables that hold those of the plan say of an item, for steps by them.
use Prim.Native.Nat.{ℕ, suc, ◌+◌, ◌≤◌, ◌<◌}
use mathlib.Core.Path.{◌≡◌, sym, ◌∙◌, ap, subst}
use mathlib.Core.Bool.{true, ◌&&◌}
use mathlib.Core.List.{List}
use native.Mathlib.Omega.{arith}
use borrow.Author.Tests.{eqb-true, eq-eqb, ltb-true, lt-ltb, le-leb}
use lib.Dec.{eqb, ltb}
use lib.ListN.{length}
use Rattle.finite.proofs.Tests.{and-true, and_intro, test_ext}
use Rattle.finite.proofs.Below.{all_of, any_at, any_from}
use Rattle.body.specs.Items.{item_count, item_passes}
use Rattle.plan.specs.Limits.{max_accesses}
use Rattle.plan.specs.Sizes.{max_items, max_edges}
use Rattle.plan.specs.Layout.{plan_words}
use Rattle.graph.specs.Answers.{formed_plan, plan_body}
use Rattle.steps.specs.State.{count_words, first_held, done_by}
use Rattle.prepared.specs.Tables.{first_read, first_write, leads, targets_of, code_in, sources_in, start_in, target_count, target_in, place_count, place_in}
use Rattle.prepared.specs.Steps.{own_in, places_ok, targets_ok, again}
use Rattle.prepared.specs.Laws.{Prepared}
use Rattle.prepared.proofs.Targets.{target_leads, target_there, targets_rise, targets_fewer, sources_fewer}
use Rattle.prepared.proofs.Coded.{coded_passes}
use Rattle.prepared.proofs.Lowering.{among, Apart}

module _ (plan tables : List ℕ) (P : Prepared plan tables) (a : ℕ) (la : a < item_count (plan_body plan)) where
  abbrev n : ℕ
  n = item_count (plan_body plan)

  pub item_small : a < max_items
  item_small = omega (arith, P.most)

  -- an item has fewer sources and targets than there are items
  pub sources_few : sources_in tables a < n
  sources_few = omega (arith, P.sources a la, sources_fewer (plan_body plan) a la)

  pub targets_few : target_count tables a < n
  targets_few = omega (arith, P.counted a la, targets_fewer (plan_body plan) a la)

  pub targets_small : target_count tables a < max_items
  targets_small = omega (arith, targets_few, P.most)

  -- its targets are items, and rise
  module _ (k : ℕ) (h : k < target_count tables a) where
    listed : k < length (targets_of (plan_body plan) a)
    listed = omega (arith, P.counted a la)

    pub target_below : target_in tables a k < n
    target_below = omega (arith, P.targets a k la h, (target_leads (plan_body plan) a k listed).0)

    pub target_small : target_in tables a k < max_items
    target_small = omega (arith, target_below, P.most)

  pub targets_apart : (i j : ℕ) → i < j → j < target_count tables a → target_in tables a i ≡ target_in tables a j → ⊥
  targets_apart i j h k e = omega (arith, targets_rise (plan_body plan) a i j h (listed j k), P.targets a i la (omega arith), P.targets a j la k)

  pub apart : (counts : List ℕ) → count_words ≤ length counts → Apart (target_in tables a) (target_count tables a) counts
  apart counts l = record { room = λ j h. omega (arith, target_small j h); differ = targets_apart }

  -- they are the other items to which it has an edge
  pub targets_among : (b : ℕ) → among (target_in tables a) (target_count tables a) b ≡ (ltb b n && leads (plan_body plan) a b)
  targets_among b =
      test_ext (among (target_in tables a) (target_count tables a) b) (ltb b n && leads (plan_body plan) a b)
      (λ t.
      let r = any_from (λ k. eqb b (target_in tables a k)) (target_count tables a) t in
      let e : b ≡ target_in tables a r.0 = eqb-true b (target_in tables a r.0) r.2 in
      and_intro (ltb b n) (leads (plan_body plan) a b) (lt-ltb b n (omega (arith, target_below r.0 r.1)))
      (subst (λ (c : ℕ). leads (plan_body plan) a c ≡ true) (sym (e ∙ P.targets a r.0 la r.1)) (target_leads (plan_body plan) a r.0 (listed r.0 r.1)).1))
      (λ t.
      let u = and-true (ltb b n) (leads (plan_body plan) a b) t in
      let r = target_there (plan_body plan) a b (ltb-true b n u.0) u.1 in
      let h : r.0 < target_count tables a = omega (arith, r.1, P.counted a la) in
      any_at (λ k. eqb b (target_in tables a k)) (target_count tables a) r.0 h (eq-eqb b (target_in tables a r.0) (sym (P.targets a r.0 la h ∙ r.2))))

  -- the rows and the targets that its steps use lie in their ranges
  module _ (counts values : List ℕ) where
    places_ok_lem : (first : ℕ) → place_count tables first a ≤ max_accesses → ((k : ℕ) → k < place_count tables first a → place_in tables first a k < first_held) →
        places_ok plan tables counts values first a ≡ true
    places_ok_lem first few below =
        rw (le-leb (place_count tables first a) max_accesses few)
        (all_of (λ k. ltb (place_in tables first a k) first_held) (place_count tables first a) (λ k l. lt-ltb (place_in tables first a k) first_held (below k l)))

    pub reads_ok : places_ok plan tables counts values first_read a ≡ true
    reads_ok = places_ok_lem first_read (P.read_few a la) (λ k l. P.read_below a k la l)

    pub writes_ok : places_ok plan tables counts values first_write a ≡ true
    writes_ok = places_ok_lem first_write (P.written_few a la) (λ k l. P.written_below a k la l)

    pub targets_ok_lem : targets_ok plan tables counts values a ≡ true
    targets_ok_lem =
        rw (
          P.items,
          lt-ltb (sources_in tables a) n sources_few,
          le-leb (start_in tables (a + 1)) max_edges (P.ends a la),
          lt-ltb (target_count tables a) n targets_few,
        )
        (all_of (λ k. ltb (target_in tables a k) n) (target_count tables a) (λ k l. lt-ltb (target_in tables a k) n (target_below k l)))

  -- its own passes, where the plan is in form
  module _ (long : plan_words ≤ length plan) (formed : formed_plan plan ≡ true) (counts values : List ℕ) where
    pub own_passes_lem : own_in plan tables counts values a ≡ item_passes (plan_body plan) a
    own_passes_lem = coded_passes plan long formed a la (code_in tables a) (P.codes a la)

    pub again_is : again plan tables counts values a ≡ ltb (suc (done_by counts a)) (item_passes (plan_body plan) a)
    again_is = ap (λ (p : ℕ). ltb (suc (done_by counts a)) p) own_passes_lem
