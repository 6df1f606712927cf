-- The numbers at an opening: that of one item, the chains at the start, and the loop over the
-- items.
use Prim.Native.Nat.{ℕ, ◌+◌, ◌-◌, ◌/◌, ◌%◌, ◌≤◌, ◌<◌}
use mathlib.Core.Path.{◌≡◌, refl, sym, ◌∙◌}
use mathlib.Core.Bool.{Bool, true, false, cond, ◌&&◌, and-false}
use mathlib.Core.List.{List}
use native.Mathlib.Decide.{dec_lt}
use native.Mathlib.Omega.{arith}
use borrow.Author.Tests.{ltb-true, lt-ltb, le-ltb, le-leb}
use lib.Dec.{ltb}
use lib.ListN.{length, get_or, set, replicate, length-replicate, get_or-replicate, get_or-eq_default}
use Rattle.finite.specs.Below.{count_below}
use Rattle.finite.specs.Update.{replaced}
use Rattle.finite.proofs.Below.{count_ext}
use Rattle.finite.proofs.Within.{within, within_filled_more}
use Rattle.body.specs.Body.{Body, Fits}
use Rattle.body.specs.Items.{item_count, item_passes}
use Rattle.body.specs.Places.{system}
use Rattle.edges.specs.Tests.{edge_test}
use Rattle.edges.proofs.Decided.{distance_later, distance_next}
use Rattle.waits.specs.Waits.{is_unmet, fresh_count}
use Rattle.waits.proofs.Bodies.{source_made}
use Rattle.plan.specs.Sizes.{max_items, count_words, first_unmet}
use Rattle.plan.specs.Layout.{body_of}
use Rattle.graph.specs.Table.{Graph}
use Rattle.graph.proofs.Lookup.{body_fits}
use Rattle.walk.proofs.RowMarks.{zeros_length}
use Rattle.steps.specs.Answers.{open_count}
use Rattle.open_waits.specs.Sources.{max_places, max_events, on_chain, since_with, is_source, ItemsPassed}
use Rattle.open_waits.proofs.Chains.{chain_none}
use Rattle.open_waits.proofs.Touching.{since_start, since_none}

-- with a pass, an item's waits at the opening are those for its sources
module _ (B : Body) (F : Fits B) (a : ℕ) (la : a < item_count B) where
  unmet_source : 0 < item_passes B a → (b : ℕ) → b < item_count B → is_unmet (system B) (edge_test B) (λ b. 0) a b ≡ is_source B a b
  unfolding is_unmet is_source
  unmet_source p b lb =
      elim (dec_lt b a) [
        | yes l ↦ rw (distance_later b a l, lt-ltb b a l) (made (edge_test B b a) refl l)
        | no l ↦ rw (distance_next b a (omega arith), le-ltb b a (omega arith)) (and-false (edge_test B b a))
      ]
    where
      made : (t : Bool) → edge_test B b a ≡ t → b < a → (t && ltb 0 (item_passes B b + 0)) ≡ t
      made true e l = lt-ltb 0 (item_passes B b + 0) (omega (arith, source_made B F b a 0 lb la e (rw (distance_later b a l) p)))
      made false e l = refl

  open_number : (number : ℕ) → number ≡ cond (ltb 0 (item_passes B a)) (count_below (item_count B) (is_source B a)) 0 → number ≡ open_count B (first_unmet + a)
  unfolding open_count fresh_count
  open_number number e =
      let d : first_unmet + a - first_unmet ≡ a = omega arith in
      e ∙ rw (le-leb first_unmet (first_unmet + a) (omega arith), d) (go (ltb 0 (item_passes B a)) refl)
    where
      go : (t : Bool) → ltb 0 (item_passes B a) ≡ t →
          cond t (count_below (item_count B) (is_source B a)) 0 ≡ cond t (count_below (item_count B) (is_unmet (system B) (edge_test B) (λ b. 0) a)) 0
      go true h = count_ext (item_count B) (is_source B a) (is_unmet (system B) (edge_test B) (λ b. 0) a) (λ b l. sym (unmet_source (ltb-true 0 (item_passes B a) h) b l))
      go false h = refl

-- no item is passed

zeros_at : (n i : ℕ) (l : List ℕ) → l ≡ replicate n 0 → get_or l i 0 ≡ 0
zeros_at n i l e =
    rw e (elim (dec_lt i n) [
      | yes h ↦ get_or-replicate {A = ℕ} n i 0 0 h
      | no h ↦ get_or-eq_default (replicate {A = ℕ} n 0) 0 {n = i} (omega (arith, length-replicate {A = ℕ} n 0))
    ])

pub passed_none : (B : Body) (heads writers nexts seen : List ℕ) → heads ≡ replicate max_places 0 → writers ≡ replicate max_places 0 → nexts ≡ replicate max_events 0
    → seen ≡ replicate max_items 0 → ItemsPassed B 0 heads writers nexts seen
passed_none B heads writers nexts seen h w n s =
    record {
      kept =
          record {
            links =
                record {
                  heads_size = zeros_length max_places heads h;
                  writers_size = zeros_length max_places writers w;
                  nexts_size = zeros_length max_events nexts n;
                  head_most = λ x. omega (arith, zeros_at max_places x heads h);
                  writer_most = λ x. omega (arith, zeros_at max_places x writers w);
                  next_most = λ e. omega (arith, zeros_at max_events e nexts n);
                };
            head = λ x b l. none x b 1 (get_or heads x 0) (omega arith) (zeros_at max_places x heads h);
            writer = λ x b l. none x b 2 (get_or writers x 0) (omega arith) (zeros_at max_places x writers w);
          };
      size = zeros_length max_items seen s;
      most = λ b. omega (arith, zeros_at max_items b seen s);
    }
  where
    none : (x b c link : ℕ) → 1 ≤ c → link ≡ 0 → on_chain nexts link b ≡ since_with B (x / 128) (x % 128) c 0 0 b
    none x b c link l e = rw (e, chain_none nexts b) (sym (since_none B (x / 128) (x % 128) c 0 b l ∙ since_start B (x / 128) (x % 128) c b))

-- a turn of the loop: the numbers of the items below a are set
module _ (w table : List ℕ) (n : ℕ) (G : Graph w table n) (a : ℕ) (below : a < n) (own sources number : ℕ) (o : own ≡ item_passes (body_of w) a)
    (s : sources ≡ count_below (item_count (body_of w)) (is_source (body_of w) a)) (v : number ≡ cond (ltb 0 own) sources 0) where
  pub numbers_more : (xs ys : List ℕ) → ys ≡ replaced (within first_unmet a) (open_count (body_of w)) xs → count_words ≤ length xs →
      set ys (first_unmet + a) number ≡ replaced (within first_unmet (a + 1)) (open_count (body_of w)) xs
  numbers_more xs ys h l =
      within_filled_more first_unmet (open_count (body_of w)) xs ys a number h (omega (arith, G.most))
      (open_number (body_of w) (body_fits w table n G) a (omega (arith, G.count)) number (v ∙ rw (o, s)))
