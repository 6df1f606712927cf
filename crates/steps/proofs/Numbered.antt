-- The numbers of unmet waits in the lent counts: what an opening, a start and a finish leave of
-- them, and that fresh ones stay fresh.
use Prim.Native.Nat.{ℕ, suc, ◌+◌, ◌-◌, ◌≤◌, ◌<◌}
use mathlib.Core.Path.{◌≡◌, sym, ◌∙◌, ap}
use mathlib.Core.Bool.{Bool, cond}
use mathlib.Core.Logic.{◌⊎◌, inl}
use mathlib.Core.List.{List}
use native.Mathlib.Omega.{arith}
use borrow.Author.Tests.{lt-leb, le-leb}
use lib.Dec.{eqb}
use lib.ListN.{length, get_or, set, length-set}
use lib.Seq.{get_or-set_other}
use Rattle.finite.specs.Update.{update}
use Rattle.finite.proofs.Tests.{eqb_from}
use Rattle.finite.proofs.Update.{set_at, update_same, update_other}
use Rattle.finite.proofs.Replaced.{replaced_at}
use Rattle.body.specs.Items.{item_count, item_passes}
use Rattle.body.specs.Places.{system}
use Rattle.edges.specs.Tests.{edge_test}
use Rattle.waits.specs.Waits.{fresh_count, meets, lowered, numbers_after}
use Rattle.waits.specs.Stored.{finished_numbers}
use Rattle.waits.proofs.Unmet.{count_agree}
use Rattle.waits.proofs.Fresh.{finish_fresh}
use Rattle.waits.proofs.Stored.{finished_length, finished_stays, finished_at}
use Rattle.plan.specs.Sizes.{max_items}
use Rattle.graph.specs.Answers.{plan_body}
use Rattle.steps.specs.State.{count_words, first_finished, first_unmet, done_by, unmet_by, FreshNumbers}
use Rattle.steps.specs.Answers.{is_count, open_count, opened, finished_counts}
use Rattle.steps.proofs.Placing.{started_count, finished_count, unmet_count}

module _ (plan counts values : List ℕ) (few : item_count (plan_body plan) ≤ max_items) (long : count_words ≤ length counts) where
  -- opening

  opened_at : (i : ℕ) → i < count_words → get_or (opened plan counts values).counts i 0 ≡ cond (is_count (plan_body plan) i) (open_count (plan_body plan) i) (get_or counts i 0)
  opened_at i l = replaced_at (is_count (plan_body plan)) (open_count (plan_body plan)) counts i (omega arith)

  open_none : (i : ℕ) → i < first_unmet → open_count (plan_body plan) i ≡ 0
  unfolding open_count
  open_none i l = rw (lt-leb first_unmet i l)

  pub opened_started : (a : ℕ) → a < item_count (plan_body plan) → get_or (opened plan counts values).counts a 0 ≡ 0
  opened_started a l = opened_at a (omega arith) ∙ rw (started_count (plan_body plan) a l) (open_none a (omega arith))

  pub opened_finished : (a : ℕ) → a < item_count (plan_body plan) → done_by (opened plan counts values).counts a ≡ 0
  opened_finished a l = opened_at (first_finished + a) (omega arith) ∙ rw (finished_count (plan_body plan) a l) (open_none (first_finished + a) (omega arith))

  opened_number : (a : ℕ) → a < item_count (plan_body plan) → unmet_by (opened plan counts values).counts a ≡ fresh_count (system (plan_body plan)) (edge_test (plan_body plan)) (λ b. 0) a
  unfolding open_count
  opened_number a l =
      let e : first_unmet + a - first_unmet ≡ a = omega arith in
      opened_at (first_unmet + a) (omega arith) ∙ rw (unmet_count (plan_body plan) a l, le-leb first_unmet (first_unmet + a) (omega arith), e)

  pub opened_fresh : FreshNumbers (plan_body plan) (opened plan counts values).counts
  opened_fresh a l =
      opened_number a l
      ∙ count_agree (system (plan_body plan)) (edge_test (plan_body plan)) (λ b. 0) (done_by (opened plan counts values).counts) a l (λ c lc. sym (opened_finished c lc))

  -- start

  pub started_fresh : (a : ℕ) → a < item_count (plan_body plan) → FreshNumbers (plan_body plan) counts → FreshNumbers (plan_body plan) (set counts a (suc (get_or counts a 0)))
  started_fresh a la f c lc =
      get_or-set_other counts a (first_unmet + c) _ 0 (λ e. omega arith)
      ∙ (f c lc
      ∙ count_agree (system (plan_body plan)) (edge_test (plan_body plan)) (done_by counts) (done_by (set counts a (suc (get_or counts a 0)))) c lc
      (λ d ld. sym (get_or-set_other counts a (first_finished + d) _ 0 (λ e. omega arith))))

  -- finish

  module _ (b : ℕ) (lb : b < item_count (plan_body plan)) where
    abbrev renumbered : List ℕ
    renumbered = finished_numbers (system (plan_body plan)) (edge_test (plan_body plan)) first_unmet (done_by counts) b counts

    renumbered_length : length renumbered ≡ length counts
    renumbered_length = finished_length (system (plan_body plan)) (edge_test (plan_body plan)) first_unmet (done_by counts) b counts

    renumbered_stays : (i : ℕ) → (i < first_unmet) ⊎ (first_unmet + item_count (plan_body plan) ≤ i) → get_or renumbered i 0 ≡ get_or counts i 0
    renumbered_stays i = finished_stays (system (plan_body plan)) (edge_test (plan_body plan)) first_unmet (done_by counts) b counts i lb (omega arith)

    pub finished_size : length (finished_counts plan counts values b) ≡ length counts
    unfolding finished_counts
    finished_size = length-set renumbered (first_finished + b) (suc (done_by counts b)) ∙ renumbered_length

    -- the passes
    pub finished_stay : (i : ℕ) → (i ≡ first_finished + b → ⊥) → (i < first_unmet) ⊎ (first_unmet + item_count (plan_body plan) ≤ i) →
        get_or (finished_counts plan counts values b) i 0 ≡ get_or counts i 0
    unfolding finished_counts
    finished_stay i ne k = get_or-set_other renumbered (first_finished + b) i _ 0 ne ∙ renumbered_stays i k

    pub finished_done : (c : ℕ) → c < item_count (plan_body plan) → done_by (finished_counts plan counts values b) c ≡ update (done_by counts) b (suc (done_by counts b)) c
    unfolding finished_counts update
    finished_done c lc =
        set_at renumbered (first_finished + b) (first_finished + c) (suc (done_by counts b)) 0 (omega (arith, renumbered_length))
        ∙ (ap (λ (q : Bool). cond q (suc (done_by counts b)) (done_by renumbered c)) (eqb_from first_finished c b)
        ∙ ap (λ (x : ℕ). cond (eqb c b) (suc (done_by counts b)) x) (renumbered_stays (first_finished + c) (inl (omega arith))))

    -- the numbers
    finished_number : (a : ℕ) → a < item_count (plan_body plan) →
        unmet_by (finished_counts plan counts values b) a ≡ numbers_after (system (plan_body plan)) (edge_test (plan_body plan)) (done_by counts) b (unmet_by counts) a
    unfolding finished_counts
    finished_number a la =
        get_or-set_other renumbered (first_finished + b) (first_unmet + a) _ 0 (λ e. omega arith)
        ∙ finished_at (system (plan_body plan)) (edge_test (plan_body plan)) first_unmet (done_by counts) counts b a (omega arith) lb la

    -- a fresh count is the same by the finished passes that the counts then hold
    done_same : (a : ℕ) → a < item_count (plan_body plan) →
        fresh_count (system (plan_body plan)) (edge_test (plan_body plan)) (update (done_by counts) b (suc (done_by counts b))) a
        ≡ fresh_count (system (plan_body plan)) (edge_test (plan_body plan)) (done_by (finished_counts plan counts values b)) a
    done_same a la =
        count_agree (system (plan_body plan)) (edge_test (plan_body plan)) (update (done_by counts) b (suc (done_by counts b))) (done_by (finished_counts plan counts values b)) a la
        (λ c lc. sym (finished_done c lc))

    -- its own is fresh, whatever the numbers were
    pub finished_own : unmet_by (finished_counts plan counts values b) b ≡ fresh_count (system (plan_body plan)) (edge_test (plan_body plan)) (done_by (finished_counts plan counts values b)) b
    unfolding numbers_after
    finished_own =
        finished_number b lb
        ∙ (update_same (lowered (system (plan_body plan)) (edge_test (plan_body plan)) (done_by counts) b (unmet_by counts)) b _ ∙ done_same b lb)

    -- another item's is lowered where the finish meets its wait
    pub finished_other : (a : ℕ) → a < item_count (plan_body plan) → (a ≡ b → ⊥) →
        unmet_by (finished_counts plan counts values b) a
        ≡ cond (meets (system (plan_body plan)) (edge_test (plan_body plan)) (done_by counts) b a) (unmet_by counts a - 1) (unmet_by counts a)
    unfolding numbers_after lowered
    finished_other a la other =
        finished_number a la
        ∙ update_other (lowered (system (plan_body plan)) (edge_test (plan_body plan)) (done_by counts) b (unmet_by counts)) b _ a other

    pub finished_fresh : done_by counts b < item_passes (plan_body plan) b → FreshNumbers (plan_body plan) counts → FreshNumbers (plan_body plan) (finished_counts plan counts values b)
    finished_fresh made f a la =
        finished_number a la
        ∙ (finish_fresh (system (plan_body plan)) (edge_test (plan_body plan)) (done_by counts) (unmet_by counts) b lb made f a la ∙ done_same a la)
