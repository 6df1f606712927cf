-- A finish, counted: the numbers of the others are lowered, the finish is counted, and then the
-- item's own number.
use Prim.Native.Nat.{ℕ, suc, ◌+◌, ◌≤◌, ◌<◌}
use mathlib.Core.Path.{◌≡◌, sym, ◌∙◌, ap, ap₂}
use mathlib.Core.Bool.{Bool, cond}
use mathlib.Core.List.{List, []}
use native.Mathlib.Omega.{arith}
use lib.Dec.{eqb}
use lib.ListN.{length, set}
use lib.Seq.{set_comm}
use Rattle.finite.specs.Update.{update}
use Rattle.finite.proofs.Tests.{eqb_from}
use Rattle.finite.proofs.Update.{set_at}
use Rattle.body.specs.Body.{Body}
use Rattle.body.specs.Items.{item_count}
use Rattle.body.specs.Places.{system}
use Rattle.edges.specs.Tests.{edge_test}
use Rattle.waits.specs.Waits.{fresh_count}
use Rattle.waits.specs.Stored.{lowered_to, finished_numbers}
use Rattle.waits.proofs.Unmet.{count_agree}
use Rattle.waits.proofs.Stored.{lower_length, lower_before}
use Rattle.plan.specs.Sizes.{count_words, first_finished, first_unmet}
use Rattle.plan.specs.Layout.{body_of}
use Rattle.graph.specs.Table.{Graph}
use Rattle.steps.specs.State.{done_by}
use Rattle.steps.specs.Answers.{finished_counts}
use Rattle.calls.proofs.Behind.{whole}

module _ (w table : List ℕ) (n a : ℕ) (G : Graph w table n) (la : a < n) (C L : List ℕ) (long : count_words ≤ length C)
    (e : L ≡ lowered_to (system (body_of w)) (edge_test (body_of w)) first_unmet (done_by C) a n C) where
  pub lowered_length : length L ≡ length C
  lowered_length = ap length e ∙ lower_length (system (body_of w)) (edge_test (body_of w)) first_unmet (done_by C) a n C

  -- the passes stay
  pub lowered_passes : (c : ℕ) → c < n → done_by L c ≡ done_by C c
  lowered_passes c l =
      ap (λ (x : List ℕ). done_by x c) e
      ∙ lower_before (system (body_of w)) (edge_test (body_of w)) first_unmet (done_by C) a n C (first_finished + c) (omega (arith, G.most))

  -- the passes once the finish is counted
  counted_passes : (c : ℕ) → c < n → done_by (set L (first_finished + a) (suc (done_by C a))) c ≡ update (done_by C) a (suc (done_by C a)) c
  unfolding update
  counted_passes c l =
      set_at L (first_finished + a) (first_finished + c) (suc (done_by C a)) 0 (omega (arith, lowered_length, G.most))
      ∙ (ap (λ (t : Bool). cond t (suc (done_by C a)) (done_by L c)) (eqb_from first_finished c a)
      ∙ ap (λ (x : ℕ). cond (eqb c a) (suc (done_by C a)) x) (lowered_passes c l))

  counted_number : fresh_count (system (body_of w)) (edge_test (body_of w)) (done_by (set L (first_finished + a) (suc (done_by C a)))) a
      ≡ fresh_count (system (body_of w)) (edge_test (body_of w)) (update (done_by C) a (suc (done_by C a))) a
  counted_number =
      count_agree (system (body_of w)) (edge_test (body_of w)) (done_by (set L (first_finished + a) (suc (done_by C a)))) (update (done_by C) a (suc (done_by C a))) a
      (omega (arith, G.count)) (λ c l. counted_passes c (omega (arith, G.count)))

  lowered_all : L ≡ lowered_to (system (body_of w)) (edge_test (body_of w)) first_unmet (done_by C) a (item_count (body_of w)) C
  lowered_all = e ∙ ap (λ (j : ℕ). lowered_to (system (body_of w)) (edge_test (body_of w)) first_unmet (done_by C) a j C) G.count

  -- as the plan's words say it, and as the lent plan does
  finish_words : set (set L (first_unmet + a) (fresh_count (system (body_of w)) (edge_test (body_of w)) (update (done_by C) a (suc (done_by C a))) a))
      (first_finished + a) (suc (done_by C a)) ≡ finished_counts w C [] a
  unfolding finished_counts finished_numbers
  finish_words =
      ap (λ (x : List ℕ). set (set x (first_unmet + a) (fresh_count (system (body_of w)) (edge_test (body_of w)) (update (done_by C) a (suc (done_by C a))) a))
      (first_finished + a) (suc (done_by C a))) lowered_all
      ∙ ap (λ (B : Body). set (finished_numbers (system B) (edge_test B) first_unmet (done_by C) a C) (first_finished + a) (suc (done_by C a)))
      (ap body_of (sym (whole w table n G)))

  -- from the counts D in which the finish is counted
  module _ (D : List ℕ) (d : D ≡ set L (first_finished + a) (done_by L a + 1)) where
    counted : D ≡ set L (first_finished + a) (suc (done_by C a))
    counted = let s : done_by L a + 1 ≡ suc (done_by C a) = omega (arith, lowered_passes a la) in d ∙ ap (λ (v : ℕ). set L (first_finished + a) v) s

    pub finish_counted : (number : ℕ) → number ≡ fresh_count (system (body_of w)) (edge_test (body_of w)) (done_by D) a →
        set D (first_unmet + a) number ≡ finished_counts w C [] a
    finish_counted number f =
        ap₂ (λ (x : List ℕ) (v : ℕ). set x (first_unmet + a) v) counted
        (f ∙ (ap (λ (x : List ℕ). fresh_count (system (body_of w)) (edge_test (body_of w)) (done_by x) a) counted ∙ counted_number))
        ∙ (set_comm L (first_finished + a) (first_unmet + a) (suc (done_by C a)) _ (λ q. omega arith) ∙ finish_words)
