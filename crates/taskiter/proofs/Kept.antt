-- What a lower limit on passes gave is given by a higher one, and counts stay within the passes and
-- the number of items.
use Prim.Native.Nat.{ℕ, suc, ◌+◌, ◌-◌, ◌≤◌}
use mathlib.Core.Path.{◌≡◌, refl, sym, ◌∙◌, ap, subst}
use mathlib.Core.Bool.{Bool, true, false, cond}
use mathlib.Core.List.{List, [], ◌∷◌}
use native.Mathlib.Decide.{dec_lt, ℕ_discrete}
use native.Mathlib.Omega.{arith}
use lib.Dec.{ltb, leb}
use lib.ListN.{length, get_or, set, take, length-set, get_or-eq_default}
use lib.Seq.{get_or-set_same, get_or-set_other}
use Rattle.finite.specs.Below.{count_below}
use Rattle.finite.specs.Update.{update, replaced}
use Rattle.finite.proofs.Below.{count_le}
use Rattle.finite.proofs.Replaced.{length_replaced, replaced_at, replaced_not}
use Rattle.unroll.specs.System.{System}
use Rattle.body.specs.Body.{Body}
use Rattle.body.specs.Items.{item_count, item_at, item_passes}
use Rattle.body.specs.Places.{system}
use Rattle.body.proofs.Wrapped.{passes_most}
use Rattle.edges.specs.Tests.{edge_test}
use Rattle.waits.specs.Waits.{is_unmet, fresh_count}
use Rattle.waits.specs.Stored.{lowered_to, finished_numbers}
use Rattle.plan.specs.Layout.{plan_words}
use Rattle.plan.specs.Limits.{max_passes}
use Rattle.plan.specs.Sizes.{first_finished, first_unmet}
use Rattle.plan.proofs.Within.{form_within_lem, form_kept}
use Rattle.reading.proofs.Within.{texts_kept}
use Rattle.graph.specs.Answers.{formed_plan, formed_within, plan_body}
use Rattle.steps.specs.State.{done_by}
use Rattle.steps.specs.Answers.{Left, is_count, open_count, finished_counts, open_by, open_of, start_by, start_of, finish_by, finish_of, result_by, result_of}
use Rattle.steps.specs.Calls.{Call, start, finish, result, Lent, lent_by, call, play, replies}
use Rattle.steps.proofs.Accepting.{open_accepted, open_opened, open_unchanged, start_clear, start_turn, finish_clear, finish_can, every_unchanged}
use Rattle.steps.proofs.Made.{start_counts, finish_counts, result_counts}
use Rattle.taskiter.specs.Kept.{Kept, CountsFit, call_by, play_by, replies_by}

module _ (most : ℕ) (h : most ≤ max_passes) (plan : List ℕ) (l : (plan_body plan).passes ≤ most) where
  same_form : formed_within plan most ≡ formed_plan plan
  same_form = form_kept (take plan_words plan) most h l

  same_call : (s : Lent) (c : Call) → call_by plan (formed_within plan most) s c ≡ call plan s c
  unfolding start_of finish_of result_of
  same_call s (start a) = ap (λ (formed : Bool). start_by plan s.counts s.values formed a) same_form
  same_call s (finish a) = ap (λ (formed : Bool). finish_by plan s.counts s.values formed a) same_form
  same_call s (result g) = ap (λ (formed : Bool). result_by plan s.counts s.values formed g) same_form

  same_play : (s : Lent) (k : List Call) → play_by plan (formed_within plan most) s k ≡ play plan s k
  unfolding play
  same_play s [] = refl
  same_play s (c ∷ k) = same_play (lent_by (call_by plan (formed_within plan most) s c)) k ∙ ap (λ (r : Left). play plan (lent_by r) k) (same_call s c)

  same_answers : (s : Lent) (k : List Call) → replies_by plan (formed_within plan most) s k ≡ replies plan s k
  unfolding replies
  same_answers s [] = refl
  same_answers s (c ∷ k) =
      ap (λ (m : List Left). call_by plan (formed_within plan most) s c ∷ m) (same_answers (lent_by (call_by plan (formed_within plan most) s c)) k)
      ∙ ap (λ (r : Left). r ∷ replies plan (lent_by r) k) (same_call s c)

  same_opening : (counts values : List ℕ) → open_by plan counts values (formed_within plan most) ≡ open_of plan counts values
  unfolding open_of
  same_opening counts values = ap (open_by plan counts values) same_form

pub kept : (most : ℕ) → most ≤ max_passes → Kept most
kept most h =
    record {
      texts = texts_kept most h;
      form = λ plan. form_within_lem (take plan_words plan) most h;
      same_form = same_form most h;
      opens = λ plan counts values l. same_opening most h plan l counts values;
      calls = λ plan s c l. same_call most h plan l s c;
      plays = λ plan s k l. same_play most h plan l s k;
      answers = λ plan s k l. same_answers most h plan l s k;
    }

-- a list with one number put into it, or some replaced, has none above `top` where there was none
set_most : (l : List ℕ) (at v top : ℕ) → ((i : ℕ) → get_or l i 0 ≤ top) → v ≤ top → (i : ℕ) → get_or (set l at v) i 0 ≤ top
set_most l at v top h k i =
    elim (ℕ_discrete i at) [
      | yes e ↦
          elim (dec_lt at (length l)) [
            | yes b ↦ omega (arith, ap (λ (j : ℕ). get_or (set l at v) j 0) e, get_or-set_same l at v 0 b)
            | no b ↦ omega (arith, get_or-eq_default (set l at v) 0 {n = i} (omega (arith, e, length-set l at v)))
          ]
      | no e ↦ omega (arith, get_or-set_other l at i v 0 e, h i)
    ]

replaced_most : (p : ℕ → Bool) (f : ℕ → ℕ) (l : List ℕ) (top : ℕ) → ((i : ℕ) → f i ≤ top) → ((i : ℕ) → get_or l i 0 ≤ top) → (i : ℕ) → get_or (replaced p f l) i 0 ≤ top
replaced_most p f l top g h i = go (p i) refl
  where
    go : (b : Bool) → p i ≡ b → get_or (replaced p f l) i 0 ≤ top
    go false e = omega (arith, replaced_not p f l i e, h i)
    go true e =
        elim (dec_lt i (length l)) [
          | yes k ↦ omega (arith, replaced_at p f l i k ∙ ap (λ (t : Bool). cond t (f i) (get_or l i 0)) e, g i)
          | no k ↦ omega (arith, get_or-eq_default (replaced p f l) 0 {n = i} (omega (arith, length_replaced p f l)))
        ]

-- a fresh count is at most the number of items
fresh_most : (S : System) (edge : ℕ → ℕ → Bool) (fin : ℕ → ℕ) (a : ℕ) → fresh_count S edge fin a ≤ S.items
unfolding fresh_count
fresh_most S edge fin a = go (ltb (fin a) (S.passes a))
  where
    go : (b : Bool) → cond b (count_below S.items (is_unmet S edge fin a)) 0 ≤ S.items
    go true = count_le (is_unmet S edge fin a) S.items
    go false = omega arith

open_count_most : (B : Body) (i : ℕ) → open_count B i ≤ item_count B
unfolding open_count
open_count_most B i = go (leb first_unmet i)
  where
    go : (b : Bool) → cond b (fresh_count (system B) (edge_test B) (λ b. 0) (i - first_unmet)) 0 ≤ item_count B
    go true = fresh_most (system B) (edge_test B) (λ b. 0) (i - first_unmet)
    go false = omega arith

module _ (plan : List ℕ) (top : ℕ) (fits : (plan_body plan).passes ≤ top) (room : item_count (plan_body plan) ≤ top) (s : Lent) (few : (i : ℕ) → get_or s.counts i 0 ≤ top) where
  abbrev C : List ℕ
  C = s.counts

  abbrev W : List ℕ
  W = s.values

  -- an item has no more passes than the plan
  own_most : (a : ℕ) → item_passes (plan_body plan) a ≤ top
  own_most a = omega (arith, fits, (passes_most (plan_body plan) (item_at (plan_body plan) a)).0)

  kept_most : (l : List ℕ) → l ≡ C → (i : ℕ) → get_or l i 0 ≤ top
  kept_most l e i = omega (arith, ap (λ (k : List ℕ). get_or k i 0) e, few i)

  open_most : (i : ℕ) → get_or (open_of plan C W).counts i 0 ≤ top
  open_most i =
      elim (ℕ_discrete (open_of plan C W).refusal 0) [
        | yes e ↦
            let k = (open_accepted plan C W).0 e in
            subst (λ (r : Left). get_or r.counts i 0 ≤ top) (sym (open_opened plan C W k.0 k.1)) (replaced_most (is_count (plan_body plan)) (open_count (plan_body plan)) C top (λ i. omega (arith, open_count_most (plan_body plan) i, room)) few i)
        | no e ↦ kept_most (open_of plan C W).counts (open_unchanged plan C W e).1 i
      ]

  finished_most : (a : ℕ) → suc (done_by C a) ≤ top → (i : ℕ) → get_or (finished_counts plan C W a) i 0 ≤ top
  unfolding finished_counts finished_numbers lowered_to
  finished_most a l =
      set_most (finished_numbers (system (plan_body plan)) (edge_test (plan_body plan)) first_unmet (done_by C) a C) (first_finished + a) (suc (done_by C a)) top
      (set_most (lowered_to (system (plan_body plan)) (edge_test (plan_body plan)) first_unmet (done_by C) a (item_count (plan_body plan)) C) (first_unmet + a) _ top
      (replaced_most _ (λ i. get_or C i 0 - 1) C top (λ i. omega (arith, few i)) few)
      (omega (arith, fresh_most (system (plan_body plan)) (edge_test (plan_body plan)) (update (done_by C) a (suc (done_by C a))) a, room)))
      l

  accepted_most : (c : Call) → (call plan s c).refusal ≡ 0 → (i : ℕ) → get_or (call plan s c).counts i 0 ≤ top
  accepted_most (start a) e i =
      let r = (start_turn plan C W (start_clear plan C W a e) a).0 e in
      subst (λ (l : List ℕ). get_or l i 0 ≤ top) (sym (start_counts plan C W a e))
      (set_most C a (suc (get_or C a 0)) top few (omega (arith, r.1.1, r.1.0, own_most a)) i)
  accepted_most (finish a) e i =
      let K = finish_clear plan C W a e in
      let r = (finish_can plan C W K a).0 e in
      subst (λ (l : List ℕ). get_or l i 0 ≤ top) (sym (finish_counts plan C W a e)) (finished_most a (omega (arith, r.running, few a)) i)
  accepted_most (result g) e i = kept_most (call plan s (result g)).counts (result_counts plan C W g e) i

  call_most : (c : Call) (i : ℕ) → get_or (call plan s c).counts i 0 ≤ top
  call_most c i =
      elim (ℕ_discrete (call plan s c).refusal 0) [
        | yes e ↦ accepted_most c e i
        | no e ↦ kept_most (call plan s c).counts (every_unchanged plan s c e).1 i
      ]

play_most : (plan : List ℕ) (top : ℕ) → (plan_body plan).passes ≤ top → item_count (plan_body plan) ≤ top → (s : Lent) → ((i : ℕ) → get_or s.counts i 0 ≤ top) → (l : List Call) (i : ℕ) → get_or (play plan s l).counts i 0 ≤ top
unfolding play
play_most plan top fits room s few [] i = few i
play_most plan top fits room s few (c ∷ l) i = play_most plan top fits room (lent_by (call plan s c)) (call_most plan top fits room s few c) l i

pub counts_fit : CountsFit
counts_fit plan top fits room s few = (open_most plan top fits room s few, play_most plan top fits room s few)
