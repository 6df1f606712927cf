-- Demand 3 from the opening of a plan in form: `InAnyOrder` of specs/Demands.antt.
use Prim.Native.Nat.{ℕ, suc, ◌+◌, ◌≤◌, ◌<◌}
use mathlib.Core.Path.{◌≡◌, sym, ◌∙◌, ap, subst}
use mathlib.Core.Bool.{true}
use mathlib.Core.Logic.{◌↔◌}
use mathlib.Core.List.{List, ◌∷◌, ◌++◌, map}
use native.Mathlib.Omega.{arith}
use lib.ListN.{length, get_or, take, length-append, length-map}
use lib.Seq.{take_at}
use Rattle.unroll.specs.Machine.{Call as Step, start as start_step, finish as finish_step, alike, any_call, opening, Decides, accepted as accepted_steps}
use Rattle.unroll.specs.AnyOrder.{End, reached, times}
use Rattle.unroll.proofs.Decide.{decides}
use Rattle.body.specs.Body.{Body}
use Rattle.body.specs.Items.{writer, item_count, item_at, item_passes, total_steps}
use Rattle.body.specs.Places.{system}
use Rattle.body.specs.Loop.{loop_word, loop_final}
use Rattle.body.specs.Computes.{Computes}
use Rattle.body.proofs.Theorems.{computes}
use Rattle.plan.specs.Layout.{plan_words, body_of}
use Rattle.plan.specs.Form.{in_form}
use Rattle.graph.specs.Answers.{formed_plan, plan_body}
use Rattle.graph.proofs.Small.{plan_fits}
use Rattle.steps.specs.State.{count_words, value_words, first_finished}
use Rattle.steps.specs.Answers.{long_slices, open_of}
use Rattle.steps.specs.Calls.{Call, start, finish, result, is_start, is_finish, is_step, Lent, lent_by, play, replies, accepted}
use Rattle.taskiter.proofs.Freshness.{fresh_all}
use Rattle.taskiter.specs.Demands.{starts_of, finishes_of, call_after, AtEnd, InAnyOrder}
use Rattle.steps.proofs.Accepting.{Clear, long_slices_lem, open_accepted, start_rule, result_complete}
use Rattle.steps.proofs.Refusals.{start_16}
use Rattle.steps.proofs.Simulating.{Tied, opening_tied, tied_clear, start_follows, finish_follows}
use Rattle.steps.proofs.Playing.{steps_of, call_of, steps_calls, steps_append, picks_start, picks_finish, picks_steps, replies_at, step_follows, play_tied, play_accepted}
use Rattle.steps.proofs.Ending.{Done, done_total, result_final}

-- from a lent state that is tied to the machine's opening
module _ (plan : List ℕ) (long : plan_words ≤ length plan) (formed : formed_plan plan ≡ true) (s : Lent) (open-tied : Tied plan s (opening (system (plan_body plan)))) where
  abbrev B : Body
  B = plan_body plan

  can : Decides (system B)
  can = decides (system B)

  computed : Computes B can
  computed = computes B (plan_fits (take plan_words plan) formed) can

  tied : (l : List Call) → Tied plan (play plan s l) (reached (system B) can (steps_of l))
  tied l = play_tied plan can long formed l s (opening (system B)) open-tied

  starts_times : (a : ℕ) (l : List Call) → starts_of B plan s a l ≡ times (system B) can (start_step a) (steps_of l)
  starts_times a l = play_accepted plan can long formed (is_start a) (alike (start_step a)) (picks_start a) l s (opening (system B)) open-tied

  finishes_times : (a : ℕ) (l : List Call) → finishes_of B plan s a l ≡ times (system B) can (finish_step a) (steps_of l)
  finishes_times a l = play_accepted plan can long formed (is_finish a) (alike (finish_step a)) (picks_finish a) l s (opening (system B)) open-tied

  finishes_shown : (a : ℕ) (l : List Call) → finishes_of B plan s a l ≡ (reached (system B) can (steps_of l)).finished a
  finishes_shown a l = finishes_times a l ∙ sym (computed.any_order.finishes (steps_of l) a)

  end_shown : (l : List Call) → AtEnd B plan s l ↔ End (system B) (reached (system B) can (steps_of l))
  end_shown l = (λ e a la. sym (finishes_shown a l) ∙ e a la, λ e a la. finishes_shown a l ∙ e a la)

  starts : (k : List Call) (a : ℕ) → (call_after B plan s k (start a)).refusal ≡ 0 →
      (a < item_count B) × (starts_of B plan s a k < item_passes B a) × ((call_after B plan s k (start a)).word ≡ loop_word B (starts_of B plan s a k) (writer (item_at B a)))
  starts k a z =
      rw (starts_times a k)
      (computed.answers (steps_of k) (start_step a) (call_after B plan s k (start a)).word
      ((start_follows plan can long formed (play plan s k) (reached (system B) can (steps_of k)) a (tied k)).answered z))

  finishes : (k : List Call) (a : ℕ) → (call_after B plan s k (finish a)).refusal ≡ 0 →
      (a < item_count B) × (starts_of B plan s a k ≡ suc (finishes_of B plan s a k)) × ((call_after B plan s k (finish a)).word ≡ loop_word B (finishes_of B plan s a k) (writer (item_at B a)))
  finishes k a z =
      let e = (finish_follows plan can long formed (play plan s k) (reached (system B) can (steps_of k)) a (tied k)).answered z in
      let r = computed.answers (steps_of k) (finish_step a) (call_after B plan s k (finish a)).word e in
      rw (starts_times a k, finishes_times a k)
      (r.0, computed.any_order.last_started (steps_of k) a (call_after B plan s k (finish a)).word e, r.2)

  goes_on : (l : List Call) (a : ℕ) → a < item_count B → finishes_of B plan s a l < item_passes B a → (c : Call) × (is_step c ≡ true) × ((call_after B plan s l c).refusal ≡ 0)
  goes_on l a la m =
      let r = computed.any_order.progress (steps_of l) a la (omega (arith, finishes_shown a l)) in
      (call_of r.0, picks_steps.steps r.0, (step_follows plan can long formed (play plan s l) (reached (system B) can (steps_of l)) r.0 (tied l)).replied r.1 r.2)

  leads_on : (l : List Call) → (k : List Call) × (accepted plan is_step (play plan s l) k ≡ length k) × AtEnd B plan s (l ++ k)
  leads_on l = go (computed.any_order.completes (steps_of l))
    where
      go : (k : List Step) × (accepted_steps (system B) can any_call (reached (system B) can (steps_of l)) k ≡ length k) × End (system B) (reached (system B) can (steps_of l ++ k)) →
          (k : List Call) × (accepted plan is_step (play plan s l) k ≡ length k) × AtEnd B plan s (l ++ k)
      go (k, n, e) = (
        map call_of k,
        play_accepted plan can long formed is_step any_call picks_steps (map call_of k) (play plan s l) (reached (system B) can (steps_of l)) (tied l)
            ∙ (ap (accepted_steps (system B) can any_call (reached (system B) can (steps_of l))) (steps_calls k) ∙ (n ∙ sym (length-map k call_of))),
        (end_shown (l ++ map call_of k)).1 (rw (steps_append l (map call_of k), steps_calls k) e),
      )

  clear : (l : List Call) → Clear plan (play plan s l).counts (play plan s l).values
  clear l = tied_clear plan long formed (play plan s l) (reached (system B) can (steps_of l)) (tied l)

  counted : (l : List Call) (a : ℕ) → a < item_count B →
      (get_or (play plan s l).counts a 0 ≡ starts_of B plan s a l) × (get_or (play plan s l).counts (first_finished + a) 0 ≡ finishes_of B plan s a l)
  counted l a la = (
    (tied l).agree.started a la ∙ (computed.any_order.starts (steps_of l) a ∙ sym (starts_times a l)),
    (tied l).agree.finished a la ∙ sym (finishes_shown a l),
  )

  done_shown : (l : List Call) → AtEnd B plan s l ↔ Done plan long formed s open-tied l
  done_shown l = (λ e a la. (counted l a la).1 ∙ e a la, λ d a la. sym (counted l a la).1 ∙ d a la)

  ends : (l : List Call) → AtEnd B plan s l ↔ (accepted plan is_step s l ≡ total_steps B)
  ends l =
      let t = done_total plan long formed s open-tied l in
      (λ e. t.0 ((done_shown l).0 e), λ n. (done_shown l).1 (t.1 n))

  accepts_results : (l : List Call) (g : ℕ) → g < B.regions → AtEnd B plan s l ↔ ((call_after B plan s l (result g)).refusal ≡ 0)
  accepts_results l g lg =
      let c = result_complete plan (play plan s l).counts (play plan s l).values (clear l) g in
      (λ e. c.1 (lg, (done_shown l).0 e), λ z. (done_shown l).1 (c.0 z).1)

  results : (k : List Call) (g : ℕ) → (call_after B plan s k (result g)).refusal ≡ 0 →
      (g < B.regions) × AtEnd B plan s k × ((call_after B plan s k (result g)).word ≡ loop_final B g)
  results k g z =
      let lg : g < B.regions = ((result_complete plan (play plan s k).counts (play plan s k).values (clear k) g).0 z).0 in
      (lg, (accepts_results k g lg).1 z, result_final plan long formed s open-tied k g z)

  replied : (l k m : List Call) (c : Call) → l ≡ k ++ (c ∷ m) → get_or (replies plan s l) (length k) (call_after B plan s l c) ≡ call_after B plan s k c
  replied l k m c e = ap (λ (v : List Call). get_or (replies plan s v) (length k) (call_after B plan s l c)) e ∙ replies_at plan k m c s (call_after B plan s l c)

  tied_order : (l : List Call) → InAnyOrder B plan s l
  tied_order l =
      record {
        starts = λ k m a e z. starts k a z;
        finishes = λ k m a e z. finishes k a z;
        results = λ k m g e z. results k g z;
        counted = counted l;
        numbers = fresh_all plan formed (play plan s l).counts (play plan s l).values (tied l).fresh;
        accepts_starts = start_rule plan (play plan s l).counts (play plan s l).values (clear l) (tied l).fresh;
        waits = λ a.
            let k = start_16 plan (play plan s l).counts (play plan s l).values a (tied l).fresh in
            (λ e. let h = k.0 e in (h.1, h.2, h.3, h.4), λ h. k.1 (clear l, h.0, h.1, h.2, h.3));
        replied = replied l;
        goes_on = goes_on l;
        leads_on = leads_on l;
        ends = ends l;
        accepts_results = accepts_results l;
        final = λ g z. (results l g z).2;
      }

-- from an accepted opening
module _ (plan counts values : List ℕ) (z : (open_of plan counts values).refusal ≡ 0) where
  parts : (long_slices plan counts values ≡ true) × (formed_plan plan ≡ true)
  parts = (open_accepted plan counts values).0 z

  sizes : (plan_words ≤ length plan) × (count_words ≤ length counts) × (value_words ≤ length values)
  sizes = (long_slices_lem plan counts values).0 parts.0

  pub open_order : (l : List Call) → InAnyOrder (plan_body plan) plan (lent_by (open_of plan counts values)) l
  open_order = tied_order plan sizes.0 parts.1 (lent_by (open_of plan counts values)) (opening_tied plan counts values z)

  pub open_clear : (l : List Call) → let s = play plan (lent_by (open_of plan counts values)) l in Clear plan s.counts s.values
  open_clear = clear plan sizes.0 parts.1 (lent_by (open_of plan counts values)) (opening_tied plan counts values z)

pub in_any_order : (w behind counts values : List ℕ) → length w ≡ plan_words → in_form w ≡ true → count_words ≤ length counts → value_words ≤ length values →
    ((open_of (w ++ behind) counts values).refusal ≡ 0)
    × ((l : List Call) → InAnyOrder (body_of w) (w ++ behind) (lent_by (open_of (w ++ behind) counts values)) l)
    × ((l : List Call) → let s = play (w ++ behind) (lent_by (open_of (w ++ behind) counts values)) l in Clear (w ++ behind) s.counts s.values)
in_any_order w behind counts values size form long_counts long_values = (
  accepted,
  λ l. subst (λ (v : List ℕ). InAnyOrder (body_of v) (w ++ behind) (lent_by (open_of (w ++ behind) counts values)) l) front (open_order (w ++ behind) counts values accepted l),
  open_clear (w ++ behind) counts values accepted,
)
  where
    front : take plan_words (w ++ behind) ≡ w
    front = take_at w behind plan_words size

    accepted : (open_of (w ++ behind) counts values).refusal ≡ 0
    accepted =
        (open_accepted (w ++ behind) counts values).1
        ((long_slices_lem (w ++ behind) counts values).1 (omega (arith, length-append w behind), long_counts, long_values), ap in_form front ∙ form)
