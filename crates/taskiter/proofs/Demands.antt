-- The three demands, proved.
use Prim.Native.Nat.{ℕ, ◌≤◌, ◌<◌}
use mathlib.Core.Path.{◌≡◌, refl, sym, ◌∙◌, ap, subst}
use mathlib.Core.Bool.{Bool, true, false, cond}
use mathlib.Core.Logic.{◌↔◌}
use mathlib.Core.List.{List, [], ◌++◌}
use native.Mathlib.Omega.{arith}
use borrow.Author.Tests.{le-leb}
use lib.Dec.{leb}
use lib.ListN.{length, get_or, take, drop, replicate}
use lib.Seq.{take_at}
use Rattle.body.specs.Transfers.{transfer_count}
use Rattle.body.specs.Items.{total_steps}
use Rattle.body.specs.Places.{system}
use Rattle.body.proofs.Theorems.{laws as body-laws}
use Rattle.edges.proofs.Decided.{edge_distance_is}
use Rattle.plan.specs.Limits.{max_bytes, max_transfers, max_word}
use Rattle.plan.specs.Layout.{plan_words, body_of}
use Rattle.kernels.proofs.Mean.{mean_laws}
use Rattle.text.specs.Records.{split}
use Rattle.reading.specs.Plan.{Plan, words_of}
use Rattle.reading.specs.Reading.{Reading, accepted as read_to, refused as not_read, read_of}
use Rattle.reading.specs.Refusals.{Fit, fit, no_fit, fit_from}
use Rattle.reading.specs.Laws.{Says, Holds, Answers}
use Rattle.reading.proofs.Theorems.{laws as reading-laws, text_laws, form_parts}
use Rattle.reader.specs.declared.Answer.{Answer}
use Rattle.reader.specs.Answer.{Reads, answer_of, left_in}
use Rattle.graph.specs.declared.Number.{Number}
use Rattle.graph.specs.Answers.{formed_plan, plan_body, TotalAnswer}
use Rattle.graph.proofs.Small.{plan_fits}
use Rattle.steps.specs.State.{count_words, value_words}
use Rattle.steps.specs.Answers.{long_slices, open_of}
use Rattle.steps.specs.Calls.{Call, Lent, lent_by, play}
use Rattle.steps.proofs.Accepting.{long_slices_lem, Clear, open_short, open_unchanged, open_accepted, start_clear}
use Rattle.steps.proofs.Accepting.{start_turn, start_rule, finish_clear, finish_can, result_clear, result_complete, every_short, every_unchanged}
use Rattle.steps.proofs.Made.{start_word, start_counts, start_values}
use Rattle.journal.proofs.Theorems.{laws as journal-laws}
use Rattle.taskiter.specs.Demands.{FitTold, TextRead, PlanReady, Steps, Demand1, Demand2, steps_of, AtEnd, InAnyOrder, ReadyAfter, PreparedGiven, Opened, Demand3, Demands}
use Rattle.taskiter.proofs.Freshness.{one_count, all_fresh, stays_fresh}
use Rattle.taskiter.proofs.AnyOrder.{in_any_order}
use Rattle.taskiter.proofs.Unread.{unread}
use Rattle.taskiter.proofs.Means.{mean_words}
use Rattle.taskiter.proofs.Kept.{kept, counts_fit}
use Rattle.taskiter.proofs.Readiness.{ready_long, ready_form, ready_clear, counts_ready, form_ready, clear_ready}
use Rattle.taskiter.proofs.Writing.{text_given}
use Rattle.taskiter.proofs.Giving.{items_given, edges_given, total_given}
use Rattle.taskiter.proofs.Listing.{ready_given, ready_after}
use Rattle.taskiter.proofs.Preparation.{start_refused, finish_refused, prepared_given}
use Rattle.taskiter.proofs.Replying.{call_word, word_call, in_words, play_refused, play_given}
use Rattle.taskiter.proofs.Journals.{checking, checking_more, check_given, more_given}
use Rattle.taskiter.proofs.Numbering.{numbers, open_made, finish_made, result_made, room, held_apart, own_rank}

-- demand 1

module _ (text plan : List ℕ) (r : Answer) (left : List ℕ) (R : Reads text plan r left) where
  module _ (long : plan_words ≤ length plan) where
    answered : (x : Reading) → read_of text ≡ x → r ≡ answer_of x
    answered x e = R.answer long ∙ ap answer_of e

    stands : (x : Reading) → read_of text ≡ x → left ≡ left_in plan x
    stands x e = R.leaves long ∙ ap (left_in plan) e

    refusal_of_lem : (x : Reading) → read_of text ≡ x → r.refusal ≡ (answer_of x).refusal
    refusal_of_lem x e = ap (λ (a : Answer). a.refusal) (answered x e)

    line_of : (x : Reading) → read_of text ≡ x → r.line ≡ (answer_of x).line
    line_of x e = ap (λ (a : Answer). a.line) (answered x e)

    good : (P : Plan) → Says text P → (r.refusal ≡ 0) × (r.line ≡ 0) × (left ≡ words_of P ++ drop plan_words plan)
    good P S =
        let e : read_of text ≡ read_to (words_of P) = (reading-laws.accepts text (words_of P)).1 (P, S, refl) in
        (refusal_of_lem _ e, line_of _ e, stands _ e)

    none_other : r.refusal ≡ 0 → (P : Plan) × Says text P
    none_other z = go (read_of text) refl
      where
        go : (x : Reading) → read_of text ≡ x → (P : Plan) × Says text P
        go (read_to w) e = let p = (reading-laws.accepts text w).0 e in (p.0, p.1)
        go (not_read n l) e = absurd (omega (arith, (reading-laws.numbers text n l e).0, refusal_of_lem (not_read n l) e))

    bad : (r.refusal ≡ 0 → ⊥) → (1 ≤ r.refusal) × (r.refusal ≤ 10) × (left ≡ replicate plan_words 0 ++ drop plan_words plan)
    bad z = go (read_of text) refl
      where
        go : (x : Reading) → read_of text ≡ x → (1 ≤ r.refusal) × (r.refusal ≤ 10) × (left ≡ replicate plan_words 0 ++ drop plan_words plan)
        go (read_to w) e = absurd (z (refusal_of_lem (read_to w) e))
        go (not_read n l) e =
            let k = reading-laws.numbers text n l e in
            (omega (arith, k.0, refusal_of_lem (not_read n l) e), omega (arith, k.1, refusal_of_lem (not_read n l) e), stands (not_read n l) e)

    fit_told : (f : Fit) → Answers text (read_of text) f → FitTold text r f
    fit_told (fit n l) e = answered (not_read n l) e
    fit_told (no_fit l) (P, lines, within, some, e) = (P, lines, within, some, go (leb (transfer_count (body_of (words_of P))) max_transfers) e)
      where
        go : (b : Bool) → read_of text ≡ cond b (read_to (words_of P)) (not_read 10 l) → r ≡ cond b (record { refusal = 0; line = 0 }) (record { refusal = 10; line = l })
        go true k = answered (read_to (words_of P)) k
        go false k = answered (not_read 10 l) k

    too_long : max_bytes < length text → (r.refusal ≡ 10) × (r.line ≡ 0)
    too_long h = let e = reading-laws.too_long text h in (refusal_of_lem (not_read 10 0) e, line_of (not_read 10 0) e)

  text_read : TextRead text plan r left
  text_read =
      record {
        short = λ h. (ap (λ (a : Answer). a.refusal) (R.short h).0, ap (λ (a : Answer). a.line) (R.short h).0, (R.short h).1);
        good = good;
        none_other = none_other;
        bad = bad;
        first = λ l h. fit_told l (fit_from 1 [] (split 10 text)) (reading-laws.first_fits text h);
        too_long = too_long;
      }

demand_1 : Demand1
demand_1 =
    record {
      reading = text_read;
      opening = λ plan counts values. record { short = open_short plan counts values; changes_nothing = open_unchanged plan counts values };
      steps = λ plan s c. record { short = every_short plan s c; changes_nothing = every_unchanged plan s c };
      playing = play_refused;
      prepared_starts = start_refused;
      prepared_finishes = finish_refused;
      checking = checking;
      checking_more = checking_more;
      journal_lines = journal-laws.says;
      writing = text_given;
      texts = text_laws;
    }

-- demand 2

module _ (plan counts values : List ℕ) (words : (i : ℕ) → get_or plan i 0 ≤ max_word) where
  steps : Steps plan counts values
  steps =
      record {
        items = λ R. body-laws.meaning (plan_body plan) (plan_fits (take plan_words plan) (ready_form plan counts values R));
        own_rank = own_rank plan counts values;
        room = room plan counts values;
        held_apart = held_apart plan counts values;
        opens = (
          λ h. let k = (open_accepted plan counts values).0 h in form_ready plan counts values words k.0 k.1,
          λ R. (open_accepted plan counts values).1 (ready_long plan counts values R, ready_form plan counts values R),
        );
        one_edge = λ R a b d e p q. edge_distance_is (system (plan_body plan)) a b d p ∙ sym (edge_distance_is (system (plan_body plan)) a b e q);
        one_count = λ R. one_count plan (ready_form plan counts values R) counts values;
        starts_stored = λ a. (
          λ h.
              let k = start_clear plan counts values a h in
              let t = (start_turn plan counts values k a).0 h in
              (clear_ready plan counts values words k, record { in_range = t.0; left = t.1.0; idle = t.1.1; none_unmet = t.1.2 }),
          λ h. (start_turn plan counts values (ready_clear plan counts values h.0) a).1 (h.1.in_range, (h.1.left, h.1.idle, h.1.none_unmet)),
        );
        starts = λ F a. (
          λ h.
              let k = start_clear plan counts values a h in
              (clear_ready plan counts values words k, (start_rule plan counts values k (all_fresh plan k.formed_plan_lem counts values F) a).0 h),
          λ h.
              let k = ready_clear plan counts values h.0 in
              (start_rule plan counts values k (all_fresh plan k.formed_plan_lem counts values F) a).1 h.1,
        );
        finishes = λ a. (
          λ h. let k = finish_clear plan counts values a h in (clear_ready plan counts values words k, (finish_can plan counts values k a).0 h),
          λ h. (finish_can plan counts values (ready_clear plan counts values h.0) a).1 h.1,
        );
        results = λ g. (
          λ h. let k = result_clear plan counts values g h in let m = (result_complete plan counts values k g).0 h in (clear_ready plan counts values words k, m.0, m.1),
          λ h. (result_complete plan counts values (ready_clear plan counts values h.0) g).1 (h.1, h.2),
        );
        stays_fresh = stays_fresh plan counts values;
        numbers = numbers plan counts values words;
        opened = open_made plan counts values;
        started = λ a h. record { word = start_word plan counts values a h; counted = start_counts plan counts values a h; held = start_values plan counts values a h };
        finished = finish_made plan counts values;
        shown = result_made plan counts values;
      }

demand_2 : Demand2
demand_2 = record { items = items_given; edges = edges_given; total = total_given; steps = steps; ready = λ plan counts values items r items' words A. ready_given plan counts values items r items' A words; unread = unread }

-- demand 3

opened_order : (text w behind counts values : List ℕ) → read_of text ≡ read_to w → count_words ≤ length counts → value_words ≤ length values →
    Opened text w (w ++ behind) counts values
opened_order text w behind counts values e long_counts long_values =
    let p = (reading-laws.accepts text w).0 e in
    let size = (reading-laws.words text w e).size in
    let o = in_any_order w behind counts values size (reading-laws.in_form_lem text w e) long_counts long_values in
    record {
      size = size;
      says = (p.0, p.1, subst (λ (v : List ℕ). Holds v p.0) (sym p.2) (reading-laws.holds p.0 p.1.within));
      accepted = o.0;
      every_list = o.1;
      means = λ p t l k. mean_words w (form_parts w (reading-laws.in_form_lem text w e)).0 t l k p;
      total = λ r A. total_ends size ((open_accepted (w ++ behind) counts values).0 o.0) r A o.1;
      stays_ready = λ l. let s = play (w ++ behind) (lent_by (open_of (w ++ behind) counts values)) l in
          counts_ready (w ++ behind) s.counts s.values (read_ready s.counts s.values size (o.2 l)) (o.2 l).formed_counts_lem (o.2 l).formed_numbers_lem;
      ready = λ l items r items' room A.
          subst (λ (v : List ℕ). ReadyAfter (body_of v) (w ++ behind) opened l r items') (take_at w behind plan_words size)
          (ready_after (w ++ behind) counts values o.0 l items r items' room A);
      played = λ before calls answers r counts' values' answers' room P.
          play_given (body_of w) (w ++ behind) (lent_by (open_of (w ++ behind) counts values)) o.1 before calls answers (o.2 before).long room r counts' values' answers' P;
      prepared = λ tables r tables' room A.
          subst (λ (v : List ℕ). PreparedGiven (body_of v) (w ++ behind) opened r tables') (take_at w behind plan_words size)
          (prepared_given (w ++ behind) counts values o.0 tables r tables' room A);
      checked = check_given (body_of w) (w ++ behind) counts values o.0 o.1;
      resumed = more_given (body_of w) (w ++ behind) counts values o.0 o.1;
    }
  where
    read_ready : (c v : List ℕ) → length w ≡ plan_words → Clear (w ++ behind) c v → PlanReady (w ++ behind) c v
    read_ready c v size k =
        let l = (long_slices_lem (w ++ behind) c v).0 k.long in
        record { long_plan_lem = l.0; long_counts = l.1; long_values = l.2; read = (text, e ∙ ap read_to (sym (take_at w behind plan_words size))) }

    opened : Lent
    opened = lent_by (open_of (w ++ behind) counts values)

    total_ends : length w ≡ plan_words → (long_slices (w ++ behind) counts values ≡ true) × (formed_plan (w ++ behind) ≡ true) → (r : Number) → TotalAnswer (w ++ behind) r →
        ((l : List Call) → InAnyOrder (body_of w) (w ++ behind) opened l) →
        (r.refusal ≡ 0) × ((l : List Call) → AtEnd (body_of w) (w ++ behind) opened l ↔ (steps_of (body_of w) (w ++ behind) opened l ≡ r.number))
    total_ends size k r A order =
        let long = ((long_slices_lem (w ++ behind) counts values).0 k.0).0 in
        let z : r.refusal ≡ 0 = A.refusal ∙ rw (le-leb plan_words (length (w ++ behind)) long, k.1) in
        let is : r.number ≡ total_steps (body_of w) = A.total z ∙ ap (λ (v : List ℕ). total_steps (body_of v)) (take_at w behind plan_words size) in
        (z, λ l. (λ h. (order l).ends.0 h ∙ sym is, λ h. (order l).ends.1 (h ∙ is)))

demand_3 : Demand3
demand_3 = record { any_order = opened_order; nearest = mean_laws; word_of_lem = call_word; call_of_lem = word_call; in_words = in_words }

pub demands : Demands
demands = record { demand_1 = demand_1; demand_2 = demand_2; demand_3 = demand_3; kept = kept; counts_fit = counts_fit }
