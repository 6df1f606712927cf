-- Turns of the run program: with no item running, the start of the lowest item that is ready and then its finish are the steps that come next,
-- and again no item runs.
use Prim.Native.Nat.{ℕ, suc, ◌+◌, ◌*◌, ◌≤◌, ◌<◌}
use mathlib.Core.Path.{◌≡◌, refl, sym, ◌∙◌, ap, ap₂, subst}
use mathlib.Core.Bool.{Bool, true, false, cond, ◌&&◌}
use mathlib.Core.Logic.{inl}
use mathlib.Core.List.{List, [], ◌∷◌, ◌++◌}
use native.Mathlib.Decide.{ℕ_discrete}
use native.Mathlib.Omega.{arith}
use borrow.Author.Tests.{eqb-true, ltb-true, eq-eqb, lt-ltb, le-leb}
use lib.Dec.{eqb, ltb, leb}
use lib.ListN.{length, get_or, set, take, length-append}
use lib.Seq.{take_all, length-take-le, get_or-set_other}
use Rattle.finite.specs.Below.{all_below, sum_below}
use Rattle.finite.specs.Lists.{mem}
use Rattle.finite.specs.Update.{update, replaced}
use Rattle.finite.proofs.Below.{sum_le, sum_const, sum_suc, sum_ext}
use Rattle.finite.proofs.Tests.{and-true, and_intro, not_both}
use Rattle.finite.proofs.Update.{set_at, update_same, update_other}
use Rattle.unroll.specs.Sequential.{word_on}
use Rattle.unroll.specs.Machine.{State, finish_state}
use Rattle.body.specs.Body.{Body}
use Rattle.body.specs.Items.{item_count, item_at, item_passes}
use Rattle.body.proofs.Wrapped.{passes_most}
use Rattle.body.specs.Places.{system, result_of as region_result}
use Rattle.edges.specs.Tests.{edge_test}
use Rattle.waits.specs.Stored.{finished_numbers}
use Rattle.plan.specs.Sizes.{max_items}
use Rattle.plan.specs.Layout.{plan_words, body_of}
use Rattle.plan.specs.Form.{in_form}
use Rattle.graph.specs.Answers.{refusal_of, long_plan, formed_plan, plan_body}
use Rattle.steps.specs.State.{count_words, value_words, first_finished, first_unmet, first_held, state_of, done_by, unmet_by, FreshNumbers}
use Rattle.steps.specs.Answers.{Left, count_ok, formed_counts, start_tests, finish_tests, result_tests, unless, opened, started, start_of, finished, finished_counts, finish_of, result_of}
use Rattle.steps.specs.Calls.{Call, start, finish, result, is_step, Lent, lent_by, call, play, accepted}
use Rattle.steps.specs.Running.{Accepts, Next, Taken}
use Rattle.steps.specs.Turns.{is_ready, Idle, Going, Over}
use Rattle.steps.proofs.Accepting.{Clear, formed_counts_lem, start_turn, start_can, start_started, finish_can, finish_finished}
use Rattle.steps.proofs.Simulating.{Tied, opened_tied, tied_clear, start_left, finish_left}
use Rattle.steps.proofs.Placing.{items_few}
use Rattle.steps.proofs.Numbered.{opened_started, opened_finished, finished_stay, finished_done}

-- lists of steps that come next

module _ (plan : List ℕ) where
  pub play_snoc : (s : Lent) (l : List Call) (c : Call) → play plan s (l ++ (c ∷ [])) ≡ lent_by (call plan (play plan s l) c)
  unfolding play
  play_snoc s [] c = refl
  play_snoc s (d ∷ l) c = play_snoc (lent_by (call plan s d)) l c

  pub taken_snoc : (s : Lent) (l : List Call) (c : Call) → Taken plan s l → Next plan (play plan s l) c → Taken plan s (l ++ (c ∷ []))
  unfolding play Taken
  taken_snoc s [] c t n = (n, tt)
  taken_snoc s (d ∷ l) c (m, t) n = (m, taken_snoc (lent_by (call plan s d)) l c t n)

  -- all of them are accepted
  pub taken_accepted : (s : Lent) (l : List Call) → Taken plan s l → accepted plan is_step s l ≡ length l
  unfolding Taken accepted
  taken_accepted s [] t = refl
  taken_accepted s (start a ∷ l) (n, t) = rw (eq-eqb (call plan s (start a)).refusal 0 n.0) (omega (arith, taken_accepted (lent_by (call plan s (start a))) l t))
  taken_accepted s (finish a ∷ l) (n, t) = rw (eq-eqb (call plan s (finish a)).refusal 0 n.0) (omega (arith, taken_accepted (lent_by (call plan s (finish a))) l t))
  taken_accepted s (result g ∷ l) (n, t) = absurd n

-- after one pass more of item a
done_sum : (n : ℕ) (C D : List ℕ) (a : ℕ) → a < n → ((b : ℕ) → b < n → done_by D b ≡ update (done_by C) a (suc (done_by C a)) b) →
    sum_below n (done_by D) ≡ suc (sum_below n (done_by C))
done_sum n C D a l done =
    sum_ext n (done_by D) (update (done_by C) a (suc (done_by C a))) done
    ∙ sum_suc n (done_by C) (update (done_by C) a (suc (done_by C a))) a l (update_same (done_by C) a (suc (done_by C a))) (update_other (done_by C) a (suc (done_by C a)))

-- a lent state in form
module _ (plan : List ℕ) (s : Lent) where
  here_tied : count_words ≤ length s.counts → value_words ≤ length s.values → formed_counts plan s.counts s.values ≡ true →
      FreshNumbers (plan_body plan) s.counts → Tied plan s (state_of s.counts s.values)
  here_tied c v f n =
      record {
        long_counts = c;
        long_values = v;
        formed = f;
        fresh = n;
        agree = record { started = λ a l. refl; finished = λ a l. refl; held = λ a l. refl; places = λ a x l h. refl };
      }

  idle_tied : Idle plan s → Tied plan s (state_of s.counts s.values)
  idle_tied I = here_tied I.long_counts I.long_values I.formed I.fresh

  tied_idle : (σ : State) → Tied plan s σ → ((a : ℕ) → a < item_count (plan_body plan) → get_or s.counts a 0 ≡ done_by s.counts a) → Idle plan s
  tied_idle σ t h = record { long_counts = t.long_counts; long_values = t.long_values; formed = t.formed; idle = h; fresh = t.fresh }

module _ (plan : List ℕ) (long : plan_words ≤ length plan) (formed : formed_plan plan ≡ true) where
  few : item_count (plan_body plan) ≤ max_items
  few = items_few (take plan_words plan) formed

  module _ (s : Lent) (I : Idle plan s) where
    pub idle_clear : Clear plan s.counts s.values
    idle_clear = tied_clear plan long formed s (state_of s.counts s.values) (idle_tied plan s I)

    pub idle_no_finish : (b : ℕ) → Accepts plan s (finish b) → ⊥
    idle_no_finish b h = let k = (finish_can plan s.counts s.values idle_clear b).0 h in omega (arith, k.running, I.idle b k.in_range)

    -- a start is accepted exactly where its item is ready
    pub accepted_ready : (a : ℕ) → Accepts plan s (start a) → (a < item_count (plan_body plan)) × (is_ready (plan_body plan) s.counts a ≡ true)
    unfolding is_ready
    accepted_ready a h =
        let r = (start_turn plan s.counts s.values idle_clear a).0 h in (
          r.0,
          and_intro (ltb (done_by s.counts a) (item_passes (plan_body plan) a)) (eqb (unmet_by s.counts a) 0)
              (lt-ltb (done_by s.counts a) (item_passes (plan_body plan) a) r.1.0) (eq-eqb (unmet_by s.counts a) 0 r.1.2),
        )

    pub ready_accepted : (a : ℕ) → a < item_count (plan_body plan) → is_ready (plan_body plan) s.counts a ≡ true → Accepts plan s (start a)
    unfolding is_ready
    ready_accepted a l h =
        let p = and-true (ltb (done_by s.counts a) (item_passes (plan_body plan) a)) (eqb (unmet_by s.counts a) 0) h in
        (start_turn plan s.counts s.values idle_clear a).1
        (l, (ltb-true (done_by s.counts a) (item_passes (plan_body plan) a) p.0, I.idle a l, eqb-true (unmet_by s.counts a) 0 p.1))

    -- the finished passes of all items
    pub done_most : sum_below (item_count (plan_body plan)) (done_by s.counts) ≤ item_count (plan_body plan) * (plan_body plan).passes
    done_most =
        let m = sum_le (item_count (plan_body plan)) (done_by s.counts) (λ k. (plan_body plan).passes) (λ k l. omega (arith, ((formed_counts_lem plan s.counts s.values).0 I.formed k l).0, (passes_most (plan_body plan) (item_at (plan_body plan) k)).0)) in
        subst (λ (x : ℕ). sum_below (item_count (plan_body plan)) (done_by s.counts) ≤ x) (sum_const (item_count (plan_body plan)) (plan_body plan).passes) m

    -- the lowest item that is ready
    module _ (a : ℕ) (la : a < item_count (plan_body plan)) (ready : is_ready (plan_body plan) s.counts a ≡ true)
        (lowest : (b : ℕ) → b < a → is_ready (plan_body plan) s.counts b ≡ false) where
      -- the state after its start, and after its finish
      abbrev pub begun : Lent
      begun = lent_by (started plan s.counts s.values a)

      abbrev pub ended : Lent
      ended = lent_by (finished plan begun.counts begun.values a)

      pub start_next : Next plan s (start a)
      start_next = (ready_accepted a la ready, idle_no_finish, λ b l h. not_both (accepted_ready b h).1 (lowest b l))

      pub start_leaves : lent_by (call plan s (start a)) ≡ begun
      start_leaves = ap lent_by (start_started plan s.counts s.values a (ready_accepted a la ready))

      count_room : a < length s.counts
      count_room = omega (arith, la, few, I.long_counts)

      begun_tied : Tied plan begun (state_of begun.counts begun.values)
      begun_tied =
          let t = start_left plan long formed s (state_of s.counts s.values) (idle_tied plan s I) a ((start_can plan s.counts s.values idle_clear I.fresh a).0 (ready_accepted a la ready)) in
          here_tied plan begun t.long_counts t.long_values t.formed t.fresh

      begun_done : (b : ℕ) → done_by begun.counts b ≡ done_by s.counts b
      begun_done b = get_or-set_other s.counts a (first_finished + b) (suc (get_or s.counts a 0)) 0 (λ e. omega (arith, la, few))

      begun_own : get_or begun.counts a 0 ≡ suc (done_by s.counts a)
      begun_own =
          set_at s.counts a a (suc (get_or s.counts a 0)) 0 count_room
          ∙ (ap (λ (t : Bool). cond t (suc (get_or s.counts a 0)) (get_or s.counts a 0)) (eq-eqb a a refl) ∙ ap suc (I.idle a la))

      begun_other : (b : ℕ) → (b ≡ a → ⊥) → b < item_count (plan_body plan) → get_or begun.counts b 0 ≡ done_by s.counts b
      begun_other b n l = get_or-set_other s.counts a b (suc (get_or s.counts a 0)) 0 n ∙ I.idle b l

      begun_clear : Clear plan begun.counts begun.values
      begun_clear = tied_clear plan long formed begun (state_of begun.counts begun.values) begun_tied

      begun_running : Accepts plan begun (finish a)
      begun_running = (finish_can plan begun.counts begun.values begun_clear a).1 (record { in_range = la; running = begun_own ∙ ap suc (sym (begun_done a)) })

      pub finish_next : Next plan begun (finish a)
      finish_next = (begun_running, none_below)
        where
          none_below : (b : ℕ) → b < a → Accepts plan begun (finish b) → ⊥
          none_below b l h =
              let k = (finish_can plan begun.counts begun.values begun_clear b).0 h in
              omega (arith, k.running, begun_other b (λ e. omega arith) k.in_range, begun_done b)

      pub finish_leaves : lent_by (call plan begun (finish a)) ≡ ended
      finish_leaves = ap lent_by (finish_finished plan begun.counts begun.values a begun_running)

      ended_tied : Tied plan ended (finish_state (system (plan_body plan)) (state_of begun.counts begun.values) a)
      ended_tied = finish_left plan long formed begun (state_of begun.counts begun.values) begun_tied a ((finish_can plan begun.counts begun.values begun_clear a).0 begun_running)

      -- a has finished one pass more, and no other is counted
      pub ended_done : (b : ℕ) → b < item_count (plan_body plan) → done_by ended.counts b ≡ update (done_by s.counts) a (suc (done_by s.counts a)) b
      unfolding update
      ended_done b l =
          finished_done plan begun.counts begun.values few begun_tied.long_counts a la b l
          ∙ ap₂ (λ x y. cond (eqb b a) x y) (ap suc (begun_done a)) (begun_done b)

      ended_started : (b : ℕ) → b < item_count (plan_body plan) → get_or ended.counts b 0 ≡ get_or begun.counts b 0
      ended_started b l = finished_stay plan begun.counts begun.values few begun_tied.long_counts a la b (λ e. omega (arith, l, few)) (inl (omega (arith, l, few)))

      pub ended_idle : Idle plan ended
      ended_idle = tied_idle plan ended _ ended_tied same
        where
          same : (b : ℕ) → b < item_count (plan_body plan) → get_or ended.counts b 0 ≡ done_by ended.counts b
          same b l =
              elim (ℕ_discrete b a) [
                | yes e ↦ subst (λ (x : ℕ). get_or ended.counts x 0 ≡ done_by ended.counts x) (sym e)
                    (ended_started a la ∙ (begun_own ∙ sym (ended_done a la ∙ update_same (done_by s.counts) a (suc (done_by s.counts a)))))
                | no n ↦ ended_started b l ∙ (begun_other b n l ∙ sym (ended_done b l ∙ update_other (done_by s.counts) a (suc (done_by s.counts a)) b n))
              ]

  pub going_most : (s₀ s : Lent) (steps : ℕ) → Going plan s₀ s steps → steps ≤ 2 * (item_count (plan_body plan) * (plan_body plan).passes)
  going_most s₀ s steps G = omega (arith, G.sum, done_most s G.idle)

  pub going_none : (s : Lent) → Idle plan s → Going plan s s 0
  unfolding Taken play
  going_none s I = record { calls = []; taken = tt; reached = refl; counted = refl; idle = I; sum = omega arith }

  -- with no item running and none ready no step is accepted
  pub none_ready : (s : Lent) → Idle plan s → ((b : ℕ) → b < item_count (plan_body plan) → is_ready (plan_body plan) s.counts b ≡ false) → Over plan s
  none_ready s I n (start a) z h = let r = accepted_ready s I a h in not_both r.1 (n a r.0)
  none_ready s I n (finish a) z h = idle_no_finish s I a h
  none_ready s I n (result g) z h = not_both z refl

  pub going_turn : (s₀ s : Lent) (steps : ℕ) → Going plan s₀ s steps → (a : ℕ) → a < item_count (plan_body plan) → is_ready (plan_body plan) s.counts a ≡ true →
      ((b : ℕ) → b < a → is_ready (plan_body plan) s.counts b ≡ false) →
      Going plan s₀ (lent_by (finished plan (started plan s.counts s.values a).counts (started plan s.counts s.values a).values a)) (steps + 2)
  going_turn s₀ s steps G a la ready lowest =
      record {
        calls = (G.calls ++ (start a ∷ [])) ++ (finish a ∷ []);
        taken = taken_snoc plan s₀ (G.calls ++ (start a ∷ [])) (finish a)
            (taken_snoc plan s₀ G.calls (start a) G.taken (subst (λ (x : Lent). Next plan x (start a)) G.reached (start_next s G.idle a la ready lowest)))
            (subst (λ (x : Lent). Next plan x (finish a)) begun_reached (finish_next s G.idle a la ready lowest));
        reached = sym (finish_leaves s G.idle a la ready lowest)
            ∙ (ap (λ (x : Lent). lent_by (call plan x (finish a))) begun_reached ∙ sym (play_snoc plan s₀ (G.calls ++ (start a ∷ [])) (finish a)));
        counted = omega (arith, G.counted, length-append G.calls (start a ∷ []), length-append (G.calls ++ (start a ∷ [])) (finish a ∷ []));
        idle = ended_idle s G.idle a la ready lowest;
        sum = omega (arith, G.sum, done_sum (item_count (plan_body plan)) s.counts (ended s G.idle a la ready lowest).counts a la (ended_done s G.idle a la ready lowest));
      }
    where
      begun_reached : begun s G.idle a la ready lowest ≡ play plan s₀ (G.calls ++ (start a ∷ []))
      begun_reached =
          sym (start_leaves s G.idle a la ready lowest)
          ∙ (ap (λ (x : Lent). lent_by (call plan x (start a))) G.reached ∙ sym (play_snoc plan s₀ G.calls (start a)))

  pub opened_idle : (counts values : List ℕ) → count_words ≤ length counts → value_words ≤ length values → Idle plan (lent_by (opened plan counts values))
  opened_idle counts values c v =
      tied_idle plan (lent_by (opened plan counts values)) _ (opened_tied plan formed counts values c v)
      (λ a l. opened_started plan counts values few c a l ∙ sym (opened_finished plan counts values few c a l))

-- a plan cut to its words gets the same answers: they depend on its body, and on whether it is long enough and in form
module _ (s : Lent) (long formed : Bool) (B : Body) where
  state : State
  state = state_of s.counts s.values

  judge : Bool → ℕ → Left → Left
  unfolding state
  judge within tests made =
      unless [] s.counts s.values
      (refusal_of (long && (leb count_words (length s.counts) && leb value_words (length s.values))) (formed && (all_below (item_count B) (λ a. count_ok (item_passes B a) state a) && all_below (item_count B) (λ a. leb (unmet_by s.counts a) (item_count B)))) within)
      (unless [] s.counts s.values tests made)

  answer_by : Call → Left
  unfolding state judge
  answer_by (start a) =
      judge (ltb a (item_count B)) (start_tests B state (unmet_by s.counts a) a)
      (record {
        refusal = 0;
        word = word_on (system B) a state.places;
        counts = set s.counts a (suc (state.started a));
        values = set s.values (first_held + a) (word_on (system B) a state.places);
      })
  answer_by (finish a) =
      judge (ltb a (item_count B)) (finish_tests state a)
      (record {
        refusal = 0;
        word = state.held a;
        counts = set (finished_numbers (system B) (edge_test B) first_unmet (done_by s.counts) a s.counts) (first_finished + a) (suc (done_by s.counts a));
        values = replaced (λ x. mem x ((system B).writes a)) (λ x. state.held a) s.values;
      })
  answer_by (result g) = judge (ltb g B.regions) (result_tests B state) (record { refusal = 0; word = region_result B state g; counts = s.counts; values = s.values })

answered_by : (plan : List ℕ) (s : Lent) (c : Call) → call plan s c ≡ answer_by s (long_plan plan) (in_form (take plan_words plan)) (body_of (take plan_words plan)) c
unfolding start_of finish_of finished_counts result_of answer_by judge state
answered_by plan s (start a) = refl
answered_by plan s (finish a) = refl
answered_by plan s (result g) = refl

module _ (plan : List ℕ) (long : plan_words ≤ length plan) where
  pub cut_again : take plan_words (take plan_words plan) ≡ take plan_words plan
  cut_again = take_all plan_words (take plan_words plan) (omega (arith, length-take-le plan_words plan long))

  long_cut : long_plan (take plan_words plan) ≡ long_plan plan
  long_cut = le-leb plan_words (length (take plan_words plan)) (omega (arith, length-take-le plan_words plan long)) ∙ sym (le-leb plan_words (length plan) long)

  pub call_cut : (s : Lent) (c : Call) → call (take plan_words plan) s c ≡ call plan s c
  call_cut s c =
      answered_by (take plan_words plan) s c
      ∙ (ap (λ (v : List ℕ). answer_by s (long_plan (take plan_words plan)) (in_form v) (body_of v) c) cut_again
      ∙ (ap (λ (b : Bool). answer_by s b (in_form (take plan_words plan)) (body_of (take plan_words plan)) c) long_cut
      ∙ sym (answered_by plan s c)))

  next_cut : (s : Lent) (c : Call) → Next (take plan_words plan) s c → Next plan s c
  next_cut s (start a) n = (
    subst (λ (r : Left). r.refusal ≡ 0) (call_cut s (start a)) n.0,
    λ b h. n.1 b (subst (λ (r : Left). r.refusal ≡ 0) (sym (call_cut s (finish b))) h),
    λ b l h. n.2 b l (subst (λ (r : Left). r.refusal ≡ 0) (sym (call_cut s (start b))) h),
  )
  next_cut s (finish a) n = (
    subst (λ (r : Left). r.refusal ≡ 0) (call_cut s (finish a)) n.0,
    λ b l h. n.1 b l (subst (λ (r : Left). r.refusal ≡ 0) (sym (call_cut s (finish b))) h),
  )
  next_cut s (result g) n = absurd n

  pub taken_cut : (s : Lent) (l : List Call) → Taken (take plan_words plan) s l → Taken plan s l
  unfolding Taken
  taken_cut s [] t = tt
  taken_cut s (c ∷ l) (n, t) = (
    next_cut s c n,
    taken_cut (lent_by (call plan s c)) l (subst (λ (r : Left). Taken (take plan_words plan) (lent_by r) l) (call_cut s c) t),
  )

  pub play_cut : (s : Lent) (l : List Call) → play (take plan_words plan) s l ≡ play plan s l
  unfolding play
  play_cut s [] = refl
  play_cut s (c ∷ l) = ap (λ (r : Left). play (take plan_words plan) (lent_by r) l) (call_cut s c) ∙ play_cut (lent_by (call plan s c)) l
