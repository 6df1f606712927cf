-- The lent state and the states of unroll's machine: an opening ties it to the machine's opening, and each start or finish goes as the machine's.
use Prim.Native.Nat.{ℕ, suc, ◌+◌, ◌≤◌, ◌<◌}
use mathlib.Core.Path.{◌≡◌, sym, ◌∙◌, ap, ap₂, subst}
use mathlib.Core.Bool.{Bool, true, cond, ◌||◌}
use mathlib.Core.Logic.{inl, inr, ◌↔◌, ite, if_neg}
use mathlib.Core.List.{List}
use mathlib.Core.Option.{none, some, none-ne-some}
use native.Mathlib.Decide.{ℕ_discrete}
use native.Mathlib.Omega.{arith}
use borrow.Author.Tests.{eq-eqb, ne_eqb}
use lib.ListN.{length, get_or, take, length-set}
use lib.Seq.{get_or-set_other}
use Rattle.finite.specs.Lists.{mem}
use Rattle.finite.specs.Update.{update, put}
use Rattle.finite.proofs.Tests.{eqb_from}
use Rattle.finite.proofs.Update.{set_at, update_ind}
use Rattle.finite.proofs.Replaced.{length_replaced, replaced_at}
use Rattle.unroll.specs.System.{System}
use Rattle.unroll.specs.Machine.{State, Call as Step, start as start_step, finish as finish_step, opening, CanStart, CanFinish, start_state, finish_state, Can, after, answer, Decides, reply, step}
use Rattle.unroll.specs.Meaning.{Agree}
use Rattle.unroll.proofs.Local.{local}
use Rattle.unroll.proofs.Runs.{can_accepts, cannot_refuses, can_steps, can_counts, reply_some, reply_none}
use Rattle.body.specs.Items.{item_count, item_passes}
use Rattle.body.specs.Places.{initial, system}
use Rattle.edges.specs.Tests.{edge_test}
use Rattle.waits.proofs.Unmet.{count_most}
use Rattle.plan.specs.Sizes.{max_items}
use Rattle.plan.specs.Layout.{plan_words}
use Rattle.graph.specs.Answers.{formed_plan, plan_body}
use Rattle.graph.proofs.Small.{plan_fits}
use Rattle.steps.specs.State.{count_words, value_words, first_finished, first_held, state_of, done_by, FreshNumbers}
use Rattle.steps.specs.Answers.{Left, is_count, open_count, is_copy, is_slot, is_held, formed_counts, opened, open_of, word_now, started, finished}
use Rattle.steps.specs.Calls.{Call, start, finish, result, Lent, lent_by, call, is_accepted}
use Rattle.steps.proofs.Accepting.{CountFormed, Clear, long_slices_lem, formed_counts_lem, formed_numbers_lem, open_opened, open_accepted, start_can, start_started, finish_can, finish_finished, every_unchanged, result_shown}
use Rattle.steps.proofs.Placing.{held_opened, place_opened, held_opening, items_few, place_below, beyond_unwritten}
use Rattle.steps.proofs.Numbered.{opened_started, opened_finished, opened_fresh, started_fresh, finished_size, finished_stay, finished_done, finished_fresh}

pub agree_trans : (S : System) (s t u : State) → Agree S s t → Agree S t u → Agree S s u
agree_trans S s t u p q =
    record {
      started = λ a l. p.started a l ∙ q.started a l;
      finished = λ a l. p.finished a l ∙ q.finished a l;
      held = λ a l. p.held a l ∙ q.held a l;
      places = λ a x l h. p.places a x l h ∙ q.places a x l h;
    }

-- a lent state in form that shows the state of the machine
pub record Tied (plan : List ℕ) (s : Lent) (σ : State) : Type 0 where
  pub long_counts : count_words ≤ length s.counts
  pub long_values : value_words ≤ length s.values
  pub formed : formed_counts plan s.counts s.values ≡ true
  -- each number is a fresh count
  pub fresh : FreshNumbers (plan_body plan) s.counts
  pub agree : Agree (system (plan_body plan)) (state_of s.counts s.values) σ

-- an item that runs has the pass
pub formed_running : (passes : ℕ → ℕ) (s : State) (a : ℕ) → s.started a ≡ suc (s.finished a) → CountFormed (passes a) s a → s.finished a < passes a
formed_running passes s a r (l, inl e) = absurd (omega arith)
formed_running passes s a r (l, inr (e, k)) = k

-- counts in form stay so
module _ (passes : ℕ → ℕ) (s t : State) where
  formed_same : (b : ℕ) → t.started b ≡ s.started b → t.finished b ≡ s.finished b → CountFormed (passes b) s b → CountFormed (passes b) t b
  formed_same b e f (l, inl k) = (omega arith, inl (omega arith))
  formed_same b e f (l, inr (k, m)) = (omega arith, inr (omega arith, omega arith))

  -- over a start and a finish of item a

  formed_start : (a : ℕ) → s.finished a < passes a → s.started a ≡ s.finished a → (b : ℕ) → t.started b ≡ update s.started a (suc (s.started a)) b →
      t.finished b ≡ s.finished b → CountFormed (passes b) s b → CountFormed (passes b) t b
  formed_start a l i =
      update_ind (λ b r. t.started b ≡ r → t.finished b ≡ s.finished b → CountFormed (passes b) s b → CountFormed (passes b) t b) s.started a (suc (s.started a))
      (λ e f k. (omega arith, inr (omega arith, omega arith)))
      (λ b ne e f k. formed_same b e f k)

  formed_finish_own : (a : ℕ) → s.started a ≡ suc (s.finished a) → t.finished a ≡ suc (s.finished a) → t.started a ≡ s.started a → CountFormed (passes a) s a → CountFormed (passes a) t a
  formed_finish_own a r e f (l, inl k) = absurd (omega arith)
  formed_finish_own a r e f (l, inr (k, m)) = (omega arith, inl (omega arith))

  formed_finish : (a : ℕ) → s.started a ≡ suc (s.finished a) → (b : ℕ) → t.finished b ≡ update s.finished a (suc (s.finished a)) b →
      t.started b ≡ s.started b → CountFormed (passes b) s b → CountFormed (passes b) t b
  formed_finish a r =
      update_ind (λ b v. t.finished b ≡ v → t.started b ≡ s.started b → CountFormed (passes b) s b → CountFormed (passes b) t b) s.finished a (suc (s.finished a))
      (λ e f k. formed_finish_own a r e f k)
      (λ b ne e f k. formed_same b f e k)

module _ (plan : List ℕ) (formed : formed_plan plan ≡ true) (counts values : List ℕ) (long_counts : count_words ≤ length counts) (long_values : value_words ≤ length values) where
  few : item_count (plan_body plan) ≤ max_items
  few = items_few (take plan_words plan) formed

  -- opening

  pub opened_value : (x : ℕ) → x < length values → (is_copy (plan_body plan) x || (is_slot (plan_body plan) x || is_held (plan_body plan) x)) ≡ true →
      get_or (opened plan counts values).values x 0 ≡ initial (plan_body plan) x
  opened_value x l e =
      replaced_at (λ x. is_copy (plan_body plan) x || (is_slot (plan_body plan) x || is_held (plan_body plan) x)) (initial (plan_body plan)) values x l ∙ rw e

  pub opened_tied : Tied plan (lent_by (opened plan counts values)) (opening (system (plan_body plan)))
  unfolding opening
  opened_tied =
      record {
        long_counts = omega (arith, length_replaced (is_count (plan_body plan)) (open_count (plan_body plan)) counts);
        long_values = omega (arith, length_replaced (λ x. is_copy (plan_body plan) x || (is_slot (plan_body plan) x || is_held (plan_body plan) x)) (initial (plan_body plan)) values);
        formed = (formed_counts_lem plan (opened plan counts values).counts (opened plan counts values).values).1
            (λ a l. (
              omega (arith, opened_finished plan counts values few long_counts a l),
              inl (opened_started plan counts values few long_counts a l ∙ sym (opened_finished plan counts values few long_counts a l)),
            ));
        fresh = opened_fresh plan counts values few long_counts;
        agree = record {
          started = opened_started plan counts values few long_counts;
          finished = opened_finished plan counts values few long_counts;
          held = λ a l. opened_value (first_held + a) (omega (arith, few)) (held_opened (plan_body plan) a l) ∙ held_opening (plan_body plan) (plan_fits (take plan_words plan) formed) a;
          places = λ a x l h. opened_value x (omega (arith, place_below (take plan_words plan) formed a x l h)) (place_opened (plan_body plan) (plan_fits (take plan_words plan) formed) a x l h);
        };
      }

  module _ (a : ℕ) (la : a < item_count (plan_body plan)) where
    -- start

    pub start_agree : Agree (system (plan_body plan)) (state_of (started plan counts values a).counts (started plan counts values a).values)
        (start_state (system (plan_body plan)) (state_of counts values) a)
    unfolding start_state update
    start_agree =
        record {
          started = λ b l. set_at counts a b (suc (get_or counts a 0)) 0 (omega (arith, few));
          finished = λ b l. get_or-set_other counts a (first_finished + b) (suc (get_or counts a 0)) 0 (λ e. omega (arith, few));
          held = λ b l.
              set_at values (first_held + a) (first_held + b) (word_now plan counts values a) 0 (omega (arith, few))
              ∙ ap (λ (t : Bool). cond t (word_now plan counts values a) (get_or values (first_held + b) 0)) (eqb_from first_held b a);
          places = λ b x l h.
              get_or-set_other values (first_held + a) x (word_now plan counts values a) 0 (λ e. omega (arith, place_below (take plan_words plan) formed b x l h));
        }

    -- finish

    finish_value : (x : ℕ) → x < length values →
        get_or (finished plan counts values a).values x 0 ≡ cond (mem x ((system (plan_body plan)).writes a)) (get_or values (first_held + a) 0) (get_or values x 0)
    finish_value x l = replaced_at (λ x. mem x ((system (plan_body plan)).writes a)) (λ x. get_or values (first_held + a) 0) values x l

    pub finish_agree : Agree (system (plan_body plan)) (state_of (finished plan counts values a).counts (finished plan counts values a).values)
        (finish_state (system (plan_body plan)) (state_of counts values) a)
    unfolding finish_state update put
    finish_agree =
        record {
          started = λ b l. finished_stay plan counts values few long_counts a la b (λ e. omega (arith, few)) (inl (omega (arith, few)));
          finished = finished_done plan counts values few long_counts a la;
          held = λ b l.
              finish_value (first_held + b) (omega (arith, few))
              ∙ rw (beyond_unwritten (take plan_words plan) formed a (first_held + b) la (omega arith));
          places = λ b x l h. finish_value x (omega (arith, place_below (take plan_words plan) formed b x l h));
        }

-- an accepted opening
pub opening_tied : (plan counts values : List ℕ) → (open_of plan counts values).refusal ≡ 0 → Tied plan (lent_by (open_of plan counts values)) (opening (system (plan_body plan)))
opening_tied plan counts values z =
    let p = (open_accepted plan counts values).0 z in
    let l = (long_slices_lem plan counts values).0 p.0 in
    rw (open_opened plan counts values p.0 p.1) (opened_tied plan p.1 counts values l.1 l.2)

module _ (plan : List ℕ) where
  lent_same : (s : Lent) (c : Call) → ((call plan s c).refusal ≡ 0 → ⊥) → lent_by (call plan s c) ≡ s
  lent_same s c f = let u = every_unchanged plan s c f in ap₂ (λ x y. record { counts = x; values = y }) u.1 u.2

  tied_agree : (s : Lent) (σ τ : State) → Tied plan s σ → Agree (system (plan_body plan)) σ τ → Tied plan s τ
  tied_agree s σ τ t g =
      record {
        long_counts = t.long_counts;
        long_values = t.long_values;
        formed = t.formed;
        fresh = t.fresh;
        agree = agree_trans (system (plan_body plan)) (state_of s.counts s.values) σ τ t.agree g;
      }

  -- a result changes nothing
  pub result_same : (s : Lent) (g : ℕ) → lent_by (call plan s (result g)) ≡ s
  result_same s g =
      elim (ℕ_discrete (call plan s (result g)).refusal 0) [
        | yes z ↦ ap lent_by (result_shown plan s.counts s.values g z)
        | no f ↦ lent_same s (result g) f
      ]

  -- what is left to show of a call: it is accepted as the step is from the lent state itself, and then answers and leaves the same
  pub record Matches (s : Lent) (c : Call) (d : Step) : Type 0 where
    pub accepted : ((call plan s c).refusal ≡ 0) ↔ Can (system (plan_body plan)) (state_of s.counts s.values) d
    pub word : (call plan s c).refusal ≡ 0 → (call plan s c).word ≡ answer (system (plan_body plan)) (state_of s.counts s.values) d
    pub left : (call plan s c).refusal ≡ 0 → Tied plan (lent_by (call plan s c)) (after (system (plan_body plan)) (state_of s.counts s.values) d)

  module _ (long : plan_words ≤ length plan) (formed : formed_plan plan ≡ true) where
    pub tied_clear : (s : Lent) (σ : State) → Tied plan s σ → Clear plan s.counts s.values
    tied_clear s σ t =
        record {
          long = (long_slices_lem plan s.counts s.values).1 (long, t.long_counts, t.long_values);
          formed_plan_lem = formed;
          formed_counts_lem = t.formed;
          formed_numbers_lem = (formed_numbers_lem plan s.counts s.values).1
              (λ a l. omega (arith, t.fresh a l, count_most (system (plan_body plan)) (edge_test (plan_body plan)) (done_by s.counts) a l));
        }

    pub start_left : (s : Lent) (σ : State) → Tied plan s σ → (a : ℕ) → CanStart (system (plan_body plan)) (state_of s.counts s.values) a →
        Tied plan (lent_by (started plan s.counts s.values a)) (start_state (system (plan_body plan)) (state_of s.counts s.values) a)
    unfolding start_state
    start_left s σ t a k =
        let g = start_agree plan formed s.counts s.values t.long_counts t.long_values a k.in_range in
        record {
          long_counts = omega (arith, t.long_counts, length-set s.counts a (suc (get_or s.counts a 0)));
          long_values = omega (arith, t.long_values, length-set s.values (first_held + a) (word_now plan s.counts s.values a));
          formed = (formed_counts_lem plan (started plan s.counts s.values a).counts (started plan s.counts s.values a).values).1
              (λ b l. formed_start (item_passes (plan_body plan)) (state_of s.counts s.values) (state_of (started plan s.counts s.values a).counts (started plan s.counts s.values a).values)
              a k.left k.idle b (g.started b l) (g.finished b l) ((formed_counts_lem plan s.counts s.values).0 t.formed b l));
          fresh = started_fresh plan s.counts s.values (items_few (take plan_words plan) formed) t.long_counts a k.in_range t.fresh;
          agree = g;
        }

    pub finish_left : (s : Lent) (σ : State) → Tied plan s σ → (a : ℕ) → CanFinish (system (plan_body plan)) (state_of s.counts s.values) a →
        Tied plan (lent_by (finished plan s.counts s.values a)) (finish_state (system (plan_body plan)) (state_of s.counts s.values) a)
    unfolding finish_state
    finish_left s σ t a k =
        let g = finish_agree plan formed s.counts s.values t.long_counts t.long_values a k.in_range in
        record {
          long_counts = omega (arith, t.long_counts, finished_size plan s.counts s.values (items_few (take plan_words plan) formed) t.long_counts a k.in_range);
          long_values = omega (arith, t.long_values, length_replaced (λ x. mem x ((system (plan_body plan)).writes a)) (λ x. get_or s.values (first_held + a) 0) s.values);
          formed = (formed_counts_lem plan (finished plan s.counts s.values a).counts (finished plan s.counts s.values a).values).1
              (λ b l. formed_finish (item_passes (plan_body plan)) (state_of s.counts s.values) (state_of (finished plan s.counts s.values a).counts (finished plan s.counts s.values a).values)
              a k.running b (g.finished b l) (g.started b l) ((formed_counts_lem plan s.counts s.values).0 t.formed b l));
          fresh = finished_fresh plan s.counts s.values (items_few (take plan_words plan) formed) t.long_counts a k.in_range
              (formed_running (item_passes (plan_body plan)) (state_of s.counts s.values) a k.running ((formed_counts_lem plan s.counts s.values).0 t.formed a k.in_range)) t.fresh;
          agree = g;
        }

module _ (plan : List ℕ) (can : Decides (system (plan_body plan))) where
  -- the call c on the lent state s goes as the step d of the machine from σ
  pub record Follows (s : Lent) (σ : State) (c : Call) (d : Step) : Type 0 where
    -- it counts for n where it is accepted
    pub counted : (n : ℕ) → ◌≡◌ {A = ℕ} (cond (is_accepted plan s c) n 0) (ite (can σ d) n 0)
    pub answered : (call plan s c).refusal ≡ 0 → reply (system (plan_body plan)) can σ d ≡ some (call plan s c).word
    pub replied : (v : ℕ) → reply (system (plan_body plan)) can σ d ≡ some v → (call plan s c).refusal ≡ 0
    pub tied : Tied plan (lent_by (call plan s c)) (step (system (plan_body plan)) can σ d)

  follows : (s : Lent) (σ : State) (c : Call) (d : Step) → Tied plan s σ → Matches plan s c d → Follows s σ c d
  follows s σ c d t m =
      elim (can (state_of s.counts s.values) d) [
        | yes k ↦ yes_follows k
        | no f ↦ no_follows f
      ]
    where
      S : System
      S = system (plan_body plan)

      here : State
      here = state_of s.counts s.values

      moved : (reply S can here d ≡ reply S can σ d) × Agree S (step S can here d) (step S can σ d)
      moved = local S can here σ d t.agree

      yes_follows : Can S here d → Follows s σ c d
      yes_follows k =
          let z : (call plan s c).refusal ≡ 0 = m.accepted.1 k in
          let r : reply S can σ d ≡ some (answer S here d) = sym moved.0 ∙ can_accepts S can here d k in
          record {
            counted = λ n. rw (eq-eqb (call plan s c).refusal 0 z) (sym (can_counts S can σ d n (reply_some S can σ d (answer S here d) r).0));
            answered = λ h. r ∙ ap some (sym (m.word z));
            replied = λ v e. z;
            tied = tied_agree plan (lent_by (call plan s c)) (after S here d) (step S can σ d) (m.left z)
                (subst (λ (x : State). Agree S x (step S can σ d)) (can_steps S can here d k) moved.1);
          }

      no_follows : (Can S here d → ⊥) → Follows s σ c d
      no_follows f =
          let u : (call plan s c).refusal ≡ 0 → ⊥ = λ z. f (m.accepted.0 z) in
          let r : reply S can σ d ≡ none = sym moved.0 ∙ cannot_refuses S can here d f in
          record {
            counted = λ n. rw (ne_eqb (call plan s c).refusal 0 u) (sym (if_neg (can σ d) (λ k. none-ne-some (answer S σ d) (sym r ∙ can_accepts S can σ d k)) n 0));
            answered = λ h. absurd (u h);
            replied = λ v e. absurd (none-ne-some v (sym r ∙ e));
            tied = rw (lent_same plan s c u, reply_none S can σ d r) t;
          }

  module _ (long : plan_words ≤ length plan) (formed : formed_plan plan ≡ true) where
    pub start_follows : (s : Lent) (σ : State) (a : ℕ) → Tied plan s σ → Follows s σ (start a) (start_step a)
    start_follows s σ a t =
        let can_start = start_can plan s.counts s.values (tied_clear plan long formed s σ t) t.fresh a in
        follows s σ (start a) (start_step a) t
        (record {
          accepted = can_start;
          word = λ z. ap (λ (r : Left). r.word) (start_started plan s.counts s.values a z);
          left = λ z. rw (start_started plan s.counts s.values a z) (start_left plan long formed s σ t a (can_start.0 z));
        })

    pub finish_follows : (s : Lent) (σ : State) (a : ℕ) → Tied plan s σ → Follows s σ (finish a) (finish_step a)
    finish_follows s σ a t =
        let can-finish = finish_can plan s.counts s.values (tied_clear plan long formed s σ t) a in
        follows s σ (finish a) (finish_step a) t
        (record {
          accepted = can-finish;
          word = λ z. ap (λ (r : Left). r.word) (finish_finished plan s.counts s.values a z);
          left = λ z. rw (finish_finished plan s.counts s.values a z) (finish_left plan long formed s σ t a (can-finish.0 z));
        })
