-- What an accepted call has left: an opening the plan's part of the state, a start or finish the
-- word, one count more and the values that it changes, a finish the numbers of unmet waits besides, a
-- result its word.
use Prim.Native.Nat.{ℕ, suc, ◌+◌, ◌-◌, ◌≤◌, ◌<◌}
use mathlib.Core.Path.{◌≡◌, refl, sym, ◌∙◌, ap, subst}
use mathlib.Core.Bool.{Bool, true, false, cond, ◌||◌}
use mathlib.Core.Logic.{◌⊎◌}
use mathlib.Core.List.{List}
use mathlib.Core.Option.{Option, none, some}
use native.Mathlib.Omega.{arith}
use borrow.Author.Tests.{eq-eqb, ne_eqb}
use lib.ListN.{length, get_or, set, take}
use Rattle.finite.specs.Lists.{mem}
use Rattle.finite.specs.Update.{replaced}
use Rattle.finite.proofs.Update.{update_same}
use Rattle.finite.proofs.Replaced.{length_replaced, replaced_at, replaced_not}
use Rattle.unroll.specs.System.{writing}
use Rattle.unroll.specs.Sequential.{word_on}
use Rattle.unroll.specs.Machine.{State}
use Rattle.body.specs.Body.{Body, Fits}
use Rattle.body.specs.Transfers.{last_before}
use Rattle.body.specs.Items.{send, kind_of, item_count, item_at}
use Rattle.body.specs.Places.{slot, copy, initial, system, result_from, result_of as region_result}
use Rattle.body.specs.Meaning.{LastWriter}
use Rattle.body.proofs.Writers.{last_writer}
use Rattle.body.proofs.Places.{copy_below, copy_opening, slot_opening}
use Rattle.edges.specs.Tests.{edge_test}
use Rattle.waits.specs.Waits.{fresh_count, meets}
use Rattle.plan.specs.Sizes.{max_items}
use Rattle.plan.specs.Layout.{plan_words}
use Rattle.graph.specs.Answers.{formed_plan, plan_body}
use Rattle.graph.proofs.Small.{plan_fits}
use Rattle.steps.specs.State.{count_words, value_words, first_finished, first_unmet, first_held, state_of, done_by, unmet_by, FreshNumbers}
use Rattle.steps.specs.Answers.{Left, is_count, open_count, is_copy, is_slot, is_held, opened, open_of, start_of, finished_counts, finish_of, result_of}
use Rattle.steps.proofs.Accepting.{long_slices_lem, open_opened, open_accepted, start_started, finish_clear, finish_can, finish_finished, result_shown}
use Rattle.steps.proofs.Placing.{copy_opened, slot_opened, held_opened, held_opening, items_few, place_below}
use Rattle.steps.proofs.Numbered.{opened_started, opened_finished, opened_fresh, finished_size, finished_stay, finished_done, finished_own, finished_other}
use Rattle.steps.proofs.Simulating.{opened_value}

-- a result, by its region's last writer

module _ (B : Body) (s : State) (g : ℕ) where
  shown_written : (j : ℕ) → LastWriter B B.tasks g j → 0 < B.passes → region_result B s g ≡ s.places (copy B (B.rank j) g)
  unfolding region_result
  shown_written j w l = rw ((last_writer B B.tasks g j).1 w, ne_eqb B.passes 0 (λ e. omega arith))

  shown_unwritten : ((j : ℕ) → LastWriter B B.tasks g j → ⊥) → region_result B s g ≡ B.starting g
  unfolding region_result
  shown_unwritten f = go (last_before B B.tasks g) refl
    where
      go : (o : Option ℕ) → last_before B B.tasks g ≡ o → result_from B s g o ≡ B.starting g
      go none e = refl
      go (some j) e = absurd (f j ((last_writer B B.tasks g j).0 e))

  shown_no_pass : B.passes ≡ 0 → region_result B s g ≡ B.starting g
  unfolding region_result
  shown_no_pass e = go (last_before B B.tasks g)
    where
      go : (o : Option ℕ) → result_from B s g o ≡ B.starting g
      go none = refl
      go (some j) = rw (eq-eqb B.passes 0 e)

module _ (plan counts values : List ℕ) where
  module _ (h : (open_of plan counts values).refusal ≡ 0) where
    open_is : open_of plan counts values ≡ opened plan counts values
    open_is = let k = (open_accepted plan counts values).0 h in open_opened plan counts values k.0 k.1

    open_long : (plan_words ≤ length plan) × (count_words ≤ length counts) × (value_words ≤ length values)
    open_long = (long_slices_lem plan counts values).0 ((open_accepted plan counts values).0 h).0

    open_form : formed_plan plan ≡ true
    open_form = ((open_accepted plan counts values).0 h).1

    open_few : item_count (plan_body plan) ≤ max_items
    open_few = items_few (take plan_words plan) open_form

    open_fits_lem : Fits (plan_body plan)
    open_fits_lem = plan_fits (take plan_words plan) open_form

    -- counts

    open_counts : (open_of plan counts values).counts ≡ replaced (is_count (plan_body plan)) (open_count (plan_body plan)) counts
    open_counts = ap (λ (r : Left). r.counts) open_is

    pub open_count_size : length (open_of plan counts values).counts ≡ length counts
    open_count_size = ap length open_counts ∙ length_replaced (is_count (plan_body plan)) (open_count (plan_body plan)) counts

    pub open_started : (a : ℕ) → a < item_count (plan_body plan) → get_or (open_of plan counts values).counts a 0 ≡ 0
    open_started a l = ap (λ (r : Left). get_or r.counts a 0) open_is ∙ opened_started plan counts values open_few open_long.1 a l

    pub open_finished : (a : ℕ) → a < item_count (plan_body plan) → get_or (open_of plan counts values).counts (first_finished + a) 0 ≡ 0
    open_finished a l = ap (λ (r : Left). get_or r.counts (first_finished + a) 0) open_is ∙ opened_finished plan counts values open_few open_long.1 a l

    pub open_fresh : FreshNumbers (plan_body plan) (open_of plan counts values).counts
    open_fresh = subst (λ (r : Left). FreshNumbers (plan_body plan) r.counts) (sym open_is) (opened_fresh plan counts values open_few open_long.1)

    pub open_count_stays : (i : ℕ) → is_count (plan_body plan) i ≡ false → get_or (open_of plan counts values).counts i 0 ≡ get_or counts i 0
    open_count_stays i e = ap (λ (v : List ℕ). get_or v i 0) open_counts ∙ replaced_not (is_count (plan_body plan)) (open_count (plan_body plan)) counts i e

    -- values

    abbrev is_opened : ℕ → Bool
    is_opened x = is_copy (plan_body plan) x || (is_slot (plan_body plan) x || is_held (plan_body plan) x)

    open_values : (open_of plan counts values).values ≡ replaced is_opened (initial (plan_body plan)) values
    open_values = ap (λ (r : Left). r.values) open_is

    pub open_value_size : length (open_of plan counts values).values ≡ length values
    open_value_size = ap length open_values ∙ length_replaced is_opened (initial (plan_body plan)) values

    open_value : (x : ℕ) → x < value_words → is_opened x ≡ true → get_or (open_of plan counts values).values x 0 ≡ initial (plan_body plan) x
    open_value x l e =
        ap (λ (r : Left). get_or r.values x 0) open_is ∙ opened_value plan open_form counts values open_long.1 open_long.2 x (omega (arith, open_long.2)) e

    pub open_copy : (q g : ℕ) → q < (plan_body plan).ranks → g < (plan_body plan).regions → get_or (open_of plan counts values).values (copy (plan_body plan) q g) 0 ≡ (plan_body plan).starting g
    open_copy q g lq lg =
        open_value (copy (plan_body plan) q g) (omega (arith, copy_below (plan_body plan) q g lq lg, open_fits_lem.room)) (copy_opened (plan_body plan) q g lq lg)
        ∙ copy_opening (plan_body plan) q g lq lg

    pub open_slot : (a i g q : ℕ) → a < item_count (plan_body plan) → item_at (plan_body plan) a ≡ send i g q → get_or (open_of plan counts values).values (slot a) 0 ≡ 0
    unfolding slot
    open_slot a i g q l e =
        open_value (slot a) (omega (arith, open_few)) (slot_opened (plan_body plan) a l (ap kind_of e))
        ∙ slot_opening (plan_body plan) open_fits_lem a

    pub open_held : (a : ℕ) → a < item_count (plan_body plan) → get_or (open_of plan counts values).values (first_held + a) 0 ≡ 0
    open_held a l = open_value (first_held + a) (omega (arith, open_few)) (held_opened (plan_body plan) a l) ∙ held_opening (plan_body plan) open_fits_lem a

    pub open_value_stays : (x : ℕ) → (is_copy (plan_body plan) x || (is_slot (plan_body plan) x || is_held (plan_body plan) x)) ≡ false →
        get_or (open_of plan counts values).values x 0 ≡ get_or values x 0
    open_value_stays x e = ap (λ (v : List ℕ). get_or v x 0) open_values ∙ replaced_not is_opened (initial (plan_body plan)) values x e

  module _ (g : ℕ) (h : (result_of plan counts values g).refusal ≡ 0) where
    result_word : (result_of plan counts values g).word ≡ region_result (plan_body plan) (state_of counts values) g
    result_word = ap (λ (r : Left). r.word) (result_shown plan counts values g h)

    pub result_written : (j : ℕ) → LastWriter (plan_body plan) (plan_body plan).tasks g j → 0 < (plan_body plan).passes →
        (result_of plan counts values g).word ≡ get_or values (copy (plan_body plan) ((plan_body plan).rank j) g) 0
    result_written j w l = result_word ∙ shown_written (plan_body plan) (state_of counts values) g j w l

    pub result_unwritten : ((j : ℕ) → LastWriter (plan_body plan) (plan_body plan).tasks g j → ⊥) → (result_of plan counts values g).word ≡ (plan_body plan).starting g
    result_unwritten f = result_word ∙ shown_unwritten (plan_body plan) (state_of counts values) g f

    pub result_no_pass : (plan_body plan).passes ≡ 0 → (result_of plan counts values g).word ≡ (plan_body plan).starting g
    result_no_pass e = result_word ∙ shown_no_pass (plan_body plan) (state_of counts values) g e

    pub result_counts : (result_of plan counts values g).counts ≡ counts
    result_counts = ap (λ (r : Left). r.counts) (result_shown plan counts values g h)

    pub result_values : (result_of plan counts values g).values ≡ values
    result_values = ap (λ (r : Left). r.values) (result_shown plan counts values g h)

module _ (plan counts values : List ℕ) (a : ℕ) where
  module _ (h : (start_of plan counts values a).refusal ≡ 0) where
    pub start_word : (start_of plan counts values a).word ≡ word_on (system (plan_body plan)) a (state_of counts values).places
    start_word = ap (λ (r : Left). r.word) (start_started plan counts values a h)

    pub start_counts : (start_of plan counts values a).counts ≡ set counts a (suc (get_or counts a 0))
    start_counts = ap (λ (r : Left). r.counts) (start_started plan counts values a h)

    pub start_values : (start_of plan counts values a).values ≡ set values (first_held + a) (start_of plan counts values a).word
    start_values = ap (λ (r : Left). r.values) (start_started plan counts values a h) ∙ ap (set values (first_held + a)) (sym start_word)

  module _ (h : (finish_of plan counts values a).refusal ≡ 0) where
    pub finish_word_lem : (finish_of plan counts values a).word ≡ get_or values (first_held + a) 0
    finish_word_lem = ap (λ (r : Left). r.word) (finish_finished plan counts values a h)

    pub finish_counts : (finish_of plan counts values a).counts ≡ finished_counts plan counts values a
    finish_counts = ap (λ (r : Left). r.counts) (finish_finished plan counts values a h)

    finish_below : a < item_count (plan_body plan)
    finish_below = ((finish_can plan counts values (finish_clear plan counts values a h) a).0 h).in_range

    finish_few : item_count (plan_body plan) ≤ max_items
    finish_few = items_few (take plan_words plan) (finish_clear plan counts values a h).formed_plan_lem

    finish_long : count_words ≤ length counts
    finish_long = ((long_slices_lem plan counts values).0 (finish_clear plan counts values a h).long).1

    pub finish_count_size : length (finish_of plan counts values a).counts ≡ length counts
    finish_count_size = ap length finish_counts ∙ finished_size plan counts values finish_few finish_long a finish_below

    pub finish_counted : done_by (finish_of plan counts values a).counts a ≡ suc (done_by counts a)
    finish_counted =
        ap (λ (x : List ℕ). done_by x a) finish_counts
        ∙ (finished_done plan counts values finish_few finish_long a finish_below a finish_below ∙ update_same (done_by counts) a (suc (done_by counts a)))

    pub finish_own : unmet_by (finish_of plan counts values a).counts a
        ≡ fresh_count (system (plan_body plan)) (edge_test (plan_body plan)) (done_by (finish_of plan counts values a).counts) a
    finish_own = rw finish_counts (finished_own plan counts values finish_few finish_long a finish_below)

    pub finish_other : (b : ℕ) → b < item_count (plan_body plan) → (b ≡ a → ⊥) → unmet_by (finish_of plan counts values a).counts b
        ≡ cond (meets (system (plan_body plan)) (edge_test (plan_body plan)) (done_by counts) a b) (unmet_by counts b - 1) (unmet_by counts b)
    finish_other b lb other = ap (λ (x : List ℕ). unmet_by x b) finish_counts ∙ finished_other plan counts values finish_few finish_long a finish_below b lb other

    pub finish_count_stays : (i : ℕ) → (i ≡ first_finished + a → ⊥) → (i < first_unmet) ⊎ (first_unmet + item_count (plan_body plan) ≤ i) →
        get_or (finish_of plan counts values a).counts i 0 ≡ get_or counts i 0
    finish_count_stays i ne k = ap (λ (x : List ℕ). get_or x i 0) finish_counts ∙ finished_stay plan counts values finish_few finish_long a finish_below i ne k

    finish_values : (finish_of plan counts values a).values ≡ replaced (λ x. mem x ((system (plan_body plan)).writes a)) (λ x. get_or values (first_held + a) 0) values
    finish_values = ap (λ (r : Left). r.values) (finish_finished plan counts values a h)

    pub finish_size : length (finish_of plan counts values a).values ≡ length values
    finish_size = ap length finish_values ∙ length_replaced (λ x. mem x ((system (plan_body plan)).writes a)) (λ x. get_or values (first_held + a) 0) values

    -- the places that an item writes lie within the values
    written_within : (x : ℕ) → mem x ((system (plan_body plan)).writes a) ≡ true → x < length values
    written_within x m =
        let c = finish_clear plan counts values a h in
        let l = (long_slices_lem plan counts values).0 c.long in
        omega (arith, l.2, place_below (take plan_words plan) c.formed_plan_lem a x ((finish_can plan counts values c a).0 h).in_range (writing m))

    pub finish_written : (x : ℕ) → mem x ((system (plan_body plan)).writes a) ≡ true → get_or (finish_of plan counts values a).values x 0 ≡ (finish_of plan counts values a).word
    finish_written x m =
        ap (λ (v : List ℕ). get_or v x 0) finish_values
        ∙ (replaced_at (λ x. mem x ((system (plan_body plan)).writes a)) (λ x. get_or values (first_held + a) 0) values x (written_within x m)
        ∙ (ap (λ (t : Bool). cond t (get_or values (first_held + a) 0) (get_or values x 0)) m ∙ sym finish_word_lem))

    pub finish_unwritten : (x : ℕ) → mem x ((system (plan_body plan)).writes a) ≡ false → get_or (finish_of plan counts values a).values x 0 ≡ get_or values x 0
    finish_unwritten x m =
        ap (λ (v : List ℕ). get_or v x 0) finish_values
        ∙ replaced_not (λ x. mem x ((system (plan_body plan)).writes a)) (λ x. get_or values (first_held + a) 0) values x m
