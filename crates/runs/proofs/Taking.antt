-- Turns one after another: taking the lowest item of the set is the run program's order.
use Prim.Native.Nat.{ℕ, ◌+◌, ◌*◌, ◌≤◌, ◌<◌}
use mathlib.Core.Path.{◌≡◌, sym, ◌∙◌, ap, subst}
use mathlib.Core.Bool.{Bool, true, false, not, ◌&&◌, and-true as and-always}
use mathlib.Core.List.{List}
use native.Mathlib.Nat.{mul-le-mul}
use native.Mathlib.Omega.{arith}
use borrow.Author.Tests.{ltb-true, lt-ltb, ne_eqb}
use lib.Dec.{eqb, ltb}
use Rattle.std.specs.Prelude.{Option, Some, None}
use Rattle.std.specs.Option.{MatchOption}
use Rattle.finite.proofs.Tests.{and-true}
use Rattle.body.specs.Body.{Body}
use Rattle.body.specs.Items.{item_count}
use Rattle.plan.specs.Limits.{max_passes}
use Rattle.plan.specs.Layout.{passes_of}
use Rattle.plan.specs.Sizes.{max_items}
use Rattle.graph.specs.Table.{Graph}
use Rattle.graph.specs.Answers.{plan_body}
use Rattle.masks.specs.Masks.{in_mask, Empty, Lowest}
use Rattle.steps.specs.Answers.{started, finished}
use Rattle.steps.specs.Calls.{Lent, lent, lent_by}
use Rattle.steps.specs.Turns.{is_ready, Idle, Going, Over}
use Rattle.steps.proofs.Running.{opened_idle, going_none, going_most, going_turn, none_ready}
use Rattle.values.specs.Items.{Formed}
use Rattle.values.proofs.Plans.{passes_few, plan_long, plan_body_lem, plan_formed}
use Rattle.prepared.specs.Laws.{Prepared}
use Rattle.calls.proofs.Behind.{graph_formed}
use Rattle.runs.specs.Turns.{ReadyBut, FirstReady, Turn, Opened}
use Rattle.runs.proofs.Stepping.{ready_steps}

module _ (w C words : List ℕ) (R : ReadyBut w C max_items words) where
  all_ready : (b : ℕ) → b < max_items → in_mask words b ≡ (ltb b (item_count (plan_body w)) && is_ready (plan_body w) C b)
  all_ready b l = R.each b l ∙ rw (ne_eqb b max_items (λ e. omega arith)) (and-always (ltb b (item_count (plan_body w)) && is_ready (plan_body w) C b))

  out_unready : (b : ℕ) → b < max_items → in_mask words b ≡ false → b < item_count (plan_body w) → is_ready (plan_body w) C b ≡ false
  out_unready b l e k = ap (λ (t : Bool). t && is_ready (plan_body w) C b) (sym (lt-ltb b (item_count (plan_body w)) k)) ∙ (sym (all_ready b l) ∙ e)

  pub none_stands : Empty words → item_count (plan_body w) ≤ max_items → (b : ℕ) → b < item_count (plan_body w) → is_ready (plan_body w) C b ≡ false
  none_stands E m b l = out_unready b (omega arith) (E b (omega arith)) l

  -- the lowest item of the set
  module _ (words' : List ℕ) (a : ℕ) (L : Lowest words a words') where
    stands : (ltb a (item_count (plan_body w)) ≡ true) × (is_ready (plan_body w) C a ≡ true)
    stands = and-true (ltb a (item_count (plan_body w))) (is_ready (plan_body w) C a) (sym (all_ready a L.below) ∙ L.stands)

    pub first_ready : FirstReady w C a
    first_ready =
        record {
          none_before = λ b l k. out_unready b (omega (arith, L.below)) (L.none_before b l) k;
          below = ltb-true a (item_count (plan_body w)) stands.0;
          ready = stands.1;
        }

    pub ready_but : ReadyBut w C a words'
    ready_but = record { size = L.size; each = λ b l. L.each b l ∙ ap (λ (t : Bool). t && not (eqb b a)) (all_ready b l) }

-- what was taken out of the set of the items that are ready: the lowest, if it had one
pub record Taken (w C : List ℕ) (lowest : Option ℕ) (words : List ℕ) : Type 0 where
  pub before : List ℕ
  pub set : ReadyBut w C max_items before
  pub took : MatchOption lowest (Empty before × (words ≡ before)) (λ a. Lowest before a words)

module _ {w C words : List ℕ} {lowest : Option ℕ} (T : Taken w C lowest words) where
  module _ (a : ℕ) (e : lowest ≡ Some a) where
    took_lowest : Lowest T.before a words
    took_lowest = subst (λ (o : Option ℕ). MatchOption o (Empty T.before × (words ≡ T.before)) (λ a. Lowest T.before a words)) e T.took

    pub taken_first : FirstReady w C a
    taken_first = first_ready w C T.before T.set words a took_lowest

    pub taken_but : ReadyBut w C a words
    taken_but = ready_but w C T.before T.set words a took_lowest

  pub taken_none : lowest ≡ None → item_count (plan_body w) ≤ max_items → (b : ℕ) → b < item_count (plan_body w) → is_ready (plan_body w) C b ≡ false
  taken_none e m = none_stands w C T.before T.set (subst (λ (o : Option ℕ). MatchOption o (Empty T.before × (words ≡ T.before)) (λ a. Lowest T.before a words)) e T.took).0 m

-- what holds of the words of the items' plan holds of a plan with the same
module _ {w p : List ℕ} (e : w ≡ p) where
  pub formed_as : (table : List ℕ) (n : ℕ) → Graph w table n → Formed p
  formed_as table n G = subst Formed e (graph_formed w table n G)

  pub ready_as : (C words : List ℕ) → ReadyBut w C max_items words → ReadyBut p C max_items words
  ready_as C words r = subst (λ z. ReadyBut z C max_items words) e r

  pub prepared_as : (tables : List ℕ) → Prepared w tables → Prepared p tables
  prepared_as tables r = subst (λ z. Prepared z tables) e r

  pub opened_as : (s : Lent) → Opened w s → Opened p s
  opened_as s r = subst (λ z. Opened z s) e r

  pub ran_as : (s t : Lent) (k : ℕ) → Going w s t k × Over w t → Going p s t k × Over p t
  ran_as s t k r = subst (λ z. Going z s t k × Over z t) e r

module _ (w : List ℕ) (F : Formed w) where
  pub going_starts : (s : Lent) → Opened w s → Going w s s 0
  going_starts s O =
      going_none w (plan_long w F) (plan_formed w F) s
      (subst (Idle w) (sym O.left) (opened_idle w (plan_long w F) (plan_formed w F) O.counts O.values O.long_counts O.long_values))

  -- the steps taken are no more than two for each pass of each item
  going_below : (s₀ s : Lent) (steps : ℕ) → Going w s₀ s steps → steps ≤ 2 * (item_count (plan_body w) * passes_of w)
  going_below s₀ s steps G = subst (λ (B : Body). steps ≤ 2 * (item_count (plan_body w) * B.passes)) (plan_body_lem w F) (going_most w (plan_long w F) (plan_formed w F) s₀ s steps G)

  pub going_small : (s₀ s : Lent) (steps : ℕ) → Going w s₀ s steps → item_count (plan_body w) ≤ max_items → steps ≤ 2 * (max_items * max_passes)
  going_small s₀ s steps G i = omega (arith, going_below s₀ s steps G, mul-le-mul i (passes_few w F.formed))

  module _ (s₀ : Lent) (C W : List ℕ) (steps : ℕ) (G : Going w s₀ (lent C W) steps) where
    -- the next turn
    module _ (a : ℕ) (R : FirstReady w C a) where
      pub turn_item : Opened w s₀ → (words : List ℕ) → ReadyBut w C a words → Turn w a C W words
      turn_item O words S =
          record {
            plan = F;
            below = R.below;
            idle = G.idle;
            ready = R.ready;
            in_step = ready_steps w F s₀ O (lent C W) steps G a R.below R.ready;
            set = S;
          }

      pub turn_going : (C2 W2 : List ℕ) → lent C2 W2 ≡ lent_by (finished w (started w C W a).counts (started w C W a).values a) → Going w s₀ (lent C2 W2) (steps + 2)
      turn_going C2 W2 t =
          subst (λ (x : Lent). Going w s₀ x (steps + 2)) (sym t)
          (going_turn w (plan_long w F) (plan_formed w F) s₀ (lent C W) steps G a R.below R.ready (λ b l. R.none_before b l (omega (arith, R.below))))

      pub turn_below : (C2 W2 : List ℕ) → lent C2 W2 ≡ lent_by (finished w (started w C W a).counts (started w C W a).values a) →
          steps + 2 ≤ 2 * (item_count (plan_body w) * passes_of w)
      turn_below C2 W2 t = going_below s₀ (lent C2 W2) (steps + 2) (turn_going C2 W2 t)

    -- there is none
    pub turns_over : ((b : ℕ) → b < item_count (plan_body w) → is_ready (plan_body w) C b ≡ false) → Over w (lent C W)
    turns_over h = none_ready w (plan_long w F) (plan_formed w F) (lent C W) G.idle h
