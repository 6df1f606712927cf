-- The set of the items that are ready when a run begins.
use Prim.Native.Nat.{ℕ, ◌+◌, ◌≤◌, ◌<◌}
use mathlib.Core.Path.{◌≡◌, refl, sym, ◌∙◌, ap, subst}
use mathlib.Core.Bool.{Bool, true, false, not, ◌&&◌, ◌||◌, or-false, and-true as and-always}
use mathlib.Core.List.{List}
use native.Mathlib.Decide.{dec_lt, ℕ_discrete}
use native.Mathlib.Omega.{arith}
use borrow.Author.Tests.{eq-eqb, ne_eqb, lt-ltb, le-ltb}
use lib.Dec.{eqb, ltb}
use lib.ListN.{length, replicate, length-replicate}
use Rattle.body.specs.Body.{Body}
use Rattle.body.specs.Items.{item_count, item_passes}
use Rattle.plan.specs.Layout.{body_of}
use Rattle.plan.specs.Sizes.{max_items}
use Rattle.masks.specs.Masks.{mask_words, in_mask, Entered}
use Rattle.masks.proofs.Bits.{none_in}
use Rattle.masks.proofs.Sets.{entered_none, entered_ext, entered_more}
use Rattle.graph.specs.Table.{Graph}
use Rattle.steps.specs.State.{done_by, unmet_by}
use Rattle.steps.specs.Turns.{is_ready}
use Rattle.values.proofs.Plans.{plan_body_lem}
use Rattle.calls.proofs.Behind.{graph_formed}
use Rattle.runs.specs.Turns.{ReadyBut}

-- those of the first k items that are ready
unfoldable pub ready_below : List ℕ → List ℕ → ℕ → ℕ → Bool
ready_below w C k b = ltb b k && is_ready (body_of w) C b

pub ready_is : (B : Body) (C : List ℕ) (b own : ℕ) → own ≡ item_passes B b → (ltb (done_by C b) own && eqb (unmet_by C b) 0) ≡ is_ready B C b
unfolding is_ready
ready_is B C b own e = ap (λ (x : ℕ). ltb (done_by C b) x && eqb (unmet_by C b) 0) e

module _ (w table : List ℕ) (n : ℕ) (G : Graph w table n) (C : List ℕ) where
  pub below_none : (words : List ℕ) → words ≡ replicate mask_words 0 → Entered words (ready_below w C 0) words
  unfolding ready_below
  below_none words z =
      entered_none words (ready_below w C 0) (ap length z ∙ length-replicate {A = ℕ} mask_words 0) (λ b l. rw (le-ltb b 0 (omega arith)))

  below_next : (k b : ℕ) → (t : Bool) → t ≡ is_ready (body_of w) C k → (ready_below w C k b || (t && eqb b k)) ≡ ready_below w C (k + 1) b
  unfolding ready_below
  below_next k b t e =
      elim (ℕ_discrete b k) [
        | yes q ↦ rw (q, eq-eqb k k refl, le-ltb k k (omega arith), lt-ltb k (k + 1) (omega arith)) (and-always t ∙ e)
        | no q ↦ rw (ne_eqb b k q) (and_never t (ltb b k && is_ready (body_of w) C b) ∙ ap (λ (x : Bool). x && is_ready (body_of w) C b) (same q))
      ]
    where
      and_never : (t x : Bool) → (x || (t && false)) ≡ x
      and_never true x = or-false x
      and_never false x = or-false x

      same : (b ≡ k → ⊥) → ltb b k ≡ ltb b (k + 1)
      same q =
          elim (dec_lt b k) [
            | yes l ↦ rw (lt-ltb b k l, lt-ltb b (k + 1) (omega arith))
            | no l ↦ rw (le-ltb b k (omega arith), le-ltb b (k + 1) (omega arith))
          ]

  -- item k, which is not put in twice
  module _ (words₀ words : List ℕ) (z : words₀ ≡ replicate mask_words 0) (k : ℕ) (E : Entered words₀ (ready_below w C k) words) where
    pub below_out : k < max_items → in_mask words k ≡ false
    unfolding ready_below
    below_out l = E.each k l ∙ (ap (λ (x : List ℕ). in_mask x k || (ltb k k && is_ready (body_of w) C k)) z ∙ rw (none_in k l, le-ltb k k (omega arith)))

    pub below_more : (words' : List ℕ) (t : Bool) → t ≡ is_ready (body_of w) C k → t ≡ true → Entered words (λ b. eqb b k) words' → Entered words₀ (ready_below w C (k + 1)) words'
    below_more words' t e h F =
        entered_more words₀ words words' (ready_below w C k) (λ b. eqb b k) (ready_below w C (k + 1)) E F
        (λ b l. ap (λ (x : Bool). ready_below w C k b || (x && eqb b k)) (sym h) ∙ below_next k b t e)

    pub below_less : (t : Bool) → t ≡ is_ready (body_of w) C k → t ≡ false → Entered words₀ (ready_below w C (k + 1)) words
    below_less t e h =
        entered_ext words₀ words (ready_below w C k) (ready_below w C (k + 1)) E
        (λ b l. sym (or-false (ready_below w C k b)) ∙ (ap (λ (x : Bool). ready_below w C k b || (x && eqb b k)) (sym h) ∙ below_next k b t e))

    pub below_done : n ≤ k → k ≤ n → ReadyBut w C max_items words
    unfolding ready_below
    below_done l m =
        let F = graph_formed w table n G in
        record {
          size = E.size;
          each = subst (λ (B : Body). (b : ℕ) → b < max_items → in_mask words b ≡ ((ltb b (item_count B) && is_ready B C b) && not (eqb b max_items))) (sym (plan_body_lem w F))
              (λ b u.
              let i : k ≡ item_count (body_of w) = omega (arith, G.count) in
              E.each b u
              ∙ (ap (λ (x : List ℕ). in_mask x b || (ltb b k && is_ready (body_of w) C b)) z
              ∙ rw (none_in b u, i, ne_eqb b max_items (λ e. omega arith)) (sym (and-always (ltb b (item_count (body_of w)) && is_ready (body_of w) C b)))));
        }
