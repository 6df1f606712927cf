-- Demand 2: what C gets from `taskiter_items`, `taskiter_edges` and `taskiter_total`
-- (specs/Given.antt).
use Prim.Native.Nat.{ℕ, ◌+◌, ◌*◌, ◌≤◌, ◌<◌}
use mathlib.Core.Path.{◌≡◌, refl, sym, ◌∙◌, ap, subst}
use mathlib.Core.Bool.{Bool, true, false, cond, ◌&&◌}
use mathlib.Core.Logic.{◌↔◌, inl, inr, ⊎_elim}
use mathlib.Core.List.{List, ◌++◌, flat_map}
use native.Mathlib.Decide.{ℕ_discrete, dec_lt}
use native.Mathlib.Omega.{arith}
use borrow.Author.Tests.{le-leb, lt-leb, leb-true, leb-false}
use lib.Dec.{leb}
use lib.ListN.{length, get_or, take, drop, length-map, get_or-append}
use lib.Seq.{length-take-le}
use Rattle.finite.specs.Lists.{tabulate}
use Rattle.finite.proofs.Tests.{not_both, false_of, and-true, and_intro}
use Rattle.finite.proofs.Collect.{get_d_map}
use Rattle.finite.proofs.Tabulate.{tabulate_ext, tabulate_list}
use Rattle.body.specs.Items.{task, item_list, item_count, item_at}
use Rattle.edges.specs.Rule.{Triple, AllEdges}
use Rattle.plan.specs.Limits.{max_word}
use Rattle.plan.specs.Sizes.{max_items, edge_words}
use Rattle.plan.specs.Layout.{plan_words}
use Rattle.graph.specs.declared.Number.{Number}
use Rattle.graph.specs.Table.{code_of, table_of, Graph}
use Rattle.graph.specs.Answers.{refusal_of, long_plan, formed_plan, plan_body, three, ItemsAnswer, EdgesAnswer, TotalAnswer}
use Rattle.graph.proofs.Lookup.{code_rank_lem, code_fewer_lem, code_kind_lem, code_subject_lem}
use Rattle.graph.proofs.Theorems.{laws as graph-laws}
use Rattle.walk.proofs.Listing.{length_three}
use Rattle.taskiter.specs.Given.{FromText, ShortOf, GraphGiven, SaysItem, ItemsGiven, edge_at, EdgesGiven, GoodPlan, TotalGiven}
use Rattle.taskiter.proofs.Parts.{get_d_part, length_behind, get_d_behind}
use Rattle.taskiter.proofs.Readiness.{read_formed, formed_read}

-- the refusal of a lent plan by the tests of its length and form, and of the room for its text; where no text is written, room is true
abbrev pub Tests : Bool → Bool → Bool → ℕ → Type 0
Tests long formed room n =
    ((n ≡ 11) ↔ (long ≡ false)) × ((n ≡ 12) ↔ ((long ≡ true) × (formed ≡ false)))
    × ((n ≡ 19) ↔ (((long ≡ true) × (formed ≡ true)) × (room ≡ false))) × ((n ≡ 0) ↔ (((long ≡ true) × (formed ≡ true)) × (room ≡ true)))

pub refusal_tests : (long formed room : Bool) (n : ℕ) → n ≡ cond long (cond formed (cond room 0 19) 12) 11 → Tests long formed room n
refusal_tests true true true n e = (
  (λ h. absurd (omega arith), λ h. absurd (not_both refl h)),
  (λ h. absurd (omega arith), λ h. absurd (not_both refl h.1)),
  (λ h. absurd (omega arith), λ h. absurd (not_both refl h.1)),
  (λ h. ((refl, refl), refl), λ h. e),
)
refusal_tests true true false n e = (
  (λ h. absurd (omega arith), λ h. absurd (not_both refl h)),
  (λ h. absurd (omega arith), λ h. absurd (not_both refl h.1)),
  (λ h. ((refl, refl), refl), λ h. e),
  (λ h. absurd (omega arith), λ h. absurd (not_both h.1 refl)),
)
refusal_tests true false room n e = (
  (λ h. absurd (omega arith), λ h. absurd (not_both refl h)),
  (λ h. (refl, refl), λ h. e),
  (λ h. absurd (omega arith), λ h. absurd (not_both h.0.1 refl)),
  (λ h. absurd (omega arith), λ h. absurd (not_both h.0.1 refl)),
)
refusal_tests false formed room n e = (
  (λ h. refl, λ h. e),
  (λ h. absurd (omega arith), λ h. absurd (not_both h.0 refl)),
  (λ h. absurd (omega arith), λ h. absurd (not_both h.0.0 refl)),
  (λ h. absurd (omega arith), λ h. absurd (not_both h.0.0 refl)),
)

-- the plan alone is looked at, and perhaps the room for its text
module _ (plan : List ℕ) (words : (i : ℕ) → get_or plan i 0 ≤ max_word) where
  pub good_plan : ((long_plan plan ≡ true) × (formed_plan plan ≡ true)) ↔ GoodPlan plan
  good_plan = (
    λ h. let l : plan_words ≤ length plan = leb-true _ _ h.0 in (l, formed_read plan words l h.1),
    λ h. (le-leb plan_words (length plan) h.0, read_formed plan h.1),
  )

  module _ (room : Bool) (n : ℕ) (tests : Tests (long_plan plan) (formed_plan plan) room n) where
    pub plan_11 : (n ≡ 11) ↔ (length plan < plan_words)
    plan_11 = (λ e. leb-false _ _ (tests.0.0 e), λ l. tests.0.1 (lt-leb plan_words (length plan) l))

    pub plan_12 : (n ≡ 12) ↔ ((plan_words ≤ length plan) × (FromText plan → ⊥))
    plan_12 = (
      λ e. let h = tests.1.0 e in (leb-true _ _ h.0, λ f. not_both (read_formed plan f) h.1),
      λ h. tests.1.1 (le-leb plan_words (length plan) h.0, false_of (formed_plan plan) (λ f. h.1 (formed_read plan words h.0 f))),
    )

-- the total
pub total_given : (plan : List ℕ) (r : Number) → ((i : ℕ) → get_or plan i 0 ≤ max_word) → TotalAnswer plan r → TotalGiven plan r
total_given plan r words A =
    let tests = refusal_tests (long_plan plan) (formed_plan plan) true r.refusal A.refusal in
    let good = good_plan plan words in
    record {
      refusal_11 = plan_11 plan words true r.refusal tests;
      refusal_12 = plan_12 plan words true r.refusal tests;
      refusal_0 = (λ e. good.0 (tests.3.0 e).0, λ h. tests.3.1 (good.1 h, refl));
      refused = A.refused;
      total = A.total;
    }

-- a slice of at least n numbers is lent with the plan
module _ (n : ℕ) (plan slice : List ℕ) where
  abbrev long : Bool
  long = long_plan plan && leb n (length slice)

  long_sizes : long ≡ true → (plan_words ≤ length plan) × (n ≤ length slice)
  long_sizes h =
      let p = and-true (long_plan plan) (leb n (length slice)) h in
      (leb-true plan_words (length plan) p.0, leb-true n (length slice) p.1)

  long_not : long ≡ true → ShortOf n plan slice → ⊥
  long_not h (inl l) = omega (arith, (long_sizes h).0)
  long_not h (inr l) = omega (arith, (long_sizes h).1)

  not_short : (ShortOf n plan slice → ⊥) → long ≡ true
  not_short f =
      let p : length plan < plan_words → ⊥ = λ h. f (inl h) in
      let q : length slice < n → ⊥ = λ h. f (inr h) in
      and_intro (long_plan plan) (leb n (length slice)) (le-leb plan_words (length plan) (omega arith)) (le-leb n (length slice) (omega arith))

  is_short : long ≡ false → ShortOf n plan slice
  is_short h =
      elim (dec_lt (length plan) plan_words) [
        | yes l ↦ inl l
        | no l ↦ elim (dec_lt (length slice) n) [ yes k ↦ inr k | no k ↦ absurd (not_both (not_short (⊎_elim (λ p. l p) (λ q. k q))) h) ]
      ]

  -- accepted, the first of its numbers are replaced by `front`
  module _ (words : (i : ℕ) → get_or plan i 0 ≤ max_word) (r : Number) (told : r.refusal ≡ refusal_of long (formed_plan plan) true) where
    accepted_both : r.refusal ≡ 0 → (plan_words ≤ length plan) × (n ≤ length slice) × (formed_plan plan ≡ true)
    accepted_both z = let t = ((refusal_tests long (formed_plan plan) true r.refusal told).3.0 z).0 in let l = long_sizes t.0 in (l.0, l.1, t.1)

    graph_given : (slice' : List ℕ) (end : ℕ) → ((r.refusal ≡ 0 → ⊥) → (r.number ≡ 0) × (slice' ≡ slice)) →
        (r.refusal ≡ 0 → (front : List ℕ) × (length front ≡ end) × (end ≤ n) × (slice' ≡ front ++ drop end slice)) → GraphGiven n plan slice r slice' end
    graph_given slice' end refused accepted =
        let t = refusal_tests long (formed_plan plan) true r.refusal told in
        record {
          refusal_11 = (λ e. is_short (t.0.0 e), λ s. t.0.1 (false_of long (λ h. long_not h s)));
          refusal_12 = (
            λ e. let h = t.1.0 e in (long_not h.0, λ f. not_both (read_formed plan f) h.1),
            λ h. let l = not_short h.0 in t.1.1 (l, false_of (formed_plan plan) (λ f. h.1 (formed_read plan words (long_sizes l).0 f))),
          );
          refusal_0 = (
            λ e. let h = (t.3.0 e).0 in (long_not h.0, formed_read plan words (long_sizes h.0).0 h.1),
            λ h. t.3.1 ((not_short h.0, read_formed plan h.1), refl),
          );
          refused = refused;
          size =
              elim (ℕ_discrete r.refusal 0) [
                | yes z ↦ let a = accepted z in ap length a.3 ∙ length_behind a.0 slice end a.1 (omega (arith, a.2, (accepted_both z).1))
                | no f ↦ ap length (refused f).1
              ];
          behind = λ i l.
              elim (ℕ_discrete r.refusal 0) [
                | yes z ↦ let a = accepted z in ap (λ (x : List ℕ). get_or x i 0) a.3 ∙ get_d_behind a.0 slice end a.1 i l
                | no f ↦ ap (λ (x : List ℕ). get_or x i 0) (refused f).1
              ];
        }

-- items
module _ (plan table : List ℕ) (r : Number) (table' : List ℕ) (words : (i : ℕ) → get_or plan i 0 ≤ max_word) (A : ItemsAnswer plan table r table') where
  table_size : length (table_of (plan_body plan)) ≡ item_count (plan_body plan)
  table_size = length-map (item_list (plan_body plan)) (code_of (plan_body plan))

  module _ (z : r.refusal ≡ 0) where
    both : (plan_words ≤ length plan) × (max_items ≤ length table) × (formed_plan plan ≡ true)
    both = accepted_both max_items plan table words r A.refusal z

    few : item_count (plan_body plan) ≤ max_items
    few = graph-laws.items (take plan_words plan) both.2

    table_front : (front : List ℕ) × (length front ≡ r.number) × (r.number ≤ max_items) × (table' ≡ front ++ drop r.number table)
    table_front =
        let k = A.listed z in
        (table_of (plan_body plan), table_size ∙ sym k.0, omega (arith, few, k.0), k.1 ∙ ap (λ (m : ℕ). table_of (plan_body plan) ++ drop m table) (sym k.0))

    coded : (a : ℕ) → a < item_count (plan_body plan) → get_or table' a 0 ≡ code_of (plan_body plan) (item_at (plan_body plan) a)
    unfolding item_at
    coded a l =
        ap (λ (x : List ℕ). get_or x a 0) (A.listed z).1
        ∙ (get_or-append (table_of (plan_body plan)) (drop (item_count (plan_body plan)) table) 0 a (omega (arith, table_size))
        ∙ get_d_map (code_of (plan_body plan)) (item_list (plan_body plan)) a (task 0) 0 l)

    table_graph : Graph (take plan_words plan) table' (item_count (plan_body plan))
    table_graph = record { long = length-take-le plan_words plan both.0; formed = both.2; count = refl; most = few; each = coded }

    says : (a : ℕ) → a < r.number → SaysItem (plan_body plan) (item_at (plan_body plan) a) (get_or table' a 0)
    says a l =
        let k : a < item_count (plan_body plan) = omega (arith, (A.listed z).0) in
        record {
          rank = code_rank_lem (take plan_words plan) table' (item_count (plan_body plan)) table_graph a k (get_or table' a 0) refl;
          kind = code_kind_lem (take plan_words plan) table' (item_count (plan_body plan)) table_graph a k (get_or table' a 0) refl;
          fewer_passes = code_fewer_lem (take plan_words plan) table' (item_count (plan_body plan)) table_graph a k (get_or table' a 0) refl;
          subject = code_subject_lem (take plan_words plan) table' (item_count (plan_body plan)) table_graph a k (get_or table' a 0) refl;
        }

  pub items_given : ItemsGiven plan table r table'
  items_given =
      record {
        graph = graph_given max_items plan table words r A.refusal table' r.number A.refused table_front;
        number = λ z. (A.listed z).0;
        entries = says;
      }

-- edges

three_long : (x : Triple) → length (three x) ≡ 3
three_long (a, b, d) = refl

three_is : (x : Triple) (p q t : ℕ) → p ≡ get_or (three x) 0 0 → q ≡ get_or (three x) 1 0 → t ≡ get_or (three x) 2 0 → ◌≡◌ {A = Triple} (p, q, t) x
three_is (a, b, d) p q t e f g = rw (e, f, g)

module _ (plan list : List ℕ) (r : Number) (list' : List ℕ) (words : (i : ℕ) → get_or plan i 0 ≤ max_word) (A : EdgesAnswer plan list r list') where
  module _ (z : r.refusal ≡ 0) where
    abbrev edges : List Triple
    edges = (A.listed z).0

    put_is : list' ≡ flat_map three edges ++ drop (3 * length edges) list
    put_is = (A.listed z).3

    list_front : (front : List ℕ) × (length front ≡ 3 * r.number) × (3 * r.number ≤ edge_words) × (list' ≡ front ++ drop (3 * r.number) list)
    list_front =
        let k = (A.listed z).2 in
        let most = graph-laws.room (take plan_words plan) (accepted_both edge_words plan list words r A.refusal z).2 edges (A.listed z).1 in (
          flat_map three edges,
          omega (arith, length_three edges, k),
          omega (arith, most, k),
          put_is ∙ ap (λ (m : ℕ). flat_map three edges ++ drop (3 * m) list) (sym k),
        )

    number_at : (k j : ℕ) → k < length edges → j < 3 → get_or list' (3 * k + j) 0 ≡ get_or (three (get_or edges k (0, 0, 0))) j 0
    number_at k j lk lj =
        ap (λ (x : List ℕ). get_or x (3 * k + j) 0) put_is
        ∙ get_d_part three 3 three_long (0, 0, 0) edges (drop (3 * length edges) list) k j lk lj

    edge_is : (k : ℕ) → k < length edges → edge_at list' k ≡ get_or edges k (0, 0, 0)
    edge_is k l =
        let e : 3 * k ≡ 3 * k + 0 = omega arith in
        three_is (get_or edges k (0, 0, 0)) (get_or list' (3 * k) 0) (get_or list' (3 * k + 1) 0) (get_or list' (3 * k + 2) 0)
        (ap (λ (i : ℕ). get_or list' i 0) e ∙ number_at k 0 l (omega arith)) (number_at k 1 l (omega arith)) (number_at k 2 l (omega arith))

    edges_are : tabulate r.number (edge_at list') ≡ edges
    edges_are =
        ap (λ (n : ℕ). tabulate n (edge_at list')) (A.listed z).2
        ∙ (tabulate_ext (length edges) (edge_at list') (λ k. get_or edges k (0, 0, 0)) edge_is ∙ tabulate_list edges (0, 0, 0))

  pub edges_given : EdgesGiven plan list r list'
  edges_given =
      record {
        graph = graph_given edge_words plan list words r A.refusal list' (3 * r.number) A.refused list_front;
        edges = λ z. subst (AllEdges (plan_body plan)) (sym (edges_are z)) (A.listed z).1;
      }
