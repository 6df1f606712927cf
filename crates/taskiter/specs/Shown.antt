-- What a run hands out: the items and edges of its plan, the steps that it took, and the results.
-- T, L, C, W and R are the slices lent for items, edges, counts, values and results at entry, and
-- with a prime at exit.
use Rattle.std.specs.Prelude.{ℕ, ◌≤◌, ◌<◌, ◌≡◌, Bool, true, ◌&&◌, List, leb, length, get_or}
use Rattle.plan.specs.Sizes.{max_items, edge_words, count_words, value_words, result_words}
use Rattle.graph.specs.Answers.{refusal_of, long_plan, formed_plan, plan_body, ItemsAnswer, EdgesAnswer}
use Rattle.steps.specs.Answers.{result_of}
use Rattle.taskiter.specs.declared.Outcome.{Outcome}
use Rattle.taskiter.specs.Run.{Ran}

module _ (P T L C W R : List ℕ) where
  abbrev pub long_run : Bool
  long_run =
      long_plan P
      && (leb max_items (length T) && ((leb count_words (length C) && leb value_words (length W)) && (leb edge_words (length L) && leb result_words (length R))))

  pub record Shown (r : Outcome) (T' L' C' W' R' : List ℕ) : Type 0 where
    -- 11 a slice too short, 12 a plan not in form; then nothing is changed
    pub refusal : r.refusal ≡ refusal_of long_run (formed_plan P) true
    pub refused : (r.refusal ≡ 0 → ⊥) →
        (r ≡ record { refusal = r.refusal; items = 0; edges = 0; steps = 0 }) × (T' ≡ T) × (L' ≡ L) × (C' ≡ C) × (W' ≡ W) × (R' ≡ R)
    -- the items and edges of the plan, and a run from its opening to the end
    pub items : r.refusal ≡ 0 → ItemsAnswer P T (record { refusal = 0; number = r.items }) T'
    pub edges : r.refusal ≡ 0 → EdgesAnswer P L (record { refusal = 0; number = r.edges }) L'
    pub ran : r.refusal ≡ 0 → Ran P C W (record { refusal = 0; number = r.steps }) C' W'
    -- the result of each region; words behind stay
    pub results : r.refusal ≡ 0 → (g : ℕ) → g < (plan_body P).regions → get_or R' g 0 ≡ (result_of P C' W' g).word
    pub behind : r.refusal ≡ 0 → (length R' ≡ length R) × ((g : ℕ) → (plan_body P).regions ≤ g → get_or R' g 0 ≡ get_or R g 0)
