-- The items of a body compute the unrolled loop, in order and in any order (proved in proofs/Theorems.antt).
use Rattle.std.specs.Prelude.{ℕ, ◌<◌, ◌≡◌, ◌↔◌, List}
use Rattle.std.proofs.Math.Option.{none, some}
use Rattle.unroll.specs.Sequential.{store_at, word}
use Rattle.unroll.specs.Machine.{State, Call, item, CanStart, Decides}
use Rattle.unroll.specs.Meaning.{StartRule}
use Rattle.unroll.specs.AnyOrder.{WritersMade, End, reached, reply_after, steps, times, AnyOrder}
use Rattle.body.specs.Body.{Body, Fits}
use Rattle.body.specs.Loop.{loop_word, loop_final}
use Rattle.body.specs.Transfers.{last_before}
use Rattle.body.specs.Items.{writer, item_count, item_at, item_passes, total_steps}
use Rattle.body.specs.Meaning.{Meaning}
use Rattle.body.specs.Places.{copy, system, result_of}

module _ (B : Body) where
  -- the items in order, each in the passes that it has, compute the loop: the words of the writers,
  -- and each region's final number
  pub record InOrder : Type 0 where
    pub words : (p a : ℕ) → p < item_passes B a → a < item_count B → word (system B) p a ≡ loop_word B p (writer (item_at B a))
    pub written : (g j : ℕ) → g < B.regions → last_before B B.tasks g ≡ some j →
        store_at (system B) B.passes 0 (copy B (B.rank j) g) ≡ loop_final B g
    -- of the loop alone
    pub unwritten : (g : ℕ) → last_before B B.tasks g ≡ none → loop_final B g ≡ B.starting g
    pub no_pass_lem : (g : ℕ) → B.passes ≡ 0 → loop_final B g ≡ B.starting g

-- demand 3 on the items of a body, but for calls for results: every list of calls from the opening answers the loop's numbers
pub record Computes (B : Body) (can : Decides (system B)) : Type 0 where
  pub any_order : AnyOrder (system B) can
  -- the accepted starts of an item answer the words of its writer in passes 0, 1, 2 and on of the loop, and so do its finishes
  pub answers : (l : List Call) (c : Call) (v : ℕ) → reply_after (system B) can l c ≡ some v →
      (item c < item_count B)
      × (times (system B) can c l < item_passes B (item c))
      × (v ≡ loop_word B (times (system B) can c l) (writer (item_at B (item c))))
  -- the end, every item having finished its own passes, is reached exactly when the accepted steps
  -- are 2 × (passes × items − 2 × wrapped transfers)
  pub ends : (l : List Call) → End (system B) (reached (system B) can l) ↔ (steps (system B) can l ≡ total_steps B)
  -- and then each region's result is its final number in the loop
  pub results : (l : List Call) → End (system B) (reached (system B) can l) →
      (g : ℕ) → g < B.regions → result_of B (reached (system B) can l) g ≡ loop_final B g

pub record Laws : Type 0 where
  pub meaning : (B : Body) → Fits B → Meaning B
  -- demand 2 on starts: accepted exactly by the papers' words
  pub start_rule : (B : Body) (s : State) (a : ℕ) → CanStart (system B) s a ↔ StartRule (system B) s a
  -- what the machine needs of passes that differ
  pub writers_made : (B : Body) → Fits B → WritersMade (system B)
  pub in_order : (B : Body) → Fits B → InOrder B
  pub computes : (B : Body) → Fits B → (can : Decides (system B)) → Computes B can
