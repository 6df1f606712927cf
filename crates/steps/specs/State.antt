-- The state that a host lends (paper 01, "Steps"; docs/LAYOUT.md), as a state of the machine of the crate unroll.
--   counts: a the started passes of item a, first_finished + a its finished passes, first_unmet + a
--     its number of unmet waits.
--   values: the places by their numbers, which are the copies and from first_slot on the slots; first_held + a the word that item a holds.
use Rattle.std.specs.Prelude.{ℕ, ◌+◌, List, get_or}
use Rattle.unroll.specs.Machine.{State}
use Rattle.body.specs.Body.{Body}
use Rattle.body.specs.Places.{system}
use Rattle.edges.specs.Tests.{edge_test}
use Rattle.waits.specs.Waits.{Fresh}
-- the sizes of the lent slices, and where things stand in them
pub use Rattle.plan.specs.Sizes.{count_words, value_words, first_finished, first_unmet, first_held}

abbrev pub state_of : List ℕ → List ℕ → State
state_of counts values =
    record {
      started = λ a. get_or counts a 0;
      finished = λ a. get_or counts (first_finished + a) 0;
      places = λ x. get_or values x 0;
      held = λ a. get_or values (first_held + a) 0;
    }

-- the finished passes of item a, and its number of unmet waits
abbrev pub done_by : List ℕ → ℕ → ℕ
done_by counts a = get_or counts (first_finished + a) 0

abbrev pub unmet_by : List ℕ → ℕ → ℕ
unmet_by counts a = get_or counts (first_unmet + a) 0

-- each stored number is a fresh count over the edges
abbrev pub FreshNumbers : Body → List ℕ → Type 0
FreshNumbers B counts = Fresh (system B) (edge_test B) (done_by counts) (unmet_by counts)
