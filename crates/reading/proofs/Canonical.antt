-- Words that are in form but for the number of transfers, by the plan that they say.
use Prim.Native.Nat.{ℕ}
use mathlib.Core.Bool.{Bool, ◌&&◌}
use mathlib.Core.List.{List}
use lib.ListN.{length}
use lib.Dec.{leb}
use Rattle.text.specs.Words.{alike}
use Rattle.reading.specs.Plan.{plan_of, words_of}
use Rattle.reading.specs.Valid.{valid}

-- the plan that they say keeps the limits, and they are its words: what it does not use is 0
unfoldable pub canonical : List ℕ → Bool
canonical w =
    valid (plan_of w)
    && (leb 1 (length (plan_of w).tasks) && alike (words_of (plan_of w)) w)
