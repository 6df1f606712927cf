-- Numbers put into a lent slice: for the contracts of code, and nothing that need be believed.
use Rattle.std.specs.Prelude.{ℕ, ◌+◌, ◌≤◌, ◌≡◌, List, ◌++◌, length, drop}
use Rattle.std.proofs.lemmas.List.Edits.{sets}

-- the slice begins with the numbers X, and what lies behind them is as it was; the answer is how
-- many they are
pub record Put (X out : List ℕ) (r : ℕ) (out' : List ℕ) : Type 0 where
  pub count : r ≡ length X
  pub begins : out' ≡ X ++ drop (length X) out

-- there is room for them
abbrev pub Room : List ℕ → List ℕ → Type 0
Room X out = length X ≤ length out

-- the numbers X are stored from an offset on, and the rest of the slice is as it was; the answer is
-- the offset behind them
pub record Added (X : List ℕ) (at : ℕ) (out : List ℕ) (r : ℕ) (out' : List ℕ) : Type 0 where
  pub end : r ≡ at + length X
  pub size : length out' ≡ length out
  pub stored : out' ≡ sets out at X

-- there is room for them from an offset on
pub record RoomAt (X : List ℕ) (at : ℕ) (out : List ℕ) : Type 0 where
  pub fits : at + length X ≤ length out
