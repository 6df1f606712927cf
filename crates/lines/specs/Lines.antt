-- The lines that the run program prints (paper 01, "The run program"), as bytes: fields parted by
-- one space, each line ended by a line feed.
use Rattle.std.specs.Prelude.{ℕ, cond, List, ◌∷◌, ◌++◌, eqb}
use Rattle.text.specs.Ascii.{ascii}
use Rattle.edges.specs.Rule.{Triple}
use Rattle.text.specs.Digits.{decimal}

-- a space, and a 64-bit number in decimal
unfoldable pub field : ℕ → List ℕ
field n = 32 ∷ decimal 19 n

-- a space, and the word of a kind: `task`, `send`, `receive`
unfoldable pub kind_field : ℕ → List ℕ
kind_field kind =
    cond (eqb kind 0) (ascii " task") (cond (eqb kind 1) (ascii " send") (ascii " receive"))

-- number, kind, rank
unfoldable pub item_line : ℕ → ℕ → ℕ → List ℕ
item_line a kind rank = ascii "item" ++ (field a ++ (kind_field kind ++ (field rank ++ ascii "\n")))

-- from, to, distance
unfoldable pub edge_line : Triple → List ℕ
edge_line (a, b, d) = ascii "edge" ++ (field a ++ (field b ++ (field d ++ ascii "\n")))

-- total accepted
unfoldable pub steps_line : ℕ → List ℕ
steps_line n = ascii "steps" ++ (field n ++ ascii "\n")

-- region, result
unfoldable pub value_line : ℕ → ℕ → List ℕ
value_line g v = ascii "value" ++ (field g ++ (field v ++ ascii "\n"))

-- number, line
unfoldable pub refused_line : ℕ → ℕ → List ℕ
refused_line n line = ascii "refused" ++ (field n ++ (field line ++ ascii "\n"))
