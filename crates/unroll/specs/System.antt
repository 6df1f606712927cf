-- Items over numbered places: what the paper's tasks, sends and receives become once copies and slots are numbered (crate body).
use Rattle.std.specs.Prelude.{ℕ, ◌≡◌, true, List}
use Rattle.finite.specs.Lists.{mem}

pub record System : Type 0 where
  -- the items are the numbers below this
  pub items : ℕ
  -- the passes of an item
  pub passes : ℕ → ℕ
  -- the places that an item reads, and those that it writes
  pub reads : ℕ → List ℕ
  pub writes : ℕ → List ℕ
  -- the word of an item, from the words in the places that it reads
  pub compute : ℕ → List ℕ → ℕ
  -- what a place holds at the opening
  pub initial : ℕ → ℕ

module _ (S : System) where
  abbrev pub Reads : ℕ → ℕ → Type 0
  Reads a x = mem x (S.reads a) ≡ true

  abbrev pub Writes : ℕ → ℕ → Type 0
  Writes a x = mem x (S.writes a) ≡ true

  pub data Accesses (a x : ℕ) : Type 0 where
    reading : Reads a x → Accesses a x
    writing : Writes a x → Accesses a x
