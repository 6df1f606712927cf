-- A loop body: tasks on ranks, with the regions that they read and write (paper 01, "The plan text").
use Rattle.std.specs.Prelude.{ℕ, ◌*◌, ◌≤◌, ◌<◌, ◌≡◌, true, List}
use Rattle.finite.specs.Lists.{mem, distinct}

pub record Body : Type 0 where
  pub passes : ℕ
  -- ranks, regions and tasks are the numbers below these; tasks in body order
  pub ranks : ℕ
  pub regions : ℕ
  pub tasks : ℕ
  -- the rank of a task, the regions that it reads and those that it writes, in record order, and its word from the words that it reads
  pub rank : ℕ → ℕ
  pub reads : ℕ → List ℕ
  pub writes : ℕ → List ℕ
  pub compute : ℕ → List ℕ → ℕ
  -- the starting value of a region
  pub starting : ℕ → ℕ

-- slots are the places from here on, copies those below: 16 ranks of 128 regions
abbrev pub first_slot : ℕ
first_slot = 2048

-- what is assumed of a body, for reading to see to: ranks and regions within their numbers, no region written twice by one task, and
-- no more copies than places for them
pub record Fits (B : Body) : Type 0 where
  pub rank_below : (i : ℕ) → i < B.tasks → B.rank i < B.ranks
  pub reads_below : (i g : ℕ) → i < B.tasks → mem g (B.reads i) ≡ true → g < B.regions
  pub writes_below : (i g : ℕ) → i < B.tasks → mem g (B.writes i) ≡ true → g < B.regions
  pub written_once : (i : ℕ) → i < B.tasks → distinct (B.writes i) ≡ true
  pub room : B.ranks * B.regions ≤ first_slot
