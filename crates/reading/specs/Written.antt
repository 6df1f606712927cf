-- The written text of a plan (paper 01, "The plan text").
use Rattle.std.specs.Prelude.{ℕ, suc, ◌≤◌, ◌≡◌, ◌↔◌}
use mathlib.Core.List.{List, [], ◌∷◌, ◌++◌, Memᴰ as In}
use Rattle.text.specs.declared.Number.TheVariants.{Value}
use Rattle.text.specs.declared.Mode.{Mode}
use Rattle.text.specs.declared.Record.{Record}
use Rattle.text.specs.declared.Record.TheVariants.{Loop, Begin, End, Unreadable}
use Rattle.text.specs.Ascii.{ascii}
pub use Rattle.text.specs.Digits.{decimal, digits}
use Rattle.reading.specs.Plan.{Access, Plan, Start, Task, plan_of}

-- the line of a record, without its line feed; a record that is none has an empty line
abbrev pub line : Record → List ℕ
line (Loop p q n) = ascii "loop" ++ (9 ∷ (digits p ++ (9 ∷ (digits q ++ (9 ∷ digits n)))))
line (Record.Start g v) = ascii "start" ++ (9 ∷ (digits g ++ (9 ∷ digits v)))
line (Begin q k c) = ascii "begin" ++ (9 ∷ (digits q ++ (9 ∷ (digits k ++ (9 ∷ digits c)))))
line (Record.Access Mode.In g) = ascii "in" ++ (9 ∷ digits g)
line (Record.Access Mode.Out g) = ascii "out" ++ (9 ∷ digits g)
line (Record.Access Mode.Inout g) = ascii "inout" ++ (9 ∷ digits g)
line End = ascii "end"
line Unreadable = []

abbrev pub start_records : List Start → List Record
start_records [] = []
start_records (s ∷ l) = Record.Start (Value s.region) (Value s.value) ∷ start_records l

abbrev pub access_records : List Access → List Record
access_records [] = []
access_records (a ∷ l) = Record.Access a.mode (Value a.region) ∷ access_records l

abbrev pub task_records : List Task → List Record
task_records [] = []
task_records (t ∷ l) = Begin (Value t.rank) (Value t.kernel) (Value t.constant) ∷ (access_records t.accesses ++ (End ∷ task_records l))

abbrev pub records : Plan → List Record
records P = Loop (Value P.passes) (Value P.ranks) (Value P.regions) ∷ (start_records P.starts ++ task_records P.tasks)

-- the lines of records, each ended by a line feed
abbrev pub text_from : List Record → List ℕ
text_from [] = []
text_from (r ∷ l) = line r ++ (10 ∷ text_from l)

unfoldable pub text_of : List ℕ → List ℕ
text_of w = text_from (records (plan_of w))

-- `start` records as a written text has them: regions rising from g on, no value 0
abbrev pub Rising : ℕ → List Start → Type 0
Rising g [] = Unit
Rising g (s ∷ l) = (g ≤ s.region) × (s.value ≡ 0 → ⊥) × Rising (suc s.region) l

-- plans whose records differ only in the order of their `start` records and in those of value 0
pub record SameButStarts (P Q : Plan) : Type 0 where
  pub passes : P.passes ≡ Q.passes
  pub ranks : P.ranks ≡ Q.ranks
  pub regions : P.regions ≡ Q.regions
  pub tasks : P.tasks ≡ Q.tasks
  pub starts : (s : Start) → (s.value ≡ 0 → ⊥) → In s P.starts ↔ In s Q.starts
