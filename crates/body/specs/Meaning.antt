-- What the definitions of transfers, items and places mean (proved in proofs/Theorems.antt).
use Rattle.std.specs.Prelude.{ℕ, suc, ◌+◌, ◌-◌, ◌*◌, ◌≤◌, ◌<◌, ◌≡◌, true, false, ◌⊎◌, ◌↔◌, List, [], ◌∷◌, get_or}
use Rattle.std.proofs.Math.Option.{none, some}
use Rattle.finite.specs.Below.{sum_below}
use Rattle.finite.specs.Lists.{mem, position}
use Rattle.unroll.specs.Instances.{Before}
use Rattle.unroll.specs.Edges.{Edge}
use Rattle.unroll.specs.Meaning.{WaitsMade}
use Rattle.body.specs.Body.{Body}
use Rattle.body.specs.Transfers.{transfer, last_before, source, transfer_list, transfer_count, wrapped, wrapped_count}
use Rattle.body.specs.Items.{Item, task, send, receive, item_count, item_at, item_passes, total_steps, transfer_of}
use Rattle.body.specs.Places.{slot, copy, initial, system}

-- lexicographic order, of lists of one length
abbrev pub Less : List ℕ → List ℕ → Type 0
Less [] m = ⊥
Less (x ∷ l) [] = ⊥
Less (x ∷ l) (y ∷ m) = (x < y) ⊎ ((x ≡ y) × Less l m)

module _ (B : Body) where
  -- task j is the last that writes g, of the tasks 0 .. t-1
  pub record LastWriter (t g j : ℕ) : Type 0 where
    pub below : j < t
    pub writes : mem g (B.writes j) ≡ true
    pub last : (k : ℕ) → j < k → k < t → mem g (B.writes k) ≡ false

  -- (p, j) is the source of the read of g by task t in pass 1, which stands for every pass but 0: it writes g before (1, t), and no task
  -- instance in between does
  pub record Source (t g p j : ℕ) : Type 0 where
    pub below : j < B.tasks
    pub writes : mem g (B.writes j) ≡ true
    pub before : Before p j 1 t
    pub last : (r k : ℕ) → k < B.tasks → Before p j r k → Before r k 1 t → mem g (B.writes k) ≡ false

  -- task t on rank q reads g with source i
  pub record Reader (i g q t : ℕ) : Type 0 where
    pub below : t < B.tasks
    pub placed : B.rank t ≡ q
    pub reads : mem g (B.reads t) ≡ true
    pub sourced : source B t g ≡ some i

  -- the paper's condition for a transfer of writer i, region g and rank q
  pub record IsTransfer (i g q : ℕ) : Type 0 where
    pub below : i < B.tasks
    pub writes : mem g (B.writes i) ≡ true
    pub in_range : q < B.ranks
    pub other : q ≡ B.rank i → ⊥
    pub reader : (t : ℕ) × Reader i g q t

  -- the paper's words for a wrapped transfer (02, card 2): every read that it serves stands at or
  -- before its writer
  abbrev pub Wrapped : ℕ → ℕ → ℕ → Type 0
  Wrapped i g q = (t : ℕ) → Reader i g q t → t ≤ i

  abbrev pub Listed : Item → Type 0
  Listed x = (a : ℕ) × (a < item_count B) × (item_at B a ≡ x)

  -- the items' order: by task; the task itself, then its transfers by written region in record order, by rank, send before receive
  abbrev pub key : Item → List ℕ
  key (task i) = i ∷ 0 ∷ 0 ∷ 0 ∷ []
  key (send i g q) = i ∷ suc (position g (B.writes i)) ∷ q ∷ 0 ∷ []
  key (receive i g q) = i ∷ suc (position g (B.writes i)) ∷ q ∷ 1 ∷ []

  -- what the definitions mean
  pub record Meaning : Type 0 where
    pub last_writer : (t g j : ℕ) → (last_before B t g ≡ some j) ↔ LastWriter t g j
    pub no_writer : (t g : ℕ) → (last_before B t g ≡ none) ↔ ((k : ℕ) → k < t → mem g (B.writes k) ≡ false)
    pub sources : (t g j : ℕ) → t < B.tasks → (source B t g ≡ some j) ↔ ((p : ℕ) × Source t g p j)
    -- the wrapped transfers, the passes of the items, and the total of steps: nothing is taken off
    -- below 0, and it is two steps for each pass that each item has
    pub wraps : (i g q : ℕ) → (wrapped B i g q ≡ true) ↔ Wrapped i g q
    pub task_passes : (a i : ℕ) → item_at B a ≡ task i → item_passes B a ≡ B.passes
    pub wrapped_passes : (a i g q : ℕ) → (item_at B a ≡ send i g q) ⊎ (item_at B a ≡ receive i g q) → Wrapped i g q → item_passes B a ≡ B.passes - 1
    pub other_passes : (a i g q : ℕ) → (item_at B a ≡ send i g q) ⊎ (item_at B a ≡ receive i g q) → (Wrapped i g q → ⊥) → item_passes B a ≡ B.passes
    pub total : 1 ≤ B.passes → total_steps B + 2 * (2 * wrapped_count B) ≡ 2 * (B.passes * item_count B)
    pub total_no_pass : B.passes ≡ 0 → total_steps B ≡ 0
    pub total_each : total_steps B ≡ sum_below (item_count B) (λ a. 2 * item_passes B a)
    -- behind the writer of a wrapped transfer no task writes its region, and none on q reads it
    pub wrapped_last : (i g q t : ℕ) → IsTransfer i g q → Wrapped i g q → i < t → t < B.tasks →
        (mem g (B.writes t) ≡ false) × (B.rank t ≡ q → mem g (B.reads t) ≡ false)
    -- what a made instance waits for is made: nothing waits for a send or receive that is not
    pub waits_made : WaitsMade (system B)
    -- the items and their order; that each stands once, and a receive right after its send, follows
    pub tasks_listed : (i : ℕ) → Listed (task i) ↔ (i < B.tasks)
    pub sends_listed : (i g q : ℕ) → Listed (send i g q) ↔ IsTransfer i g q
    pub receives_listed : (i g q : ℕ) → Listed (receive i g q) ↔ IsTransfer i g q
    pub counted : item_count B ≡ B.tasks + 2 * transfer_count B
    pub ordered : (a b : ℕ) → a < b → b < item_count B → Less (key (item_at B a)) (key (item_at B b))
    pub listed_once : (a b : ℕ) → a < item_count B → b < item_count B → item_at B a ≡ item_at B b → a ≡ b
    pub send_then : (a i g q : ℕ) → a < item_count B → item_at B a ≡ send i g q →
        (suc a < item_count B) × (item_at B (suc a) ≡ receive i g q)
    pub receive_after : (a i g q : ℕ) → a < item_count B → item_at B a ≡ receive i g q →
        (b : ℕ) × (a ≡ suc b) × (item_at B b ≡ send i g q)
    -- the number of its transfer leads an item of one to it
    pub numbered : (a i g q : ℕ) → a < item_count B → (item_at B a ≡ send i g q) ⊎ (item_at B a ≡ receive i g q) →
        (transfer_of B a < transfer_count B) × (get_or (transfer_list B) (transfer_of B a) (transfer 0 0 0) ≡ transfer i g q)
    -- copies and slots are places apart, and hold what the opening sets
    pub copies_apart : (q g r h : ℕ) → g < B.regions → h < B.regions → copy B q g ≡ copy B r h → (q ≡ r) × (g ≡ h)
    pub slots_apart : (a b : ℕ) → slot a ≡ slot b → a ≡ b
    pub copy_no_slot : (q g a : ℕ) → q < B.ranks → g < B.regions → copy B q g ≡ slot a → ⊥
    pub copy_opening : (q g : ℕ) → q < B.ranks → g < B.regions → initial B (copy B q g) ≡ B.starting g
    pub slot_opening : (a : ℕ) → initial B (slot a) ≡ 0
    -- no edge between tasks on two ranks, whatever regions they name
    pub one_rank : (a b d i j : ℕ) → Edge (system B) a b d → item_at B a ≡ task i → item_at B b ≡ task j →
        B.rank i ≡ B.rank j
