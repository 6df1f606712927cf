-- What the definitions of edges and of the machine mean (proved in proofs/Theorems.antt).
use Rattle.std.specs.Prelude.{ℕ, suc, ◌+◌, ◌≤◌, ◌<◌, ◌≡◌, ◌⊎◌, ◌↔◌}
use Rattle.std.proofs.Math.Option.{none, some}
use Rattle.finite.specs.Update.{update}
use Rattle.unroll.specs.System.{System, Writes, Accesses}
use Rattle.unroll.specs.Sequential.{word_on}
use Rattle.unroll.specs.Edges.{Dependence, Edge}
use Rattle.unroll.specs.Machine.{State, Call, start, finish, Met, CanStart, Decides, reply, step}

module _ (S : System) where
  -- every instance that a made instance waits for is made
  abbrev pub WaitsMade : Type 0
  WaitsMade = (b a d p : ℕ) → Edge S b a d → p + d < S.passes a → p < S.passes b

  -- the papers' words for a start of item a in its next pass (01, "Steps"; 02, card 2): of its own
  -- passes the item has one left, and it does not run; every edge into a at distance 0 has its
  -- source finished in that pass, and every one at distance 1 in the pass before, if there is one.
  -- A wait for an instance that is not made counts as met (Met)
  pub record StartRule (s : State) (a : ℕ) : Type 0 where
    pub in_range : a < S.items
    pub left : s.finished a < S.passes a
    pub idle : s.started a ≡ s.finished a
    pub same_pass : (b : ℕ) → Edge S b a 0 → Met S s b (s.started a)
    pub pass_before : (b p : ℕ) → Edge S b a 1 → s.started a ≡ suc p → Met S s b p

  -- states that agree on the items, and on the places that items access
  pub record Agree (s t : State) : Type 0 where
    pub started : (a : ℕ) → a < S.items → s.started a ≡ t.started a
    pub finished : (a : ℕ) → a < S.items → s.finished a ≡ t.finished a
    pub held : (a : ℕ) → a < S.items → s.held a ≡ t.held a
    pub places : (a x : ℕ) → a < S.items → Accesses S a x → s.places x ≡ t.places x

  -- from s to t: an accepted start of item a reads and computes the word v, counts the start and holds v, and changes nothing else
  pub record Started (s t : State) (a v : ℕ) : Type 0 where
    pub word : v ≡ word_on S a s.places
    pub counted : (b : ℕ) → t.started b ≡ update s.started a (suc (s.started a)) b
    pub finished : (b : ℕ) → t.finished b ≡ s.finished b
    pub places : (x : ℕ) → t.places x ≡ s.places x
    pub held : (b : ℕ) → t.held b ≡ update s.held a v b

  -- from s to t: an accepted finish of item a counts it and writes v, the word held, to the item's places, and changes nothing else
  pub record Finished (s t : State) (a v : ℕ) : Type 0 where
    pub word : v ≡ s.held a
    pub started : (b : ℕ) → t.started b ≡ s.started b
    pub counted : (b : ℕ) → t.finished b ≡ update s.finished a (suc (s.finished a)) b
    pub written : (x : ℕ) → Writes S a x → t.places x ≡ v
    pub unwritten : (x : ℕ) → (Writes S a x → ⊥) → t.places x ≡ s.places x
    pub held : (b : ℕ) → t.held b ≡ s.held b

  pub record Meaning : Type 0 where
    -- the rule's edges are the same from every pass on, and no other distance than 0 and 1 occurs
    pub every_pass : (k p a q b : ℕ) → Dependence S p a q b ↔ Dependence S (k + p) a (k + q) b
    pub same_or_next : (p a q b : ℕ) → Dependence S p a q b → (q ≡ p) ⊎ (q ≡ suc p)
    pub distance : (a b d : ℕ) → Edge S a b d → d ≤ 1
    -- two items that write nothing they both access have no edge between them
    pub only_readers : (a b d : ℕ) → (a ≡ b → ⊥) →
        ((x : ℕ) → Accesses S a x → Accesses S b x → (Writes S a x → ⊥) × (Writes S b x → ⊥)) → Edge S a b d → ⊥
    -- a start is accepted by the papers' words
    pub start_rule : (s : State) (a : ℕ) → CanStart S s a ↔ StartRule s a
    -- where every instance that is waited for is made, that a wait can be met without being
    -- finished never decides
    pub finished_rule : WaitsMade → (s : State) (a b d p : ℕ) → StartRule s a → Edge S b a d → p + d ≡ s.started a → p < s.finished b
    -- acceptance can be tested, and every test makes the same machine
    pub decides : Decides S
    pub same_machine : (can can' : Decides S) (s : State) (c : Call) →
        (reply S can s c ≡ reply S can' s c) × (step S can s c ≡ step S can' s c)
    -- what a call changes, in every state
    pub start_changes : (can : Decides S) (s : State) (a v : ℕ) → reply S can s (start a) ≡ some v → Started s (step S can s (start a)) a v
    pub finish_changes : (can : Decides S) (s : State) (a v : ℕ) → reply S can s (finish a) ≡ some v → Finished s (step S can s (finish a)) a v
    pub refusal_changes : (can : Decides S) (s : State) (c : Call) → reply S can s c ≡ none → step S can s c ≡ s
    -- answers and changes depend on the counts and held words of items and on the places that items access, and on nothing else
    pub local : (can : Decides S) (s t : State) (c : Call) → Agree s t →
        (reply S can s c ≡ reply S can t c) × Agree (step S can s c) (step S can t c)
