-- The step machine (paper 01, "Steps"): which calls are accepted, what they answer and change, and lists of calls. Acceptance is
-- defined in every state; a state out of form is for the layer that holds the counts to refuse (refusal 12).
use Rattle.std.specs.Prelude.{ℕ, suc, ◌+◌, ◌≤◌, ◌<◌, ◌≡◌, Bool, true, false, cond, List, [], ◌∷◌, ◌⊎◌, eqb}
use Rattle.std.proofs.Math.Logic.{ite}
use Rattle.std.proofs.Math.Option.{Option, none, some}
use Rattle.finite.specs.Update.{Store, update, put}
use Rattle.unroll.specs.System.{System}
use Rattle.unroll.specs.Sequential.{word_on}
use Rattle.unroll.specs.Edges.{Edge}

-- the passes that each item has started and finished, the word in each place, and the word that each item holds
pub record State : Type 0 where
  pub started : ℕ → ℕ
  pub finished : ℕ → ℕ
  pub places : Store
  pub held : ℕ → ℕ

pub data Call : Type 0 where
  start : ℕ → Call
  finish : ℕ → Call

abbrev pub item : Call → ℕ
item (start a) = a
item (finish a) = a

-- a call of the same kind and item
abbrev pub alike : Call → Call → Bool
alike (start a) (start b) = eqb a b
alike (start a) (finish b) = false
alike (finish a) (start b) = false
alike (finish a) (finish b) = eqb a b

-- picks every call
abbrev pub any_call : Call → Bool
any_call c = true

module _ (S : System) where
  unfoldable pub opening : State
  opening = record { started = λ a. 0; finished = λ a. 0; places = S.initial; held = λ a. 0 }

  -- the wait for item b in pass p is met: the instance has finished, or it is not made (02, card 2)
  abbrev pub Met : State → ℕ → ℕ → Type 0
  Met s b p = (p < s.finished b) ⊎ (S.passes b ≤ p)

  -- a start is accepted when the item has a pass left and does not run, and each edge into its next pass has its source finished. The
  -- source's pass is p where p + d is the item's next pass; where there is no such p, there is nothing to wait for
  pub record CanStart (s : State) (a : ℕ) : Type 0 where
    pub in_range : a < S.items
    pub left : s.finished a < S.passes a
    pub idle : s.started a ≡ s.finished a
    pub ready : (b d p : ℕ) → Edge S b a d → p + d ≡ s.started a → Met s b p

  -- a finish is accepted when the item runs
  pub record CanFinish (s : State) (a : ℕ) : Type 0 where
    pub in_range : a < S.items
    pub running : s.started a ≡ suc (s.finished a)

  -- a start reads and computes the word, and holds it
  unfoldable pub start_state : State → ℕ → State
  start_state s a =
      record {
        started = update s.started a (suc (s.started a));
        finished = s.finished;
        places = s.places;
        held = update s.held a (word_on S a s.places);
      }

  -- a finish writes the word that is held
  unfoldable pub finish_state : State → ℕ → State
  finish_state s a =
      record {
        started = s.started;
        finished = update s.finished a (suc (s.finished a));
        places = put (S.writes a) (s.held a) s.places;
        held = s.held;
      }

  -- a call: when it is accepted, the state after it, and its answer
  abbrev pub Can : State → Call → Type 0
  Can s (start a) = CanStart s a
  Can s (finish a) = CanFinish s a

  abbrev pub after : State → Call → State
  after s (start a) = start_state s a
  after s (finish a) = finish_state s a

  abbrev pub answer : State → Call → ℕ
  answer s (start a) = word_on S a s.places
  answer s (finish a) = s.held a

  -- a test of acceptance: the machine is the same for each (Meaning.same_machine)
  abbrev pub Decides : Type 0
  Decides = (s : State) (c : Call) → Dec (Can s c)

-- a refused call is answered nothing and changes nothing
module _ (S : System) (can : Decides S) where
  unfoldable pub reply : State → Call → Option ℕ
  reply s c = ite (can s c) (some (answer S s c)) none

  unfoldable pub step : State → Call → State
  step s c = ite (can s c) (after S s c) s

  -- the state after a list of calls, and what they are answered
  unfoldable pub run : State → List Call → State
  run s [] = s
  run s (c ∷ l) = run (step s c) l

  unfoldable pub replies : State → List Call → List (Option ℕ)
  replies s [] = []
  replies s (c ∷ l) = reply s c ∷ replies (step s c) l

  -- how many of the calls that t picks are accepted
  unfoldable pub accepted : (Call → Bool) → State → List Call → ℕ
  accepted t s [] = 0
  accepted t s (c ∷ l) = ite (can s c) (cond (t c) 1 0) 0 + accepted t (step s c) l
