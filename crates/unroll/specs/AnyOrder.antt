-- Any order of steps against the items in order (proved in proofs/Theorems.antt).
use Rattle.std.specs.Prelude.{ℕ, suc, ◌+◌, ◌*◌, ◌≤◌, ◌<◌, ◌≡◌, ◌↔◌, List, ◌∷◌, ◌++◌, length, get_or}
use Rattle.std.proofs.Math.Option.{Option, none, some}
use Rattle.finite.specs.Below.{sum_below}
use Rattle.unroll.specs.Instances.{Before}
use Rattle.unroll.specs.System.{System, Writes, Accesses}
use Rattle.unroll.specs.Sequential.{store_at, word}
use Rattle.unroll.specs.Meaning.{Meaning}
use Rattle.unroll.specs.Machine.{State, Call, start, finish, item, alike, any_call, opening, Decides, reply, run, replies, accepted}

module _ (S : System) where
  -- what is assumed where passes differ from item to item: a place that a made instance accesses has no writer before it that is not
  -- made
  abbrev pub WritersMade : Type 0
  WritersMade = (p a q b x : ℕ) → a < S.items → b < S.items → Before p a q b → Writes S a x → Accesses S b x →
      q < S.passes b → p < S.passes a

  -- no item has a pass left
  abbrev pub End : State → Type 0
  End s = (a : ℕ) → a < S.items → s.finished a ≡ S.passes a

  -- two steps for each pass of each item
  unfoldable pub all_steps : ℕ
  all_steps = sum_below S.items (λ a. 2 * S.passes a)

module _ (S : System) (can : Decides S) where
  -- the state after a list of calls from the opening, and what one more call is answered
  abbrev pub reached : List Call → State
  reached l = run S can (opening S) l

  abbrev pub reply_after : List Call → Call → Option ℕ
  reply_after l c = reply S can (reached l) c

  -- how many calls of the list are accepted
  abbrev pub steps : List Call → ℕ
  steps l = accepted S can any_call (opening S) l

  -- how many calls of c's kind and item are: so the pass of c, where c is accepted after the list
  abbrev pub times : Call → List Call → ℕ
  times c l = accepted S can (alike c) (opening S) l

  -- demand 3, with the items in order in the place of the loop. Each field speaks of a state after any list l of calls from the opening,
  -- refused ones included; by the first, so of every call of any list
  pub record AnyOrder : Type 0 where
    -- a list of calls is answered call by call
    pub replied : (l : List Call) (c : Call) (k : List Call) → get_or (replies S can (opening S) (l ++ (c ∷ k))) (length l) none ≡ reply_after l c
    -- the counts are of accepted starts and finishes
    pub starts : (l : List Call) (a : ℕ) → (reached l).started a ≡ times (start a) l
    pub finishes : (l : List Call) (a : ℕ) → (reached l).finished a ≡ times (finish a) l
    -- the accepted starts of an item answer its words in passes 0, 1, 2 and on, and so do its finishes
    pub answers : (l : List Call) (c : Call) (v : ℕ) → reply_after l c ≡ some v → v ≡ word S (times c l) (item c)
    -- an accepted call is of an item, in one of its passes; an accepted finish belongs to the pass last started
    pub in_passes : (l : List Call) (c : Call) (v : ℕ) → reply_after l c ≡ some v →
        (item c < S.items) × (times c l < S.passes (item c))
    pub last_started : (l : List Call) (a v : ℕ) → reply_after l (finish a) ≡ some v → times (start a) l ≡ suc (times (finish a) l)
    -- while an item has a pass left, some step is accepted; at the end none is
    pub progress : (l : List Call) (a : ℕ) → a < S.items → (reached l).finished a < S.passes a →
        (c : Call) × (v : ℕ) × (reply_after l c ≡ some v)
    pub at_end_lem : (l : List Call) (c : Call) → End S (reached l) → reply_after l c ≡ none
    -- some list of accepted steps leads on to the end
    pub completes : (l : List Call) → (k : List Call) × (accepted S can any_call (reached l) k ≡ length k) × End S (reached (l ++ k))
    -- the accepted steps are those that the counts show, and the end is reached exactly when they are two for each pass of each item
    pub counts : (l : List Call) → steps l ≡ sum_below S.items (λ a. (reached l).started a + (reached l).finished a)
    pub ends : (l : List Call) → End S (reached l) ↔ (steps l ≡ all_steps S)
    -- at the end the places hold what the items in order leave after p passes, p at least the passes of each item
    pub final : (l : List Call) → End S (reached l) → (p : ℕ) → ((a : ℕ) → a < S.items → S.passes a ≤ p) →
        (x : ℕ) → (reached l).places x ≡ store_at S p 0 x

pub record Laws : Type 0 where
  pub meaning : (S : System) → Meaning S
  pub any_order : (S : System) (can : Decides S) → WritersMade S → AnyOrder S can
