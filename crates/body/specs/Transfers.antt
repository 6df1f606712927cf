-- The source of a read, and the transfers between ranks (paper 01, "Transfers and items").
use Rattle.std.specs.Prelude.{ℕ, zero, suc, Bool, false, cond, not, ◌&&◌, ◌||◌, eqb, leb, length, get_or}
use mathlib.Core.List.{List, flat_map}
use Rattle.std.proofs.Math.Option.{Option, none, some, or_else}
use Rattle.finite.specs.Below.{all_below, any_below, count_below}
use Rattle.finite.specs.Lists.{mem, gather, range}
use Rattle.body.specs.Body.{Body}

-- the word that task i wrote to region g, sent to rank q
pub data Transfer : Type 0 where
  transfer : (i g q : ℕ) → Transfer

-- the option is some i
abbrev pub equals : Option ℕ → ℕ → Bool
equals none i = false
equals (some j) i = eqb j i

module _ (B : Body) where
  -- the last writer of region g among the tasks 0 .. t-1
  unfoldable pub last_before : ℕ → ℕ → Option ℕ
  last_before zero g = none
  last_before (suc t) g = cond (mem g (B.writes t)) (some t) (last_before t g)

  -- the source of task t's read of region g: its last writer before the read, going back into the previous pass where needed; none
  -- where no task writes g
  unfoldable pub source : ℕ → ℕ → Option ℕ
  source t g = or_else (last_before t g) (last_before B.tasks g)

  -- task t on rank q reads region g with source i
  abbrev pub served : ℕ → ℕ → ℕ → ℕ → Bool
  served i g q t = eqb (B.rank t) q && (mem g (B.reads t) && equals (source t g) i)

  -- some task does
  unfoldable pub wanted : ℕ → ℕ → ℕ → Bool
  wanted i g q = any_below B.tasks (λ t. served i g q t)

  -- for writer i, region g and rank q there is a transfer: q is another rank, and wants the word
  unfoldable pub transferred : ℕ → ℕ → ℕ → Bool
  transferred i g q = not (eqb q (B.rank i)) && wanted i g q

  -- the transfers of task i: by written region in record order, then by rank rising
  unfoldable pub transfers_of : ℕ → List Transfer
  transfers_of i = flat_map (λ g. gather B.ranks (transferred i g) (transfer i g)) (B.writes i)

  -- the transfers of the body, task after task, and their number
  abbrev pub transfer_list : List Transfer
  transfer_list = flat_map transfers_of (range 0 B.tasks)

  unfoldable pub transfer_count : ℕ
  transfer_count = length transfer_list

  -- the transfer is wrapped (paper 02, card 2): every read that it serves stands at or before its
  -- writer in the body
  unfoldable pub wrapped : ℕ → ℕ → ℕ → Bool
  wrapped i g q = all_below B.tasks (λ t. not (served i g q t) || leb t i)

  -- some task on rank q reads region g in the pass in which task i wrote it: there is a transfer
  -- that is not wrapped. It serves the search for transfers, and nobody need believe it: `wrapped`
  -- is its opposite (proofs/Wrapped.antt)
  unfoldable pub forward : ℕ → ℕ → ℕ → Bool
  forward i g q = any_below B.tasks (λ t. eqb (B.rank t) q && (mem g (B.reads t) && equals (last_before t g) i))

  abbrev pub is_wrapped : Transfer → Bool
  is_wrapped (transfer i g q) = wrapped i g q

  -- how many transfers of the body are wrapped
  unfoldable pub wrapped_count : ℕ
  wrapped_count = count_below transfer_count (λ k. is_wrapped (get_or transfer_list k (transfer 0 0 0)))
