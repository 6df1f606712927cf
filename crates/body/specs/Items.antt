-- The items of a body (paper 01, "Transfers and items"): numbered from 0 in body order, each task, then its transfers, send before receive.
use Rattle.std.specs.Prelude.{ℕ, ◌-◌, ◌*◌, cond, eqb, length, get_or}
use mathlib.Core.List.{List, [], ◌∷◌, flat_map}
use Rattle.finite.specs.Below.{count_below}
use Rattle.finite.specs.Lists.{range}
use Rattle.body.specs.Body.{Body}
use Rattle.body.specs.Transfers.{Transfer, transfer, transfers_of, wrapped, wrapped_count}

pub data Item : Type 0 where
  task : (i : ℕ) → Item
  send : (i g q : ℕ) → Item
  receive : (i g q : ℕ) → Item

-- 0 a task, 1 a send, 2 a receive
abbrev pub kind_of : Item → ℕ
kind_of (task i) = 0
kind_of (send i g q) = 1
kind_of (receive i g q) = 2

-- the task whose word an item carries
abbrev pub writer : Item → ℕ
writer (task i) = i
writer (send i g q) = i
writer (receive i g q) = i

-- the two items of a transfer
abbrev pub pair_of : Transfer → List Item
pair_of (transfer i g q) = send i g q ∷ receive i g q ∷ []

module _ (B : Body) where
  -- the rank of an item: a send is on its writer's rank, a receive on the rank that the word goes to
  abbrev pub item_rank : Item → ℕ
  item_rank (task i) = B.rank i
  item_rank (send i g q) = B.rank i
  item_rank (receive i g q) = q

  -- 1 for the two items of a wrapped transfer, which is not made in the last pass (02, card 2)
  unfoldable pub fewer : Item → ℕ
  fewer (task i) = 0
  fewer (send i g q) = cond (wrapped B i g q) 1 0
  fewer (receive i g q) = cond (wrapped B i g q) 1 0

  -- the passes of an item: the plan's, less that; none where the plan has none, as the difference
  -- stops at 0
  abbrev pub own_passes : Item → ℕ
  own_passes x = B.passes - fewer x

  -- task i and its transfers
  abbrev pub block : ℕ → List Item
  block i = task i ∷ flat_map pair_of (transfers_of B i)

  unfoldable pub item_list : List Item
  item_list = flat_map block (range 0 B.tasks)

  abbrev pub item_count : ℕ
  item_count = length item_list

  -- item a; beyond the items a task 0 that nothing uses
  unfoldable pub item_at : ℕ → Item
  item_at a = get_or item_list a (task 0)

  abbrev pub item_passes : ℕ → ℕ
  item_passes a = own_passes (item_at a)

  -- the total of steps (paper 02, card 2): 2 × (passes × items − 2 × wrapped transfers), and 0 with
  -- no pass, as the difference stops at 0
  unfoldable pub total_steps : ℕ
  total_steps = 2 * (B.passes * item_count - 2 * wrapped_count B)

  -- transfers are numbered from 0 in the order of their items: for an item a of a transfer, how many receives stand before it
  abbrev pub transfer_of : ℕ → ℕ
  transfer_of a = count_below a (λ b. eqb (kind_of (item_at b)) 2)
