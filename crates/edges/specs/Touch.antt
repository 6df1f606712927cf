-- How an item touches its rank's copy of a region: 0 not at all, 1 it reads it and no more, 2 it writes it. Of two items on one rank one
-- writes what both access exactly if their numbers make 3 or more. Nothing here need be believed: `proofs/` ties it to places.
use Rattle.std.specs.Prelude.{ℕ, cond, eqb}
use Rattle.finite.specs.Lists.{mem}
use Rattle.body.specs.Body.{Body}
use Rattle.body.specs.Items.{Item, task, send, receive, item_rank, item_at}

module _ (B : Body) where
  unfoldable pub touch : Item → ℕ → ℕ
  touch (task i) g = cond (mem g (B.writes i)) 2 (cond (mem g (B.reads i)) 1 0)
  touch (send i h q) g = cond (eqb g h) 1 0
  touch (receive i h q) g = cond (eqb g h) 2 0

  -- item a, rank q's copy
  unfoldable pub touch_on : ℕ → ℕ → ℕ → ℕ
  touch_on q a g = cond (eqb (item_rank B (item_at B a)) q) (touch (item_at B a) g) 0
