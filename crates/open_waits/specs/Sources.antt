-- The items that an item waits for at the opening, found in one pass over the items. A place is the
-- copy of a region on a rank, 128 × rank + region. Each touch of a place is an event; those of item
-- a are numbered from 8 × a on. The events at a place are chained from the last one back to the
-- place's last write. This serves the contracts of inner functions: nothing here need be believed.
use Rattle.std.specs.Prelude.{ℕ, zero, suc, ◌+◌, ◌-◌, ◌*◌, ◌/◌, ◌%◌, ◌≤◌, ◌<◌, ◌≡◌, Bool, false, cond, not, ◌&&◌, ◌||◌, List, eqb, ltb, leb, length, get_or, set}
use Rattle.finite.specs.Below.{any_below, count_below}
use Rattle.body.specs.Body.{Body}
use Rattle.body.specs.Items.{item_count}
use Rattle.edges.specs.Touch.{touch_on}
use Rattle.edges.specs.Tests.{written, edge_test}
use Rattle.plan.specs.Sizes.{max_items}

abbrev pub max_places : ℕ
max_places = 2048

abbrev pub max_events : ℕ
max_events = 5120

-- a link is one more than an event, 0 the end of a chain; `nexts` has a link for each event
module _ (nexts : List ℕ) where
  -- item b has an event on the chain from a link on, which is at most the first number
  unfoldable pub follow : ℕ → ℕ → ℕ → Bool
  follow zero link b = false
  follow (suc e) link b = cond (eqb link (suc e)) (eqb b (e / 8) || follow e (get_or nexts e 0) b) (follow e link b)

  unfoldable pub on_chain : ℕ → ℕ → Bool
  on_chain link b = follow link link b

module _ (B : Body) where
  -- item b, before a, touches region g of rank q as c says or more, and no item between writes it
  unfoldable pub is_since : ℕ → ℕ → ℕ → ℕ → ℕ → Bool
  is_since q g c a b = ltb b a && (leb c (touch_on B q b g) && not (written (item_count B) (touch_on B q) (b + 1) (a - (b + 1)) g))

  -- the same with item a, which touches the region as t says
  unfoldable pub since_with : ℕ → ℕ → ℕ → ℕ → ℕ → ℕ → Bool
  since_with q g c a t b = (eqb b a && leb c t) || (not (eqb t 2) && is_since q g c a b)

  -- a copy gives an edge from item b, before a, to item a of rank q, which touches region g as
  -- touches g says
  unfoldable pub hits : ℕ → ℕ → (ℕ → ℕ) → ℕ → Bool
  hits q a touches b = any_below 128 (λ g. is_since q g (3 - touches g) a b)

  -- an edge leads from item b, before a, to a
  unfoldable pub is_source : ℕ → ℕ → Bool
  is_source a b = ltb b a && edge_test B b a

-- links of at most m: `heads` to the last event at each place, `writers` to the last that writes
-- it, and `nexts` from each event to the one before at its place
pub record Links (m : ℕ) (heads writers nexts : List ℕ) : Type 0 where
  pub heads_size : length heads ≡ max_places
  pub writers_size : length writers ≡ max_places
  pub nexts_size : length nexts ≡ max_events
  pub head_most : (x : ℕ) → get_or heads x 0 ≤ m
  pub writer_most : (x : ℕ) → get_or writers x 0 ≤ m
  pub next_most : (e : ℕ) → get_or nexts e 0 ≤ e

-- the chains once the items before a are passed and item a has touched each place x as touches x
-- says: on that of `heads` are the items that touched the place since its last write, with that
-- write, on that of `writers` the last that wrote it
pub record Kept (B : Body) (a : ℕ) (touches : ℕ → ℕ) (m : ℕ) (heads writers nexts : List ℕ) : Type 0 where
  pub links : Links m heads writers nexts
  pub head : (x b : ℕ) → x < max_places → on_chain nexts (get_or heads x 0) b ≡ since_with B (x / 128) (x % 128) 1 a (touches x) b
  pub writer : (x b : ℕ) → x < max_places → on_chain nexts (get_or writers x 0) b ≡ since_with B (x / 128) (x % 128) 2 a (touches x) b

-- the items found so far bear a mark, higher than all others, and are counted
module _ (mark : ℕ) where
  abbrev pub marked : List ℕ → ℕ → Bool
  marked seen b = eqb (get_or seen b 0) mark

  pub record Counted (seen : List ℕ) (number : ℕ) : Type 0 where
    pub size : length seen ≡ max_items
    pub most : (b : ℕ) → get_or seen b 0 ≤ mark
    pub count : number ≡ count_below max_items (marked seen)

  -- those for which S holds are marked besides
  abbrev pub Joined : (ℕ → Bool) → List ℕ → List ℕ → Type 0
  Joined S seen seen' = (b : ℕ) → b < max_items → marked seen' b ≡ (marked seen b || S b)

-- place x is touched by event e
pub record Placed (x e mark : ℕ) (writes : Bool) (heads heads' writers writers' nexts nexts' seen seen' : List ℕ) (number : ℕ) : Type 0 where
  pub head : heads' ≡ set heads x (e + 1)
  pub writer : writers' ≡ cond writes (set writers x (e + 1)) writers
  pub next : nexts' ≡ set nexts e (cond writes 0 (get_or heads x 0))
  pub joined : Joined mark (on_chain nexts (cond writes (get_or heads x 0) (get_or writers x 0))) seen seen'
  pub counted : Counted mark seen' number

-- item a of rank q has touched each region g of its rank as touches g says
pub record Touched (B : Body) (a q : ℕ) (touches : ℕ → ℕ) (m mark : ℕ) (heads writers nexts seen seen' : List ℕ) (number : ℕ) : Type 0 where
  pub kept : Kept B a (λ x. cond (eqb q (x / 128)) (touches (x % 128)) 0) m heads writers nexts
  pub joined : Joined mark (hits B q a touches) seen seen'
  pub counted : Counted mark seen' number

-- the items before a are passed
pub record ItemsPassed (B : Body) (a : ℕ) (heads writers nexts seen : List ℕ) : Type 0 where
  pub kept : Kept B a (λ x. 0) (8 * a) heads writers nexts
  pub size : length seen ≡ max_items
  pub most : (b : ℕ) → get_or seen b 0 ≤ a
