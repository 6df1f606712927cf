-- The edges of the cyclic graph (paper 01, "Edges").
use Rattle.std.specs.Prelude.{ℕ, ◌<◌, ◌≡◌, ◌⊎◌}
use Rattle.unroll.specs.Instances.{Before}
use Rattle.unroll.specs.System.{System, Writes, Accesses}

module _ (S : System) where
  -- place x is accessed by both items, at least one of them writing it
  pub record Conflict (a b x : ℕ) : Type 0 where
    pub first : Accesses S a x
    pub second : Accesses S b x
    pub one_writes : Writes S a x ⊎ Writes S b x

  -- no item instance strictly between (p, a) and (q, b) writes x; r runs over all passes, whichever number the loop has
  abbrev pub Unwritten : ℕ → ℕ → ℕ → ℕ → ℕ → Type 0
  Unwritten x p a q b = (r c : ℕ) → c < S.items → Before p a r c → Before r c q b → Writes S c x → ⊥

  -- instance (q, b) depends on instance (p, a)
  pub record Dependence (p a q b : ℕ) : Type 0 where
    pub from : a < S.items
    pub to : b < S.items
    pub place : ℕ
    pub conflict : Conflict a b place
    pub order : Before p a q b
    pub between : Unwritten place p a q b

  -- an edge from item a to item b at distance d: by the rule, for the instances in passes 0 and d; besides, each item has one to
  -- itself at distance 1, since its descriptor is used again
  pub data Edge (a b d : ℕ) : Type 0 where
    rule : Dependence 0 a d b → Edge a b d
    reuse : a < S.items → a ≡ b → d ≡ 1 → Edge a b d
