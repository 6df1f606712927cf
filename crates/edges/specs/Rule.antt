-- All edges of a body's items in order, by the rule of the crate unroll (paper 01, "Edges").
use Rattle.std.specs.Prelude.{ℕ, ◌<◌, ◌≡◌, ◌⊎◌, ◌↔◌, length, get_or}
use mathlib.Core.List.{List, Memᴰ as In}
use Rattle.unroll.specs.Edges.{Edge}
use Rattle.body.specs.Body.{Body}
use Rattle.body.specs.Places.{system}

-- from, to, distance
abbrev pub Triple : Type 0
Triple = ℕ × ℕ × ℕ

-- the order by from, then to, then distance
abbrev pub Ahead : Triple → Triple → Type 0
Ahead (a, b, d) (a', b', d') = (a < a') ⊎ ((a ≡ a') × ((b < b') ⊎ ((b ≡ b') × (d < d'))))

module _ (B : Body) where
  -- the list holds the edges and nothing else, in order, so each once: there is one such list
  pub record AllEdges (l : List Triple) : Type 0 where
    pub exactly : (a b d : ℕ) → In (a, b, d) l ↔ Edge (system B) a b d
    pub ordered : (i j : ℕ) → i < j → j < length l → Ahead (get_or l i (0, 0, 0)) (get_or l j (0, 0, 0))
