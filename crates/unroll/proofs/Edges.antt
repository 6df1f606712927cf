-- Laws of conflicts, dependences and edges.
use Prim.Native.Nat.{ℕ, suc, ◌+◌, ◌-◌, ◌≤◌, ◌<◌}
use mathlib.Core.Path.{◌≡◌, sym, subst}
use mathlib.Core.Logic.{◌⊎◌, inl, inr, ⊎_elim}
use native.Mathlib.Decide.{dec_lt}
use native.Mathlib.Omega.{arith}
use Rattle.unroll.specs.Instances.{Before, earlier}
use Rattle.unroll.specs.System.{System, Writes, Accesses, writing}
use Rattle.unroll.specs.Edges.{Conflict, Unwritten, Dependence, Edge, rule, reuse}
use Rattle.unroll.proofs.Instances.{before_pass, before_later, before_sooner, before_item}

module _ (S : System) where
  pub conflict_written : (a b x : ℕ) → Writes S a x → Accesses S b x → Conflict S a b x
  conflict_written a b x w h = record { first = writing w; second = h; one_writes = inl w }

  pub conflict_writes : (a b x : ℕ) → Accesses S a x → Writes S b x → Conflict S a b x
  conflict_writes a b x h w = record { first = h; second = writing w; one_writes = inr w }

  -- passes later, and passes sooner
  unwritten_later : (k x p a q b : ℕ) → Unwritten S x p a q b → Unwritten S x (k + p) a (k + q) b
  unwritten_later k x p a q b f r c l u v =
      let e : k + (r - k) ≡ r = omega (arith, before_pass (k + p) a r c u) in
      f (r - k) c l
      (before_sooner k p a (r - k) c (subst (λ (z : ℕ). Before (k + p) a z c) (sym e) u))
      (before_sooner k (r - k) c q b (subst (λ (z : ℕ). Before z c (k + q) b) (sym e) v))

  unwritten_sooner : (k x p a q b : ℕ) → Unwritten S x (k + p) a (k + q) b → Unwritten S x p a q b
  unwritten_sooner k x p a q b f r c l u v = f (k + r) c l (before_later k p a r c u) (before_later k r c q b v)

  pub dependence_later : (k p a q b : ℕ) → Dependence S p a q b → Dependence S (k + p) a (k + q) b
  dependence_later k p a q b d =
      record { from = d.from; to = d.to; place = d.place; conflict = d.conflict; order = before_later k p a q b d.order; between = unwritten_later k d.place p a q b d.between }

  pub dependence_sooner : (k p a q b : ℕ) → Dependence S (k + p) a (k + q) b → Dependence S p a q b
  dependence_sooner k p a q b d =
      record { from = d.from; to = d.to; place = d.place; conflict = d.conflict; order = before_sooner k p a q b d.order; between = unwritten_sooner k d.place p a q b d.between }

  -- the edge of a dependence
  pub dependence_edge : (p a q b : ℕ) → Dependence S p a q b → (d : ℕ) × (p + d ≡ q) × Edge S a b d
  dependence_edge p a q b e =
      let h : p ≤ q = before_pass p a q b e.order in
      let s : p + (q - p) ≡ q = omega arith in
      let z : p + 0 ≡ p = omega arith in
      (q - p, s, rule (dependence_sooner p 0 a (q - p) b (subst (λ (r : ℕ). Dependence S (p + 0) a r b) (sym s) (subst (λ (r : ℕ). Dependence S r a q b) (sym z) e))))

  -- where more than a pass lies between, the writer's own next instance, or its last, stands between
  pub same_or_next : (p a q b : ℕ) → Dependence S p a q b → (q ≡ p) ⊎ (q ≡ suc p)
  same_or_next p a q b e =
      elim (dec_lt (suc p) q) [
        | yes k ↦ absurd (⊎_elim
            (λ w. e.between (suc p) a e.from (earlier (omega arith)) (earlier k) w)
            (λ w. e.between (q - 1) b e.to (earlier (omega arith)) (earlier (omega arith)) w)
            e.conflict.one_writes)
        | no k ↦ elim (dec_lt p q) [ yes l ↦ inr (omega arith) | no l ↦ inl (omega (arith, before_pass p a q b e.order)) ]
      ]

  pub edge_distance : (a b d : ℕ) → Edge S a b d → d ≤ 1
  edge_distance a b d (rule e) = ⊎_elim (λ (h : d ≡ 0). omega arith) (λ (h : d ≡ suc 0). omega arith) (same_or_next 0 a d b e)
  edge_distance a b d (reuse l e h) = omega arith

  pub edge_from : (a b d : ℕ) → Edge S a b d → a < S.items
  edge_from a b d (rule e) = e.from
  edge_from a b d (reuse l e h) = l

  pub edge_to : (a b d : ℕ) → Edge S a b d → b < S.items
  edge_to a b d (rule e) = e.to
  edge_to a b d (reuse l e h) = omega arith

  -- within a pass an edge leads to a later item
  pub edge_within : (a b d : ℕ) → Edge S a b d → d ≡ 0 → a < b
  edge_within a b d (rule e) z = before_item 0 a d b e.order (omega arith)
  edge_within a b d (reuse l e h) z = absurd (omega arith)

  pub edge_only_readers : (a b d : ℕ) → (a ≡ b → ⊥) → ((x : ℕ) → Accesses S a x → Accesses S b x → (Writes S a x → ⊥) × (Writes S b x → ⊥)) → Edge S a b d → ⊥
  edge_only_readers a b d ne f (reuse l e h) = ne e
  edge_only_readers a b d ne f (rule e) =
      let k = f e.place e.conflict.first e.conflict.second in
      ⊎_elim k.0 k.1 e.conflict.one_writes
