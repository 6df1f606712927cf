-- Edges and acceptance are decided, by computation.
use Prim.Native.Nat.{ℕ, suc, ◌+◌, ◌-◌, ◌≤◌, ◌<◌}
use mathlib.Core.Path.{◌≡◌, subst}
use mathlib.Core.Bool.{true, Bool-discrete}
use mathlib.Core.Logic.Dec
use mathlib.Core.Logic.{◌⊎◌, inl, inr, ⊎_elim}
use mathlib.Core.List.{◌++◌}
use native.Mathlib.Decide.{dec_lt, dec_le, ℕ_discrete}
use native.Mathlib.Omega.{arith}
use Rattle.finite.specs.Lists.{mem}
use Rattle.finite.proofs.Decide.{dec_map, dec_imp, dec_sum, dec_then, dec_below, dec_some}
use Rattle.finite.proofs.Members.{mem_append_left, mem_append_right}
use Rattle.unroll.specs.Instances.{Before, earlier, within}
use Rattle.unroll.specs.System.{System, Reads, Writes, Accesses, reading, writing}
use Rattle.unroll.specs.Edges.{Conflict, Unwritten, Dependence, Edge, rule, reuse}
use Rattle.unroll.specs.Machine.{State, start, finish, Met, CanStart, CanFinish, Decides}
use Rattle.unroll.proofs.LastWriter.{Last, clear, writer, last_writer}
use Rattle.unroll.proofs.Edges.{edge_distance, edge_from}

unfoldable pub dec_before : (p a q b : ℕ) → Dec (Before p a q b)
dec_before p a q b =
    elim (dec_lt p q) [
      | yes h ↦ yes (earlier h)
      | no h ↦ dec_map (λ t. within t.0 t.1) (not_earlier h) (Dec.and (ℕ_discrete p q) (dec_lt a b))
    ]
  where
    not_earlier : (p < q → ⊥) → Before p a q b → (p ≡ q) × (a < b)
    not_earlier h (earlier k) = absurd (h k)
    not_earlier h (within e k) = (e, k)

module _ (S : System) where
  unfoldable pub dec_writes : (a x : ℕ) → Dec (Writes S a x)
  dec_writes a x = Bool-discrete (mem x (S.writes a)) true

  unfoldable pub dec_accesses : (a x : ℕ) → Dec (Accesses S a x)
  dec_accesses a x = dec_map (⊎_elim reading writing) of (dec_sum (Bool-discrete (mem x (S.reads a)) true) (dec_writes a x))
    where
      of : Accesses S a x → Reads S a x ⊎ Writes S a x
      of (reading h) = inl h
      of (writing h) = inr h

  unfoldable pub dec_conflict : (a b x : ℕ) → Dec (Conflict S a b x)
  dec_conflict a b x =
      dec_map
      (λ h. record { first = h.0; second = h.1.0; one_writes = h.1.1 })
      (λ c. (c.first, (c.second, c.one_writes)))
      (Dec.and (dec_accesses a x) (Dec.and (dec_accesses b x) (dec_sum (dec_writes a x) (dec_writes b x))))

  unfoldable pub dec_last : (x p a q b : ℕ) → Last S x p a q b → Dec (Unwritten S x p a q b)
  dec_last x p a q b (clear f) = yes f
  dec_last x p a q b (writer r c l u v t f) = no (λ g. g r c l u v t)

  unfoldable pub dec_unwritten : (x p a q b : ℕ) → b < S.items → Before p a q b → Dec (Unwritten S x p a q b)
  dec_unwritten x p a q b l u = dec_last x p a q b (last_writer S x p a q b (omega arith) u)

  pub accesses_listed : (a x : ℕ) → Accesses S a x → mem x (S.reads a ++ S.writes a) ≡ true
  accesses_listed a x (reading h) = mem_append_left x (S.reads a) (S.writes a) h
  accesses_listed a x (writing h) = mem_append_right x (S.reads a) (S.writes a) h

  -- what a dependence asks of its place
  abbrev pub Through : ℕ → ℕ → ℕ → ℕ → ℕ → Type 0
  Through p a q b x = Conflict S a b x × (Before p a q b × Unwritten S x p a q b)

  unfoldable pub dec_through : (p a q b x : ℕ) → b < S.items → Dec (Through p a q b x)
  dec_through p a q b x lb = Dec.and (dec_conflict a b x) (dec_then (dec_before p a q b) (dec_unwritten x p a q b lb))

  unfoldable pub dec_dependence : (p a q b : ℕ) → Dec (Dependence S p a q b)
  dec_dependence p a q b =
      dec_map
      (λ h. record { from = h.0.0; to = h.0.1; place = h.1.0; conflict = h.1.2.0; order = h.1.2.1.0; between = h.1.2.1.1 })
      (λ e. ((e.from, e.to), (e.place, accesses_listed b e.place e.conflict.second, (e.conflict, (e.order, e.between)))))
      (dec_then (Dec.and (dec_lt a S.items) (dec_lt b S.items)) (λ l. dec_some (Through p a q b) (λ x. dec_through p a q b x l.1) (S.reads b ++ S.writes b)))

  unfoldable pub dec_edge : (a b d : ℕ) → Dec (Edge S a b d)
  dec_edge a b d =
      dec_map (⊎_elim rule (λ h. reuse h.0 h.1.0 h.1.1)) of
      (dec_sum (dec_dependence 0 a d b) (Dec.and (dec_lt a S.items) (Dec.and (ℕ_discrete a b) (ℕ_discrete d 1))))
    where
      of : Edge S a b d → Dependence S 0 a d b ⊎ ((a < S.items) × ((a ≡ b) × (d ≡ 1)))
      of (rule e) = inl e
      of (reuse l e h) = inr (l, (e, h))

  unfoldable pub dec_met : (s : State) (b p : ℕ) → Dec (Met S s b p)
  dec_met s b p = dec_sum (dec_lt p (s.finished b)) (dec_le (S.passes b) p)

  -- the waits of item a, as far as an edge may reach
  unfoldable pub dec_ready : (s : State) (a : ℕ) → Dec ((b : ℕ) → b < S.items → (d : ℕ) → d < 2 → Edge S b a d → d ≤ s.started a → Met S s b (s.started a - d))
  dec_ready s a = dec_below S.items _ (λ b. dec_below 2 _ (λ d. dec_imp (dec_edge b a d) (dec_imp (dec_le d (s.started a)) (dec_met s b (s.started a - d)))))

  pub ready_all : (s : State) (a : ℕ) → ((b : ℕ) → b < S.items → (d : ℕ) → d < 2 → Edge S b a d → d ≤ s.started a → Met S s b (s.started a - d)) →
      (b d p : ℕ) → Edge S b a d → p + d ≡ s.started a → Met S s b p
  ready_all s a f b d p e h =
      subst (λ (k : ℕ). Met S s b k) (omega arith) (f b (edge_from S b a d e) d (omega (arith, edge_distance S b a d e)) e (omega arith))

  unfoldable pub dec_start : (s : State) (a : ℕ) → Dec (CanStart S s a)
  dec_start s a =
      dec_map
      (λ h. record { in_range = h.0; left = h.1.0; idle = h.1.1.0; ready = ready_all s a h.1.1.1 })
      (λ c. (c.in_range, (c.left, (c.idle, λ b l d m e k. c.ready b d (s.started a - d) e (omega arith)))))
      (Dec.and (dec_lt a S.items) (Dec.and (dec_lt (s.finished a) (S.passes a)) (Dec.and (ℕ_discrete (s.started a) (s.finished a)) (dec_ready s a))))

  unfoldable pub dec_finish : (s : State) (a : ℕ) → Dec (CanFinish S s a)
  dec_finish s a =
      dec_map
      (λ h. record { in_range = h.0; running = h.1 })
      (λ c. (c.in_range, c.running))
      (Dec.and (dec_lt a S.items) (ℕ_discrete (s.started a) (suc (s.finished a))))

  abbrev pub decides : Decides S
  decides s (start a) = dec_start s a
  decides s (finish a) = dec_finish s a
