-- In the last pass the items of wrapped transfers are left out, and no other item behind them in
-- the body meets them at a place. So nothing that is made misses what they would have written, or
-- waits for them.
use Prim.Native.Nat.{ℕ, suc, ◌-◌, ◌≤◌, ◌<◌}
use mathlib.Core.Path.{◌≡◌, refl, sym, ◌∙◌, ap, subst}
use mathlib.Core.Bool.{true, false}
use mathlib.Core.Logic.{◌⊎◌, inl, inr, ⊎_elim}
use mathlib.Core.List.{[], ◌∷◌}
use native.Mathlib.Decide.{dec_lt}
use native.Mathlib.Omega.{arith}
use borrow.Author.Tests.{eqb-true}
use Rattle.finite.specs.Lists.{mem, position}
use Rattle.finite.proofs.Tests.{true_or_false, not_both}
use Rattle.unroll.specs.System.{Writes, Accesses}
use Rattle.unroll.specs.Edges.{Conflict, rule, reuse}
use Rattle.unroll.specs.Meaning.{WaitsMade}
use Rattle.unroll.specs.AnyOrder.{WritersMade}
use Rattle.unroll.proofs.Instances.{before_pass, before_item}
use Rattle.unroll.proofs.Edges.{conflict_written, edge_within}
use Rattle.body.specs.Body.{Body, Fits}
use Rattle.body.specs.Transfers.{wrapped}
use Rattle.body.specs.Items.{Item, task, send, receive, kind_of, item_rank, item_count, item_at, item_passes}
use Rattle.body.specs.Places.{slot, copy, system}
use Rattle.body.specs.Meaning.{LastWriter, IsTransfer, Wrapped, Less, key}
use Rattle.body.proofs.Wrapped.{wraps, passes_wrapped, passes_other, passes_task, passes_most, wrapped_writer, wrapped_last, last_alike}
use Rattle.body.proofs.ItemList.{tasks_listed, sends_listed, receives_listed}
use Rattle.body.proofs.ItemOrder.{ordered, pair_key, send_then}
use Rattle.body.proofs.Accessed.{writes_copy, Names, Place, of_copy, of_send, of_receive, place_of, rank_below, copy_user, copy_writer, receive_kind, slot_users}

module _ (B : Body) where
  -- an item of the transfer i, g, q
  abbrev Of : ℕ → ℕ → ℕ → Item → Type 0
  Of i g q x = (x ≡ send i g q) ⊎ (x ≡ receive i g q)

  transfer_of_lem : (a i g q : ℕ) → a < item_count B → Of i g q (item_at B a) → IsTransfer B i g q
  transfer_of_lem a i g q l (inl e) = (sends_listed B i g q).0 (a, l, e)
  transfer_of_lem a i g q l (inr e) = (receives_listed B i g q).0 (a, l, e)

  -- what stands behind the items of a transfer of task i: later tasks, and the transfers of those
  -- and of i
  abbrev After : ℕ → Item → Type 0
  After i (task t) = i < t
  After i (send j h r) = i ≤ j
  After i (receive j h r) = i ≤ j

  after_pair : (i g q : ℕ) (x y : Item) → Of i g q x → Less (key B x) (key B y) → After i y
  after_pair i g q x y o h = let u = pair_key B i g q x o in go u.0 y (rw u.1 at h)
    where
      go : (n : ℕ) (y : Item) → Less (i ∷ suc (position g (B.writes i)) ∷ q ∷ n ∷ []) (key B y) → After i y
      go n (task t) (inl k) = k
      go n (task t) (inr (z, inl k)) = absurd (omega arith)
      go n (task t) (inr (z, inr k)) = absurd (omega (arith, k.0))
      go n (send j h r) (inl k) = omega arith
      go n (send j h r) (inr k) = omega (arith, k.0)
      go n (receive j h r) (inl k) = omega arith
      go n (receive j h r) (inr k) = omega (arith, k.0)

  module _ (F : Fits B) where
    -- item a is of the wrapped transfer i, g, q, and item b, of more passes, stands behind it
    module _ (a b i g q : ℕ) (l : a < b) (lb : b < item_count B) (o : Of i g q (item_at B a)) (w : Wrapped B i g q) (fewer : item_passes B a < item_passes B b) where
      T : IsTransfer B i g q
      T = transfer_of_lem a i g q (omega arith) o

      -- b is a task, or of another transfer
      not_of : Of i g q (item_at B b) → ⊥
      not_of z =
          let t = (wraps B i g q).1 w in
          omega (arith, passes_wrapped B i g q (item_at B a) o t, passes_wrapped B i g q (item_at B b) z t)

      behind : (y : Item) → item_at B b ≡ y → After i y
      behind y e = after_pair i g q (item_at B a) y o (rw e at (ordered B F a b l lb))

      -- b is no task that writes g, or reads it on rank q
      at_task : (t : ℕ) → item_at B b ≡ task t → (mem g (B.writes t) ≡ false) × (B.rank t ≡ q → mem g (B.reads t) ≡ false)
      at_task t e = wrapped_last B i g q t T w (behind (task t) e) ((tasks_listed B t).0 (b, lb, e))

      -- a transfer of g behind the last writer is that writer's
      same_writer : (j h r : ℕ) → IsTransfer B j h r → i ≤ j → g ≡ h → j ≡ i
      same_writer j h r U k e =
          elim (dec_lt i j) [
            | yes m ↦ absurd (not_both (rw e U.writes) (wrapped_last B i g q j T w m U.below).0)
            | no m ↦ omega arith
          ]

      -- a is the send: b does not write the copy that it reads
      sent : (y : Item) → item_at B b ≡ y → item_rank B y ≡ B.rank i → writes_copy B y g ≡ true → ⊥
      sent (task t) e p m = not_both m (at_task t e).0
      sent (send j h r) e p m = not_both m refl
      sent (receive j h r) e p m =
          let U = transfer_of_lem b j h r lb (inr e) in
          U.other (p ∙ ap B.rank (sym (same_writer j h r U (behind (receive j h r) e) (eqb-true g h m))))

      -- a is the receive: b does not access the copy that it writes
      received : (y : Item) → item_at B b ≡ y → item_rank B y ≡ q → Names B y g → ⊥
      received (task t) e p n = ⊎_elim (λ m. not_both m ((at_task t e).1 p)) (λ m. not_both m (at_task t e).0) n
      received (send j h r) e p (inl m) =
          T.other (sym p ∙ ap B.rank (same_writer j h r (transfer_of_lem b j h r lb (inl e)) (behind (send j h r) e) (eqb-true g h m)))
      received (send j h r) e p (inr m) = not_both m refl
      received (receive j h r) e p (inl m) = not_both m refl
      received (receive j h r) e p (inr m) =
          let s = eqb-true g h m in
          let u = same_writer j h r (transfer_of_lem b j h r lb (inr e)) (behind (receive j h r) e) s in
          not_of (inr (e ∙ cc))

      -- a names no region but g
      own : (y : Item) (h : ℕ) → Of i g q y → Names B y h → h ≡ g
      own y h (inl e) n = ⊎_elim (λ m. eqb-true h g m) (λ m. absurd (not_both m refl)) (subst (λ (z : Item). Names B z h) e n)
      own y h (inr e) n = ⊎_elim (λ m. absurd (not_both m refl)) (λ m. eqb-true h g m) (subst (λ (z : Item). Names B z h) e n)

      -- at the copy of g on the rank of a
      at_copy : Conflict (system B) a b (copy B (item_rank B (item_at B a)) g) → g < B.regions → ⊥
      at_copy c lg = go o c.one_writes
        where
          r : ℕ
          r = item_rank B (item_at B a)

          lr : r < B.ranks
          lr = rank_below B F a (omega arith)

          go : Of i g q (item_at B a) → Writes (system B) a (copy B r g) ⊎ Writes (system B) b (copy B r g) → ⊥
          go (inl e) (inl v) = not_both (subst (λ (y : Item). writes_copy B y g ≡ true) e (copy_writer B F r g a lr lg (omega arith) v).1) refl
          go (inl e) (inr v) = let u = copy_writer B F r g b lr lg lb v in sent (item_at B b) refl (u.0 ∙ ap (item_rank B) e) u.1
          go (inr e) v = let u = copy_user B F r g b lr lg lb c.second in received (item_at B b) refl (u.0 ∙ ap (item_rank B) e) u.1

      apart : (x : ℕ) → Conflict (system B) a b x → ⊥
      apart x c = go (place_of B F a x (omega arith) c.first)
        where
          second : (k : ℕ) → x ≡ slot k → ((kind_of (item_at B b) ≡ 1) × (b ≡ k)) ⊎ ((kind_of (item_at B b) ≡ 2) × (b ≡ suc k))
          second k e = slot_users B F b k lb (subst (Accesses (system B) b) e c.second)

          next : Of i g q (item_at B a) → kind_of (item_at B a) ≡ 1 → b ≡ suc a → ⊥
          next (inl e) k s = not_of (inr (ap (item_at B) s ∙ (send_then B F a i g q (omega arith) e).1))
          next (inr e) k s = omega (arith, ap kind_of e)

          go : Place B a (item_at B a) x → ⊥
          go (of_copy h lh e) =
              let c' = subst (Conflict (system B) a b) e c in
              let s = own (item_at B a) h o (copy_user B F (item_rank B (item_at B a)) h a (rank_below B F a (omega arith)) lh (omega arith) c'.first).1 in
              at_copy (rw s at c') (rw s at lh)
          go (of_send k e) = ⊎_elim (λ u. omega (arith, u.1)) (λ u. next o k u.1) (second a e)
          go (of_receive k e) =
              let r = receive_kind B F a (omega arith) k in
              ⊎_elim (λ u. omega (arith, u.1)) (λ u. omega (arith, u.1, r.1)) (second (a - 1) e)

    -- of two items that differ in passes, the one with fewer first, no place is accessed by both
    -- and written by one
    pub no_conflict : (a b x : ℕ) → a < b → b < item_count B → item_passes B a < item_passes B b → Conflict (system B) a b x → ⊥
    no_conflict a b x l lb fewer c = go (item_at B a) refl
      where
        pair : (i g q : ℕ) → Of i g q (item_at B a) → ⊥
        pair i g q o =
            ⊎_elim
            (λ t. apart a b i g q l lb o ((wraps B i g q).0 t) fewer x c)
            (λ t. omega (arith, passes_other B i g q (item_at B a) o t, (passes_most B (item_at B b)).0))
            (true_or_false (wrapped B i g q))

        go : (y : Item) → item_at B a ≡ y → ⊥
        go (task i) e = omega (arith, passes_task B i (item_at B a) e, (passes_most B (item_at B b)).0)
        go (send i g q) e = pair i g q (inl e)
        go (receive i g q) e = pair i g q (inr e)

    pub writers_made : WritersMade (system B)
    writers_made p a q b x la lb u v h m =
        let s = before_pass p a q b u in
        let t = passes_most B (item_at B a) in
        let n = passes_most B (item_at B b) in
        elim (dec_lt p (item_passes B a)) [
          | yes k ↦ k
          | no k ↦ absurd (no_conflict a b x (before_item p a q b u (omega arith)) lb (omega arith) (conflict_written (system B) a b x v h))
        ]

    pub waits_made : WaitsMade (system B)
    waits_made b a d p (reuse l e h) m = let z : item_passes B b ≡ item_passes B a = ap (item_passes B) e in omega arith
    waits_made b a d p (rule e) m =
        let t = passes_most B (item_at B b) in
        let n = passes_most B (item_at B a) in
        elim (dec_lt p (item_passes B b)) [
          | yes k ↦ k
          | no k ↦ absurd (no_conflict b a e.place (edge_within (system B) b a d (rule e) (omega arith)) e.to (omega arith) e.conflict)
        ]

    -- an item left out of the last pass does not write the copy on the rank of its region's last
    -- writer
    pub result_whole : (g j : ℕ) → g < B.regions → LastWriter B B.tasks g j → (p a : ℕ) → a < item_count B → Writes (system B) a (copy B (B.rank j) g) →
        p < B.passes → p < item_passes B a
    result_whole g j lg L p a la v k =
        let u = copy_writer B F (B.rank j) g a (F.rank_below j L.below) lg la v in
        go (item_at B a) refl u.0 u.1
      where
        -- its writer would be the last writer, and its rank another
        last : (i q : ℕ) → IsTransfer B i g q → Wrapped B i g q → q ≡ B.rank j → ⊥
        last i q T w r = T.other (r ∙ ap B.rank (last_alike B B.tasks g j i L (wrapped_writer B i g q T w)))

        received : (i q : ℕ) → item_at B a ≡ receive i g q → q ≡ B.rank j → p < item_passes B a
        received i q e r =
            ⊎_elim
            (λ t. absurd (last i q (transfer_of_lem a i g q la (inr e)) ((wraps B i g q).0 t) r))
            (λ t. omega (arith, passes_other B i g q (item_at B a) (inr e) t))
            (true_or_false (wrapped B i g q))

        go : (y : Item) → item_at B a ≡ y → item_rank B y ≡ B.rank j → writes_copy B y g ≡ true → p < item_passes B a
        go (task i) e r m = omega (arith, passes_task B i (item_at B a) e)
        go (send i h q) e r m = absurd (not_both m refl)
        go (receive i h q) e r m = received i q (e ∙ ap (λ (n : ℕ). receive i n q) (sym (eqb-true g h m))) r
