-- What holds in every state that calls reach from the opening.
use Prim.Native.Nat.{ℕ, suc, ◌+◌, ◌≤◌, ◌<◌}
use mathlib.Core.Path.{◌≡◌, sym, ◌∙◌, ap, subst}
use mathlib.Core.Bool.{false}
use mathlib.Core.Logic.{⊎_elim}
use native.Mathlib.Decide.{dec_lt}
use native.Mathlib.Omega.{arith}
use Rattle.finite.specs.Lists.{mem}
use Rattle.finite.specs.Update.{update}
use Rattle.finite.proofs.Tests.{true_or_false, not_both}
use Rattle.finite.proofs.Members.{map_ext}
use Rattle.finite.proofs.Update.{update_ind, update_same, update_other, put_in, put_out}
use Rattle.unroll.specs.Instances.{Before}
use Rattle.unroll.specs.System.{System, Writes, Accesses, reading, writing}
use Rattle.unroll.specs.Sequential.{word_on, store_at, word}
use Rattle.unroll.specs.Edges.{Conflict, Unwritten, Edge}
use Rattle.unroll.specs.Machine.{State, opening, CanStart, CanFinish, start_state, finish_state}
use Rattle.unroll.specs.AnyOrder.{WritersMade}
use Rattle.unroll.proofs.Instances.{before_item, before_first, before_suc_cases, before_or_after, before_suc, before_pred}
use Rattle.unroll.proofs.Sequential.{store_written, store_open, store_stretch}
use Rattle.unroll.proofs.LastWriter.{Last, clear, writer, last_writer}
use Rattle.unroll.proofs.Edges.{conflict_written, conflict_writes, dependence_edge}

module _ (S : System) where
  -- every made writer of x before (q, c) has finished
  abbrev pub Written : State → ℕ → ℕ → ℕ → Type 0
  Written s x q c = (r b : ℕ) → b < S.items → Before r b q c → r < S.passes b → Writes S b x → r < s.finished b

  -- no writer of x at (q, c) or after it has finished
  abbrev pub Fresh : State → ℕ → ℕ → ℕ → Type 0
  Fresh s x q c = (r b : ℕ) → b < S.items → Before q c r (suc b) → Writes S b x → r < s.finished b → ⊥

  -- what conflicts with (p, a) and comes before it has finished, if it is made
  abbrev pub Served : State → ℕ → ℕ → Type 0
  Served s p a = (q b x : ℕ) → b < S.items → Before q b p a → Conflict S b a x → q < S.passes b → q < s.finished b

  pub record Invariant (s : State) : Type 0 where
    -- an item has started what it has finished and at most one pass more, within its passes
    pub low : (a : ℕ) → s.finished a ≤ s.started a
    pub high : (a : ℕ) → s.started a ≤ suc (s.finished a)
    pub most : (a : ℕ) → s.started a ≤ S.passes a
    pub served : (p a : ℕ) → a < S.items → p < s.started a → Served s p a
    -- a place whose writers before (q, c), and no others, have finished holds what it holds there in order
    pub stored : (x q c : ℕ) → c ≤ S.items → Written s x q c → Fresh s x q c → s.places x ≡ store_at S q c x
    -- a running item holds its word
    pub holds : (a : ℕ) → a < S.items → s.started a ≡ suc (s.finished a) → s.held a ≡ word S (s.finished a) a

  pub opening_invariant : Invariant (opening S)
  unfolding opening
  opening_invariant =
      record {
        low = λ a. omega arith;
        high = λ a. omega arith;
        most = λ a. omega arith;
        served = λ p a l h. absurd (omega arith);
        stored = λ x q c l f g. sym (store_stretch S 0 0 q c x (before_first q c) (omega arith) l (λ r b lb u v m t. absurd (omega (arith, f r b lb v m t))) ∙ store_open S x);
        holds = λ a l h. absurd (omega arith);
      }

  -- an instance that a's next pass depends on has finished, if it is made
  start_waited : (s : State) (a x q b : ℕ) → b < S.items → CanStart S s a → Before q b (s.finished a) a → Conflict S b a x →
      Unwritten S x q b (s.finished a) a → q < S.passes b → q < s.finished b
  start_waited s a x q b lb cs u k f m = go (dependence_edge S q b (s.finished a) a (record { from = lb; to = cs.in_range; place = x; conflict = k; order = u; between = f }))
    where
      go : (d : ℕ) × (q + d ≡ s.finished a) × Edge S b a d → q < s.finished b
      go (d, h, e) = ⊎_elim (λ t. t) (λ t. absurd (omega (arith, t))) (cs.ready b d q e (omega (arith, cs.idle)))

  -- so all that conflicts and comes before has: the last writer between served it
  start_served : WritersMade S → (s : State) (a : ℕ) → Invariant s → CanStart S s a → Served s (s.finished a) a
  start_served W s a i cs q b x lb u k m = go (last_writer S x q b (s.finished a) a (omega (arith, cs.in_range)) u)
    where
      go : Last S x q b (s.finished a) a → q < s.finished b
      go (clear f) = start_waited s a x q b lb cs u k f m
      go (writer r c lc v w t f) =
          let made : r < S.passes c = W r c (s.finished a) a x lc cs.in_range w t k.second cs.left in
          let done : r < s.finished c = start_waited s a x r c lc cs w (conflict_written S c a x t k.second) f made in
          i.served r c lc (omega (arith, i.low c)) q b x lb v (conflict_writes S b c x k.first t) m

  -- no later writer of what an unfinished instance accesses has finished
  unfinished_fresh : (s : State) (a x : ℕ) → Invariant s → a < S.items → s.finished a < S.passes a → Accesses S a x → Fresh s x (s.finished a) a
  unfinished_fresh s a x i la m h r b lb u t d =
      ⊎_elim
      (λ v. omega (arith, i.served r b lb (omega (arith, i.low b)) (s.finished a) a x la v (conflict_writes S a b x h t) m))
      (λ (e : (s.finished a ≡ r) × (a ≡ b)). omega (arith, ap s.finished e.1))
      (before_suc_cases (s.finished a) a r b u)

  -- so a start reads what the item reads in order
  pub start_word : WritersMade S → (s : State) (a : ℕ) → Invariant s → CanStart S s a → word_on S a s.places ≡ word S (s.finished a) a
  unfolding word_on word
  start_word W s a i cs =
      ap
      (S.compute a)
      (map_ext s.places (store_at S (s.finished a) a) (S.reads a) (λ x h.
      i.stored x (s.finished a) a (omega (arith, cs.in_range))
      (λ r b lb u m t. start_served W s a i cs r b x lb u (conflict_written S b a x t (reading h)) m)
      (unfinished_fresh s a x i cs.in_range cs.left (reading h))))

  start_serves : WritersMade S → (s : State) (a : ℕ) → Invariant s → CanStart S s a → (p c : ℕ) → c < S.items → p < update s.started a (suc (s.started a)) c → Served s p c
  start_serves W s a i cs p =
      update_ind
      (λ c r. c < S.items → p < r → Served s p c)
      s.started
      a
      (suc (s.started a))
      (λ la h.
      elim (dec_lt p (s.started a)) [
        | yes k ↦ i.served p a la k
        | no k ↦ subst (λ (q : ℕ). Served s q a) (omega (arith, cs.idle)) (start_served W s a i cs)
      ])
      (λ c ne lc h. i.served p c lc h)

  pub start_invariant : WritersMade S → (s : State) (a : ℕ) → Invariant s → CanStart S s a → Invariant (start_state S s a)
  unfolding start_state
  start_invariant W s a i cs =
      record {
        low = update_ind (λ c r. s.finished c ≤ r) s.started a (suc (s.started a)) (omega (arith, i.low a)) (λ c ne. i.low c);
        high = update_ind (λ c r. r ≤ suc (s.finished c)) s.started a (suc (s.started a)) (omega (arith, cs.idle)) (λ c ne. i.high c);
        most = update_ind (λ c r. r ≤ S.passes c) s.started a (suc (s.started a)) (omega (arith, cs.idle, cs.left)) (λ c ne. i.most c);
        served = start_serves W s a i cs;
        stored = i.stored;
        holds =
            update_ind
            (λ c r. c < S.items → update s.started a (suc (s.started a)) c ≡ suc (s.finished c) → r ≡ word S (s.finished c) c)
            s.held
            a
            (word_on S a s.places)
            (λ la e. start_word W s a i cs)
            (λ c ne lc e. i.holds c lc (omega (arith, update_other s.started a (suc (s.started a)) c ne)));
      }

  finish_finished : (s : State) (a b : ℕ) → s.finished b ≤ (finish_state S s a).finished b
  unfolding finish_state
  finish_finished s a = update_ind (λ b r. s.finished b ≤ r) s.finished a (suc (s.finished a)) (omega arith) (λ b ne. omega arith)

  -- the places that the item does not write
  finish_other : (s : State) (a : ℕ) → Invariant s → (x q c : ℕ) → mem x (S.writes a) ≡ false → c ≤ S.items →
      Written (finish_state S s a) x q c → Fresh (finish_state S s a) x q c → (finish_state S s a).places x ≡ store_at S q c x
  unfolding finish_state
  finish_other s a i x q c w l f g =
      put_out (S.writes a) _ _ x w
      ∙ i.stored x q c l
      (λ r b lb u m t. rw (← (update_other s.finished a (suc (s.finished a)) b (λ e. not_both (subst (λ (k : ℕ). Writes S k x) e t) w))) (f r b lb u m t))
      (λ r b lb u t d. g r b lb u t (omega (arith, finish_finished s a b)))

  -- no writer of what the item writes has finished after the item's instance
  finish_last : (s : State) (a x : ℕ) → Invariant s → CanFinish S s a → Writes S a x → (r b : ℕ) → b < S.items → Before (s.finished a) a r b → Writes S b x →
      r < (finish_state S s a).finished b → ⊥
  unfolding finish_state
  finish_last s a x i cf w r =
      update_ind
      (λ b k. b < S.items → Before (s.finished a) a r b → Writes S b x → r < k → ⊥)
      s.finished
      a
      (suc (s.finished a))
      (λ lb u t h. omega (arith, before_item (s.finished a) a r a u (omega arith)))
      (λ b ne lb u t h.
      omega (arith, i.served r b lb (omega (arith, i.low b)) (s.finished a) a x cf.in_range u (conflict_writes S a b x (writing w) t) (omega (arith, cf.running, i.most a))))

  finish_before : (s : State) (a x q c : ℕ) → CanFinish S s a → Writes S a x → Fresh (finish_state S s a) x q c → Before (s.finished a) a q c
  unfolding finish_state
  finish_before s a x q c cf w g =
      ⊎_elim
      (λ v. v)
      (λ v. absurd (g (s.finished a) a cf.in_range v w (omega (arith, update_same s.finished a (suc (s.finished a))))))
      (before_or_after (s.finished a) a q c)

  -- the places that it writes
  finish_own : (s : State) (a : ℕ) → Invariant s → CanFinish S s a → (x q c : ℕ) → Writes S a x → c ≤ S.items →
      Written (finish_state S s a) x q c → Fresh (finish_state S s a) x q c → (finish_state S s a).places x ≡ store_at S q c x
  unfolding finish_state
  finish_own s a i cf x q c w l f g =
      put_in (S.writes a) _ _ x w
      ∙ i.holds a cf.in_range cf.running
      ∙ sym
      (store_stretch
      S
      (s.finished a)
      (suc a)
      q
      c
      x
      (before_suc (s.finished a) a q c (finish_before s a x q c cf w g))
      cf.in_range
      l
      (λ r b lb u v m t. finish_last s a x i cf w r b lb (before_pred (s.finished a) a r b u) t (f r b lb v m t))
      ∙ store_written S (s.finished a) a x (omega (arith, cf.running, i.most a)) w)

  pub finish_invariant : (s : State) (a : ℕ) → Invariant s → CanFinish S s a → Invariant (finish_state S s a)
  unfolding finish_state
  finish_invariant s a i cf =
      record {
        low = update_ind (λ c r. r ≤ s.started c) s.finished a (suc (s.finished a)) (omega (arith, cf.running)) (λ c ne. i.low c);
        high = update_ind (λ c r. s.started c ≤ suc r) s.finished a (suc (s.finished a)) (omega (arith, cf.running)) (λ c ne. i.high c);
        most = i.most;
        served = λ p c lc h q b x lb u k m. omega (arith, finish_finished s a b, i.served p c lc h q b x lb u k m);
        stored =
            λ x q c l f g. ⊎_elim (λ w. finish_own s a i cf x q c w l f g) (λ w. finish_other s a i x q c w l f g) (true_or_false (mem x (S.writes a)));
        holds =
            update_ind
            (λ c r. c < S.items → s.started c ≡ suc r → s.held c ≡ word S r c)
            s.finished
            a
            (suc (s.finished a))
            (λ la e. absurd (omega (arith, cf.running)))
            (λ c ne lc e. i.holds c lc e);
      }
