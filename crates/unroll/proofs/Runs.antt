-- Lists of calls: what a call is answered, the states that are reached, and what their counts show.
use Prim.Native.Nat.{ℕ, suc, ◌+◌, ◌≤◌, ◌<◌}
use mathlib.Core.Path.{◌≡◌, refl, sym, ◌∙◌, ap}
use mathlib.Core.Bool.{Bool, true, false, cond}
use mathlib.Core.Logic.{ite, if_pos, if_neg}
use mathlib.Core.List.{List, [], ◌∷◌, ◌++◌}
use mathlib.Core.Option.{none, some, some-injective, none-ne-some}
use native.Mathlib.Omega.{arith}
use borrow.Author.Tests.{eqb-true}
use lib.Dec.{eqb}
use lib.ListN.{length, get_or}
use Rattle.finite.specs.Lists.{mem}
use Rattle.finite.specs.Update.{update}
use Rattle.finite.proofs.Tests.{false_of}
use Rattle.finite.proofs.Update.{put_in, put_out}
use Rattle.unroll.specs.System.{System}
use Rattle.unroll.specs.Sequential.{store_at, word}
use Rattle.unroll.specs.Machine.{State, Call, start, finish, item, alike, opening, Can, after, answer, start_state, finish_state, Decides, reply, step, run, replies, accepted}
use Rattle.unroll.specs.Meaning.{Started, Finished}
use Rattle.unroll.specs.AnyOrder.{WritersMade, End, reached, reply_after, times}
use Rattle.unroll.proofs.Instances.{before_pass}
use Rattle.unroll.proofs.Invariant.{Invariant, opening_invariant, start_invariant, finish_invariant, start_word}

module _ (S : System) (can : Decides S) where
  -- what holds after a call that is accepted and counts for n, and of the state as it was where it is refused
  pub step_ind : (P : State → ℕ → Type 0) (s : State) (c : Call) (n : ℕ) → (Can S s c → P (after S s c) n) → P s 0 → P (step S can s c) (ite (can s c) n 0)
  unfolding step
  step_ind P s c n f h = go (can s c)
    where
      go : (d : Dec (Can S s c)) → P (ite d (after S s c) s) (ite d n 0)
      go (yes k) = f k
      go (no k) = h

  pub can_accepts : (s : State) (c : Call) → Can S s c → reply S can s c ≡ some (answer S s c)
  unfolding reply
  can_accepts s c h = if_pos (can s c) h (some (answer S s c)) none

  pub cannot_refuses : (s : State) (c : Call) → (Can S s c → ⊥) → reply S can s c ≡ none
  unfolding reply
  cannot_refuses s c f = if_neg (can s c) f (some (answer S s c)) none

  pub can_steps : (s : State) (c : Call) → Can S s c → step S can s c ≡ after S s c
  unfolding step
  can_steps s c h = if_pos (can s c) h (after S s c) s

  pub can_counts : (s : State) (c : Call) (n : ℕ) → Can S s c → ◌≡◌ {A = ℕ} (ite (can s c) n 0) n
  can_counts s c n h = if_pos (can s c) h n 0

  pub reply_some : (s : State) (c : Call) (v : ℕ) → reply S can s c ≡ some v → Can S s c × (answer S s c ≡ v)
  unfolding reply
  reply_some s c v = go (can s c)
    where
      go : (d : Dec (Can S s c)) → ite d (some (answer S s c)) none ≡ some v → Can S s c × (answer S s c ≡ v)
      go (yes h) e = (h, some-injective (answer S s c) v e)
      go (no f) e = absurd (none-ne-some v e)

  pub reply_none : (s : State) (c : Call) → reply S can s c ≡ none → step S can s c ≡ s
  unfolding reply step
  reply_none s c = go (can s c)
    where
      go : (d : Dec (Can S s c)) → ite d (some (answer S s c)) none ≡ none → ite d (after S s c) s ≡ s
      go (yes h) e = absurd (none-ne-some (answer S s c) (sym e))
      go (no f) e = refl

  pub start_changes : (s : State) (a v : ℕ) → reply S can s (start a) ≡ some v → Started S s (step S can s (start a)) a v
  unfolding start_state
  start_changes s a v e =
      let h : Can S s (start a) × (answer S s (start a) ≡ v) = reply_some s (start a) v e in
      rw (can_steps s (start a) h.0, ← h.1)
      (record { word = refl; counted = λ b. refl; finished = λ b. refl; places = λ x. refl; held = λ b. refl })

  pub finish_changes : (s : State) (a v : ℕ) → reply S can s (finish a) ≡ some v → Finished S s (step S can s (finish a)) a v
  unfolding finish_state
  finish_changes s a v e =
      let h : Can S s (finish a) × (answer S s (finish a) ≡ v) = reply_some s (finish a) v e in
      rw (can_steps s (finish a) h.0, ← h.1)
      (record {
        word = refl;
        started = λ b. refl;
        counted = λ b. refl;
        written = λ x w. put_in (S.writes a) _ _ x w;
        unwritten = λ x f. put_out (S.writes a) _ _ x (false_of (mem x (S.writes a)) f);
        held = λ b. refl;
      })

  replies_from : (s : State) (l : List Call) (c : Call) (k : List Call) → get_or (replies S can s (l ++ (c ∷ k))) (length l) none ≡ reply S can (run S can s l) c
  unfolding run replies
  replies_from s [] c k = refl
  replies_from s (d ∷ l) c k = replies_from (step S can s d) l c k

  pub replies_at : (l : List Call) (c : Call) (k : List Call) → get_or (replies S can (opening S) (l ++ (c ∷ k))) (length l) none ≡ reply_after S can l c
  replies_at = replies_from (opening S)

  pub run_append : (s : State) (l k : List Call) → run S can s (l ++ k) ≡ run S can (run S can s l) k
  unfolding run
  run_append s [] k = refl
  run_append s (c ∷ l) k = run_append (step S can s c) l k

-- the accepted calls of c's kind and item, as the counts show them
abbrev pub shown : State → Call → ℕ
shown s (start a) = s.started a
shown s (finish a) = s.finished a

shown_update : (f : ℕ → ℕ) (a b : ℕ) → update f b (suc (f b)) a ≡ f a + cond (eqb a b) 1 0
unfolding update
shown_update f a b = go (eqb a b) refl
  where
    go : (t : Bool) → eqb a b ≡ t → cond t (suc (f b)) (f a) ≡ f a + cond t 1 0
    go true e = omega (arith, ap f (eqb-true a b e))
    go false e = omega arith

shown_after : (S : System) (s : State) (c d : Call) → shown (after S s d) c ≡ shown s c + cond (alike c d) 1 0
unfolding start_state finish_state
shown_after S s (start a) (start b) = shown_update s.started a b
shown_after S s (start a) (finish b) = omega arith
shown_after S s (finish a) (start b) = omega arith
shown_after S s (finish a) (finish b) = shown_update s.finished a b

module _ (S : System) (can : Decides S) where
  shown_run : (c : Call) (s : State) (l : List Call) → shown (run S can s l) c ≡ shown s c + accepted S can (alike c) s l
  unfolding run accepted
  shown_run c s [] = omega arith
  shown_run c s (d ∷ l) =
      omega (
        arith,
        shown_run c (step S can s d) l,
        step_ind S can (λ t n. shown t c ≡ shown s c + n) s d (cond (alike c d) 1 0) (λ h. shown_after S s c d) (omega arith),
      )

  shown_opening : (c : Call) → shown (opening S) c ≡ 0
  unfolding opening
  shown_opening (start a) = refl
  shown_opening (finish a) = refl

  pub shown_times : (c : Call) (l : List Call) → shown (reached S can l) c ≡ times S can c l
  shown_times c l = omega (arith, shown_run c (opening S) l, shown_opening c)

  module _ (W : WritersMade S) where
    after_invariant : (s : State) (c : Call) → Invariant S s → Can S s c → Invariant S (after S s c)
    after_invariant s (start a) i h = start_invariant S W s a i h
    after_invariant s (finish a) i h = finish_invariant S s a i h

    pub step_invariant : (s : State) (c : Call) → Invariant S s → Invariant S (step S can s c)
    step_invariant s c i = step_ind S can (λ t n. Invariant S t) s c 0 (after_invariant s c i) i

    run_invariant : (s : State) (l : List Call) → Invariant S s → Invariant S (run S can s l)
    unfolding run
    run_invariant s [] i = i
    run_invariant s (c ∷ l) i = run_invariant (step S can s c) l (step_invariant s c i)

    pub reached_invariant : (l : List Call) → Invariant S (reached S can l)
    reached_invariant l = run_invariant (opening S) l (opening_invariant S)

    answer_word : (s : State) (c : Call) → Invariant S s → Can S s c → answer S s c ≡ word S (shown s c) (item c)
    answer_word s (start a) i h = start_word S W s a i h ∙ ap (λ (k : ℕ). word S k a) (sym h.idle)
    answer_word s (finish a) i h = i.holds a h.in_range h.running

    pub answers : (l : List Call) (c : Call) (v : ℕ) → reply_after S can l c ≡ some v → v ≡ word S (times S can c l) (item c)
    answers l c v e =
        let h : Can S (reached S can l) c × (answer S (reached S can l) c ≡ v) = reply_some S can (reached S can l) c v e in
        sym h.1 ∙ (answer_word (reached S can l) c (reached_invariant l) h.0 ∙ ap (λ (k : ℕ). word S k (item c)) (shown_times c l))

    shown_made : (s : State) (c : Call) → Invariant S s → Can S s c → (item c < S.items) × (shown s c < S.passes (item c))
    shown_made s (start a) i h = (h.in_range, omega (arith, h.left, h.idle))
    shown_made s (finish a) i h = (h.in_range, omega (arith, h.running, i.most a))

    pub in_passes : (l : List Call) (c : Call) (v : ℕ) → reply_after S can l c ≡ some v → (item c < S.items) × (times S can c l < S.passes (item c))
    in_passes l c v e =
        let h : Can S (reached S can l) c × (answer S (reached S can l) c ≡ v) = reply_some S can (reached S can l) c v e in
        let m : (item c < S.items) × (shown (reached S can l) c < S.passes (item c)) = shown_made (reached S can l) c (reached_invariant l) h.0 in
        (m.0, omega (arith, m.1, shown_times c l))

    pub last_started : (l : List Call) (a v : ℕ) → reply_after S can l (finish a) ≡ some v → times S can (start a) l ≡ suc (times S can (finish a) l)
    last_started l a v e =
        let h : Can S (reached S can l) (finish a) × (answer S (reached S can l) (finish a) ≡ v) = reply_some S can (reached S can l) (finish a) v e in
        omega (arith, h.0.running, shown_times (start a) l, shown_times (finish a) l)

    end_refuses : (s : State) (c : Call) → Invariant S s → End S s → Can S s c → ⊥
    end_refuses s (start a) i e h = omega (arith, e a h.in_range, h.left)
    end_refuses s (finish a) i e h = omega (arith, e a h.in_range, h.running, i.most a)

    pub at_end_lem : (l : List Call) (c : Call) → End S (reached S can l) → reply_after S can l c ≡ none
    at_end_lem l c e = cannot_refuses S can (reached S can l) c (end_refuses (reached S can l) c (reached_invariant l) e)

    pub final : (l : List Call) → End S (reached S can l) → (p : ℕ) → ((a : ℕ) → a < S.items → S.passes a ≤ p) → (x : ℕ) → (reached S can l).places x ≡ store_at S p 0 x
    final l e p h x =
        (reached_invariant l).stored
        x
        p
        0
        (omega arith)
        (λ r b lb u m t. omega (arith, e b lb))
        (λ r b lb u t d. omega (arith, e b lb, h b lb, before_pass p 0 r (suc b) u))
