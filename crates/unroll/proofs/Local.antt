-- The machine does not depend on its test of acceptance, nor on what the items do not use.
use Prim.Native.Nat.{ℕ, suc, ◌<◌}
use mathlib.Core.Path.{◌≡◌, refl, sym, ◌∙◌, ap, ap₂}
use mathlib.Core.Logic.{inl, inr, ⊎_elim, ite}
use mathlib.Core.List.{List, [], ◌∷◌}
use mathlib.Core.Option.{none, some}
use native.Mathlib.Omega.{arith}
use Rattle.finite.proofs.Members.{map_ext}
use Rattle.finite.proofs.Update.{update_ext, put_ext}
use Rattle.unroll.specs.System.{System, reading}
use Rattle.unroll.specs.Sequential.{word_on}
use Rattle.unroll.specs.Machine.{State, Call, start, finish, Can, after, answer, start_state, finish_state, Decides, reply, step, run, replies}
use Rattle.unroll.specs.Meaning.{Agree}
use Rattle.unroll.proofs.Edges.{edge_from}

module _ (S : System) where
  -- two tests of two calls that are accepted alike, with the same answer and states in a relation
  same_step : (can can' : Decides S) (R : State → State → Type 0) (s t : State) (c : Call) → (Can S s c → Can S t c) → (Can S t c → Can S s c) →
      (Can S s c → answer S s c ≡ answer S t c) → (Can S s c → R (after S s c) (after S t c)) → R s t →
      (reply S can s c ≡ reply S can' t c) × R (step S can s c) (step S can' t c)
  unfolding reply step
  same_step can can' R s t c f g a h r = go (can s c) (can' t c)
    where
      go : (d : Dec (Can S s c)) (e : Dec (Can S t c)) →
          (ite d (some (answer S s c)) none ≡ ite e (some (answer S t c)) none) × R (ite d (after S s c) s) (ite e (after S t c) t)
      go (yes k) (yes l) = (ap some (a k), h k)
      go (no k) (no l) = (refl, r)
      go (yes k) (no l) = absurd (l (f k))
      go (no k) (yes l) = absurd (k (g l))

  pub same_machine : (can can' : Decides S) (s : State) (c : Call) → (reply S can s c ≡ reply S can' s c) × (step S can s c ≡ step S can' s c)
  same_machine can can' s c = same_step can can' (λ s t. s ≡ t) s s c (λ k. k) (λ k. k) (λ k. refl) (λ k. refl) refl

  pub same_replies : (can can' : Decides S) (s : State) (l : List Call) → replies S can s l ≡ replies S can' s l
  unfolding replies
  same_replies can can' s [] = refl
  same_replies can can' s (c ∷ l) =
      let e = same_machine can can' s c in
      ap₂ ◌∷◌ e.0 (same_replies can can' (step S can s c) l ∙ ap (λ (t : State). replies S can' t l) e.1)

  pub same_run : (can can' : Decides S) (s : State) (l : List Call) → run S can s l ≡ run S can' s l
  unfolding run
  same_run can can' s [] = refl
  same_run can can' s (c ∷ l) = same_run can can' (step S can s c) l ∙ ap (λ (t : State). run S can' t l) (same_machine can can' s c).1

  agree_sym : (s t : State) → Agree S s t → Agree S t s
  agree_sym s t r =
      record {
        started = λ a l. sym (r.started a l);
        finished = λ a l. sym (r.finished a l);
        held = λ a l. sym (r.held a l);
        places = λ a x l h. sym (r.places a x l h);
      }

  agree_can : (s t : State) (c : Call) → Agree S s t → Can S s c → Can S t c
  agree_can s t (start a) r k =
      record {
        in_range = k.in_range;
        left = omega (arith, k.left, r.finished a k.in_range);
        idle = omega (arith, k.idle, r.started a k.in_range, r.finished a k.in_range);
        ready = λ b d p e h. ⊎_elim
            (λ m. inl (omega (arith, m, r.finished b (edge_from S b a d e))))
            (λ m. inr m)
            (k.ready b d p e (omega (arith, h, r.started a k.in_range)));
      }
  agree_can s t (finish a) r k = record { in_range = k.in_range; running = omega (arith, k.running, r.started a k.in_range, r.finished a k.in_range) }

  pub agree_word : (s t : State) (a : ℕ) → a < S.items → Agree S s t → word_on S a s.places ≡ word_on S a t.places
  unfolding word_on
  agree_word s t a l r = ap (S.compute a) (map_ext s.places t.places (S.reads a) (λ x h. r.places a x l (reading h)))

  agree_answer : (s t : State) (c : Call) → Agree S s t → Can S s c → answer S s c ≡ answer S t c
  agree_answer s t (start a) r k = agree_word s t a k.in_range r
  agree_answer s t (finish a) r k = r.held a k.in_range

  agree_after : (s t : State) (c : Call) → Agree S s t → Can S s c → Agree S (after S s c) (after S t c)
  unfolding start_state finish_state
  agree_after s t (start a) r k =
      record {
        started = λ b l. update_ext s.started t.started a (suc (s.started a)) (suc (t.started a)) b (ap suc (r.started a k.in_range)) (r.started b l);
        finished = r.finished;
        held = λ b l. update_ext s.held t.held a (word_on S a s.places) (word_on S a t.places) b (agree_word s t a k.in_range r) (r.held b l);
        places = r.places;
      }
  agree_after s t (finish a) r k =
      record {
        started = r.started;
        finished = λ b l. update_ext s.finished t.finished a (suc (s.finished a)) (suc (t.finished a)) b (ap suc (r.finished a k.in_range)) (r.finished b l);
        held = r.held;
        places = λ b x l h. put_ext (S.writes a) s.places t.places (s.held a) (t.held a) x (r.held a k.in_range) (r.places b x l h);
      }

  pub local : (can : Decides S) (s t : State) (c : Call) → Agree S s t → (reply S can s c ≡ reply S can t c) × Agree S (step S can s c) (step S can t c)
  local can s t c r = same_step can can (Agree S) s t c (agree_can s t c r) (agree_can t s c (agree_sym s t r)) (agree_answer s t c r) (agree_after s t c r) r
