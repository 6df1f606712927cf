-- A list of calls on the lent state, against its starts and finishes on the machine of the crate unroll.
use Prim.Native.Nat.{ℕ, ◌+◌, ◌≤◌}
use mathlib.Core.Path.{◌≡◌, refl, ◌∙◌, ap, ap₂}
use mathlib.Core.Bool.{Bool, true, false, cond}
use mathlib.Core.Logic.{ite}
use mathlib.Core.List.{List, [], ◌∷◌, ◌++◌, map}
use native.Mathlib.Omega.{arith}
use lib.ListN.{length, get_or}
use Rattle.unroll.specs.Machine.{State, Call as Step, start as start_step, finish as finish_step, alike, any_call, Decides, step, run, accepted as accepted_steps}
use Rattle.body.specs.Places.{system}
use Rattle.plan.specs.Layout.{plan_words}
use Rattle.graph.specs.Answers.{formed_plan, plan_body}
use Rattle.steps.specs.Answers.{Left}
use Rattle.steps.specs.Calls.{Call, start, finish, result, is_start, is_finish, is_step, Lent, lent_by, call, is_accepted, play, replies, accepted}
use Rattle.steps.proofs.Simulating.{Tied, Follows, start_follows, finish_follows, result_same}

-- the starts and finishes of a list, and steps as calls

unfoldable pub steps_of : List Call → List Step
steps_of [] = []
steps_of (start a ∷ l) = start_step a ∷ steps_of l
steps_of (finish a ∷ l) = finish_step a ∷ steps_of l
steps_of (result g ∷ l) = steps_of l

abbrev pub call_of : Step → Call
call_of (start_step a) = start a
call_of (finish_step a) = finish a

pub steps_calls : (k : List Step) → steps_of (map call_of k) ≡ k
unfolding steps_of
steps_calls [] = refl
steps_calls (start_step a ∷ k) = ap (λ (r : List Step). start_step a ∷ r) (steps_calls k)
steps_calls (finish_step a ∷ k) = ap (λ (r : List Step). finish_step a ∷ r) (steps_calls k)

pub steps_append : (l k : List Call) → steps_of (l ++ k) ≡ steps_of l ++ steps_of k
unfolding steps_of
steps_append [] k = refl
steps_append (start a ∷ l) k = ap (λ (r : List Step). start_step a ∷ r) (steps_append l k)
steps_append (finish a ∷ l) k = ap (λ (r : List Step). finish_step a ∷ r) (steps_append l k)
steps_append (result g ∷ l) k = steps_append l k

-- lists one behind the other, and how many of a list are accepted

pub play_append : (plan : List ℕ) (l k : List Call) (s : Lent) → play plan s (l ++ k) ≡ play plan (play plan s l) k
unfolding play
play_append plan [] k s = refl
play_append plan (c ∷ l) k s = play_append plan l k (lent_by (call plan s c))

pub accepted_append : (plan : List ℕ) (t : Call → Bool) (s : Lent) (l k : List Call) → accepted plan t s (l ++ k) ≡ accepted plan t s l + accepted plan t (play plan s l) k
unfolding accepted play
accepted_append plan t s [] k = omega arith
accepted_append plan t s (c ∷ l) k = rw (accepted_append plan t (lent_by (call plan s c)) l k) (omega arith)

one_most : (x y : Bool) → cond x (cond y 1 0) 0 ≤ 1
one_most true true = omega arith
one_most true false = omega arith
one_most false y = omega arith

pub accepted_most : (plan : List ℕ) (t : Call → Bool) (s : Lent) (l : List Call) → accepted plan t s l ≤ length l
unfolding accepted
accepted_most plan t s [] = omega arith
accepted_most plan t s (c ∷ l) = omega (arith, one_most (is_accepted plan s c) (t c), accepted_most plan t (lent_by (call plan s c)) l)

-- each reply is what its call answers after the calls before it
pub replies_at : (plan : List ℕ) (k m : List Call) (c : Call) (s : Lent) (d : Left) → get_or (replies plan s (k ++ (c ∷ m))) (length k) d ≡ call plan (play plan s k) c
unfolding replies play
replies_at plan [] m c s d = refl
replies_at plan (b ∷ k) m c s d = replies_at plan k m c (lent_by (call plan s b)) d

-- tests that pick the same steps, and no result
pub record Picks (t : Call → Bool) (u : Step → Bool) : Type 0 where
  pub steps : (d : Step) → t (call_of d) ≡ u d
  pub results : (g : ℕ) → t (result g) ≡ false

pub picks_start : (a : ℕ) → Picks (is_start a) (alike (start_step a))
picks_start a = record { steps = same; results = λ g. refl }
  where
    same : (d : Step) → is_start a (call_of d) ≡ alike (start_step a) d
    same (start_step b) = refl
    same (finish_step b) = refl

pub picks_finish : (a : ℕ) → Picks (is_finish a) (alike (finish_step a))
picks_finish a = record { steps = same; results = λ g. refl }
  where
    same : (d : Step) → is_finish a (call_of d) ≡ alike (finish_step a) d
    same (start_step b) = refl
    same (finish_step b) = refl

pub picks_steps : Picks is_step any_call
picks_steps = record { steps = same; results = λ g. refl }
  where
    same : (d : Step) → is_step (call_of d) ≡ any_call d
    same (start_step b) = refl
    same (finish_step b) = refl

module _ (plan : List ℕ) (can : Decides (system (plan_body plan))) (long : plan_words ≤ length plan) (formed : formed_plan plan ≡ true) where
  pub step_follows : (s : Lent) (σ : State) (d : Step) → Tied plan s σ → Follows plan can s σ (call_of d) d
  step_follows s σ (start_step a) t = start_follows plan can long formed s σ a t
  step_follows s σ (finish_step a) t = finish_follows plan can long formed s σ a t

  result_tied : (s : Lent) (σ : State) (g : ℕ) → Tied plan s σ → Tied plan (lent_by (call plan s (result g))) σ
  result_tied s σ g t = rw (result_same plan s g) t

  pub play_tied : (l : List Call) (s : Lent) (σ : State) → Tied plan s σ → Tied plan (play plan s l) (run (system (plan_body plan)) can σ (steps_of l))
  unfolding play run steps_of
  play_tied [] s σ t = t
  play_tied (start a ∷ l) s σ t = play_tied l (lent_by (call plan s (start a))) (step (system (plan_body plan)) can σ (start_step a)) (start_follows plan can long formed s σ a t).tied
  play_tied (finish a ∷ l) s σ t = play_tied l (lent_by (call plan s (finish a))) (step (system (plan_body plan)) can σ (finish_step a)) (finish_follows plan can long formed s σ a t).tied
  play_tied (result g ∷ l) s σ t = play_tied l (lent_by (call plan s (result g))) σ (result_tied s σ g t)

  module _ (t : Call → Bool) (u : Step → Bool) (p : Picks t u) where
    -- what one call counts for
    count_step : (s : Lent) (σ : State) (d : Step) → Tied plan s σ →
        ◌≡◌ {A = ℕ} (cond (is_accepted plan s (call_of d)) (cond (t (call_of d)) 1 0) 0) (ite (can σ d) (cond (u d) 1 0) 0)
    count_step s σ d h = (step_follows s σ d h).counted (cond (t (call_of d)) 1 0) ∙ ap (λ (b : Bool). ite (can σ d) (cond b 1 0) 0) (p.steps d)

    count_result : (s : Lent) (g : ℕ) → ◌≡◌ {A = ℕ} (cond (is_accepted plan s (result g)) (cond (t (result g)) 1 0) 0) 0
    count_result s g = rw (p.results g) (go (is_accepted plan s (result g)))
      where
        go : (b : Bool) → ◌≡◌ {A = ℕ} (cond b 0 0) 0
        go true = refl
        go false = refl

    pub play_accepted : (l : List Call) (s : Lent) (σ : State) → Tied plan s σ → accepted plan t s l ≡ accepted_steps (system (plan_body plan)) can u σ (steps_of l)
    unfolding accepted accepted_steps steps_of
    play_accepted [] s σ h = refl
    play_accepted (start a ∷ l) s σ h =
        ap₂ ◌+◌ (count_step s σ (start_step a) h)
        (play_accepted l (lent_by (call plan s (start a))) (step (system (plan_body plan)) can σ (start_step a)) (start_follows plan can long formed s σ a h).tied)
    play_accepted (finish a ∷ l) s σ h =
        ap₂ ◌+◌ (count_step s σ (finish_step a) h)
        (play_accepted l (lent_by (call plan s (finish a))) (step (system (plan_body plan)) can σ (finish_step a)) (finish_follows plan can long formed s σ a h).tied)
    play_accepted (result g ∷ l) s σ h =
        omega (arith, count_result s g, play_accepted l (lent_by (call plan s (result g))) σ (result_tied s σ g h))
