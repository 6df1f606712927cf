-- The end of the loop, from a lent state that is tied to the machine's opening: it is reached
-- exactly when the accepted steps are all of the loop's, and then the results are the loop's.
use Prim.Native.Nat.{ℕ, ◌≤◌, ◌<◌}
use mathlib.Core.Path.{◌≡◌, refl, sym, ◌∙◌, ap}
use mathlib.Core.Bool.{true, cond}
use mathlib.Core.Logic.{◌↔◌}
use mathlib.Core.List.{List}
use mathlib.Core.Option.{Option, none, some}
use lib.Dec.{eqb}
use lib.ListN.{length, take}
use Rattle.finite.specs.Lists.{mem}
use Rattle.finite.proofs.Members.{mem_map}
use Rattle.unroll.specs.System.{writing}
use Rattle.unroll.specs.Machine.{State, any_call, opening, Decides}
use Rattle.unroll.specs.Meaning.{Agree}
use Rattle.unroll.specs.AnyOrder.{End, reached}
use Rattle.unroll.proofs.Decide.{decides}
use Rattle.body.specs.Body.{Body}
use Rattle.body.specs.Transfers.{last_before}
use Rattle.body.specs.Items.{task, item_count, item_at, item_passes, total_steps}
use Rattle.body.specs.Places.{copy, writes_of, system, result_from, result_of as region_result}
use Rattle.body.specs.Loop.{loop_final}
use Rattle.body.specs.Computes.{Computes}
use Rattle.body.proofs.Writers.{last_some}
use Rattle.body.proofs.ItemList.{tasks_listed}
use Rattle.body.proofs.Theorems.{computes}
use Rattle.plan.specs.Layout.{plan_words}
use Rattle.graph.specs.Answers.{formed_plan, plan_body}
use Rattle.graph.proofs.Small.{plan_fits}
use Rattle.steps.specs.State.{state_of, done_by}
use Rattle.steps.specs.Answers.{Left, result_of}
use Rattle.steps.specs.Calls.{Call, is_step, Lent, play, accepted}
use Rattle.steps.proofs.Accepting.{result_shown, result_complete}
use Rattle.steps.proofs.Simulating.{Tied, tied_clear}
use Rattle.steps.proofs.Playing.{steps_of, picks_steps, play_tied, play_accepted}

-- the item of a task writes the copies on its rank
task_writes : (B : Body) (a j g : ℕ) → item_at B a ≡ task j → mem g (B.writes j) ≡ true → mem (copy B (B.rank j) g) ((system B).writes a) ≡ true
unfolding writes_of
task_writes B a j g e m = rw e (mem_map (copy B (B.rank j)) g (B.writes j) m)

-- states that agree at the places of items show the same results
pub result_agree : (B : Body) (s t : State) (g : ℕ) → Agree (system B) s t → region_result B s g ≡ region_result B t g
unfolding region_result
result_agree B s t g h = go (last_before B B.tasks g) refl
  where
    go : (o : Option ℕ) → last_before B B.tasks g ≡ o → result_from B s g o ≡ result_from B t g o
    go none e = refl
    go (some j) e =
        let w = last_some B B.tasks g j e in
        let i = (tasks_listed B j).1 w.below in
        ap (λ (x : ℕ). cond (eqb B.passes 0) (B.starting g) x)
        (h.places i.0 (copy B (B.rank j) g) i.1 (writing (task_writes B i.0 j g i.2 w.writes)))

module _ (plan : List ℕ) (long : plan_words ≤ length plan) (formed : formed_plan plan ≡ true) (s : Lent) (open-tied : Tied plan s (opening (system (plan_body plan)))) where
  abbrev B : Body
  B = plan_body plan

  can : Decides (system B)
  can = decides (system B)

  computed : Computes B can
  computed = computes B (plan_fits (take plan_words plan) formed) can

  tied : (l : List Call) → Tied plan (play plan s l) (reached (system B) can (steps_of l))
  tied l = play_tied plan can long formed l s (opening (system B)) open-tied

  -- every item has finished every pass that it has
  abbrev pub Done : List Call → Type 0
  Done l = (a : ℕ) → a < item_count B → done_by (play plan s l).counts a ≡ item_passes B a

  done_end : (l : List Call) → Done l ↔ End (system B) (reached (system B) can (steps_of l))
  done_end l = (λ d a la. sym ((tied l).agree.finished a la) ∙ d a la, λ e a la. (tied l).agree.finished a la ∙ e a la)

  pub done_total : (l : List Call) → Done l ↔ (accepted plan is_step s l ≡ total_steps B)
  done_total l =
      let n = play_accepted plan can long formed is_step any_call picks_steps l s (opening (system B)) open-tied in
      (λ d. n ∙ (computed.ends (steps_of l)).0 ((done_end l).0 d), λ e. (done_end l).1 ((computed.ends (steps_of l)).1 (sym n ∙ e)))

  pub result_final : (l : List Call) (g : ℕ) → let t = play plan s l in (result_of plan t.counts t.values g).refusal ≡ 0 →
      (result_of plan t.counts t.values g).word ≡ loop_final B g
  result_final l g z =
      let t = play plan s l in
      let c = (result_complete plan t.counts t.values (tied_clear plan long formed t (reached (system B) can (steps_of l)) (tied l)) g).0 z in
      ap (λ (r : Left). r.word) (result_shown plan t.counts t.values g z)
      ∙ (result_agree B (state_of t.counts t.values) (reached (system B) can (steps_of l)) g (tied l).agree
      ∙ computed.results (steps_of l) ((done_end l).0 c.1) g c.0)
