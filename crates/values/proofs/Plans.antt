-- What a plan in form gives the functions that are lent it: numbers within their limits, and words
-- within the plan.
use Prim.Native.Nat.{ℕ, ◌%◌, ◌≤◌, ◌<◌}
use mathlib.Core.Path.{◌≡◌, ◌∙◌, ap}
use mathlib.Core.Bool.{true}
use mathlib.Core.List.{List}
use native.Mathlib.Nat.{mod-lt}
use native.Mathlib.Omega.{arith}
use lib.ListN.{length, take}
use lib.Seq.{take_all}
use Rattle.body.specs.Items.{item_count}
use Rattle.plan.specs.Limits.{max_passes, max_regions, max_tasks, max_accesses}
use Rattle.plan.specs.Sizes.{max_items}
use Rattle.plan.specs.Layout.{plan_words, passes_of, regions_of, tasks_of, accesses_of, body_of}
use Rattle.plan.specs.Form.{in_form}
use Rattle.plan.proofs.Facts.{formed, Formed as Facts}
use Rattle.graph.specs.Answers.{formed_plan, plan_body}
use Rattle.graph.proofs.Small.{form_words}
use Rattle.graph.proofs.Theorems.{laws}
use Rattle.values.specs.Items.{Formed}

module _ (w : List ℕ) (h : in_form w ≡ true) where
  pub passes_few : passes_of w ≤ max_passes
  passes_few = (formed w (form_words w h)).passes_most

  pub items_few : (n : ℕ) → n ≡ item_count (body_of w) → n ≤ max_items
  items_few n e = omega (arith, laws.items w h)

-- a plan is just as long as its words, so what is said of its first words is said of it
module _ (w : List ℕ) (F : Formed w) where
  pub plan_long : plan_words ≤ length w
  plan_long = omega (arith, F.long)

  pub plan_whole : take plan_words w ≡ w
  plan_whole = let h : length w ≤ plan_words = omega (arith, F.long) in take_all plan_words w h

  pub plan_body_lem : plan_body w ≡ body_of w
  plan_body_lem = ap body_of plan_whole

  pub plan_formed : formed_plan w ≡ true
  plan_formed = ap in_form plan_whole ∙ F.formed

-- the words of a plan in form as numbers
pub facts : (w : List ℕ) → Formed w → Facts w
facts w F = formed w (form_words w F.formed)

-- a task's words lie in the plan
pub task_room : (w : List ℕ) → Formed w → (i : ℕ) → i < tasks_of w → (i < max_tasks) × (accesses_of w i ≤ max_accesses)
task_room w F i l = (omega (arith, (facts w F).tasks_most), ((facts w F).used i l).accesses_most)

-- the starting value of a copy stands in the plan
pub start_room : (w : List ℕ) → Formed w → (x r : ℕ) → r ≡ regions_of w → x % r < max_regions
start_room w F x r e = let l : 0 < r = omega (arith, (facts w F).regions_least) in omega (arith, mod-lt x l, (facts w F).regions_most)
