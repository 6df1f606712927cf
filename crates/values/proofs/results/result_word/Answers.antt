use Prim.Native.Nat.{ℕ, ◌<◌, ◌*◌, ◌+◌}
use mathlib.Core.Path.{◌∙◌, ap, ap₂}
use mathlib.Core.List.{[]}
use native.Mathlib.Omega.{arith}
use lib.ListN.{get_or}
use Rattle.body.proofs.Writers.{last_some}
use Rattle.plan.specs.Limits.{max_regions}
use Rattle.plan.specs.Layout.{tasks_of, body_of}
use Rattle.steps.specs.State.{state_of}
use Rattle.values.proofs.Plans.{facts}
use Rattle.values.proofs.Resulting.{result_unwritten, result_unpassed, result_copied}
use Rattle.values.proofs.results.result_word.Goals as goal
use Rattle.values.proofs.results.result_word.Goals.{Start, Then-passes-gt0, in_default-via-in-Some+else-passes-gt0, in_default-via-in_default}

region_low : (c : Start) → c.args.g < max_regions
region_low c = omega (arith, c.requires.1, (facts c.args.plan.now c.requires.0).regions_most)

last_low : (c : Then-passes-gt0) → c.in-Some.i < tasks_of c.args.plan.now
last_low c = (last_some (body_of c.args.plan.now) (tasks_of c.args.plan.now) c.args.g c.in-Some.i c.in-Some.ensures).below

pub rank-requires : goal.rank-requires
rank-requires c =
    omega (arith, last_low (goal.at.rank-requires c).Then-passes-gt0, (facts c.args.plan.now c.requires.0).tasks_most)

pub copy_index-requires : goal.copy_index-requires
copy_index-requires c =
    let f = facts c.args.plan.now c.requires.0 in (
      omega (arith, c.rank.ensures, (f.used _ (last_low (goal.at.copy_index-requires c).Then-passes-gt0)).rank_most),
      omega (arith, c.regions.ensures, f.regions_most),
      region_low (goal.at.copy_index-requires c).Start,
    )

pub start-requires : goal.start-requires
start-requires c = region_low (goal.at.start-requires c).Start

pub returns-in-Some : goal.returns-in-Some
returns-in-Some c =
    let B = body_of c.args.plan.now in
    let g = c.args.g in
    ap (λ (x : ℕ). get_or c.args.values.now x 0)
    (c.copy_index.ensures.0 ∙ ap (λ (x : ℕ). x + g) (ap₂ ◌*◌ c.rank.ensures c.regions.ensures))
    ∙ result_copied B g (state_of [] c.args.values.now) c.in-Some.i c.in-Some.ensures (omega (arith, c.passes.ensures, c.if-passes-gt0.true))

pub returns-in_default : goal.returns-in_default
returns-in_default c =
    let B = body_of c.args.plan.now in
    let s = state_of [] c.args.values.now in
    c.start.ensures
    ∙ elim c.in_default.branch [
      | in_default-via-in-Some+else-passes-gt0 w ↦ result_unpassed B c.args.g s (omega (arith, w.passes.ensures, w.if-passes-gt0.false))
      | in_default-via-in_default w ↦ result_unwritten B c.args.g s w.in_default.ensures
    ]
