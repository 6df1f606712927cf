use Prim.Native.Nat.{◌≤◌}
use mathlib.Core.Path.{◌≡◌, sym, ◌∙◌}
use mathlib.Core.Bool.{true}
use borrow.Author.Tests.{leb-true, not-false}
use lib.ListN.{length}
use lib.Seq.{length-take-le}
use Rattle.plan.specs.Layout.{plan_words}
use Rattle.graph.specs.Answers.{formed_plan}
use Rattle.writer.proofs.write_plan.Goals as goal
use Rattle.writer.proofs.write_plan.Goals.{Else-not-in_form}

-- the plan is long enough and in form
long : (c : Else-not-in_form) → plan_words ≤ length c.args.plan.now
long c = c.if-plan-lt-PLAN_WORDS.false

form : (c : Else-not-in_form) → formed_plan c.args.plan.now ≡ true
form c = sym c.in_form.ensures ∙ not-false _ c.if-not-in_form.false-raw

pub has_room-requires : goal.has_room-requires
has_room-requires c = (length-take-le plan_words c.args.plan.now (long (goal.at.has_room-requires c).Else-not-in_form), form (goal.at.has_room-requires c).Else-not-in_form)

pub put_text-requires : goal.put_text-requires
put_text-requires c =
    rw c.new.ensures (
      length-take-le plan_words c.args.plan.now (long (goal.at.put_text-requires c).Else-not-in_form),
      form (goal.at.put_text-requires c).Else-not-in_form,
      leb-true _ _ (sym c.has_room.ensures ∙ not-false _ c.if-not-has_room.false-raw),
    )
