-- The words that a reader holds while it reads: those of the plan, with the task that is open as
-- its last.
use Prim.Native.Nat.{ℕ}
use mathlib.Core.List.{List}
use lib.ListN.{replicate}
use Rattle.plan.specs.Layout.{plan_words}
use Rattle.reading.specs.Plan.{words_of}
use Rattle.reading.specs.Reading.{State, closed, first, opened, with_task}

abbrev pub held : State → List ℕ
held first = replicate plan_words 0
held (closed P) = words_of P
held (opened P t) = words_of (with_task P t)
