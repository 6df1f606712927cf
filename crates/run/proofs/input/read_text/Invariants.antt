use Rattle.std.proofs.Common.{◌≡◌, ◌-◌, ◌≤◌, length, take}
use Rattle.std.specs.Io.KnownBytes.{Consumes}
use Rattle.run.proofs.input.read_text.Given as goal

-- what was read is what the input gave
abbrev pub invariant-loop-done : goal.invariant-loop-done
invariant-loop-done g l =
    (length l.text ≡ l.most) × (l.done ≤ l.most)
    × Consumes (g.R.Read.remaining l.initial.input) (g.R.Read.remaining l.input) (take l.done l.text)

abbrev pub decreases-loop-done : goal.decreases-loop-done
decreases-loop-done g l = l.most - l.done
