-- Between two lines the reader is on the text that was lent, and stands where the lines so far lead.
use Rattle.std.proofs.Common.{◌≡◌, ◌-◌, length}
use Rattle.reader.specs.Steps.{phase_number}
use Rattle.reader.proofs.Loops.{Stands}
use Rattle.reader.proofs.read_lines.Given as goal

abbrev pub invariant-loop-reader : goal.invariant-loop-reader
invariant-loop-reader l = (l.reader.text.now ≡ l.text) × Stands l.text l.reader.at (phase_number l.phase) l.line l.named l.words

abbrev pub decreases-loop-reader : goal.decreases-loop-reader
decreases-loop-reader l = length l.text - l.reader.at
