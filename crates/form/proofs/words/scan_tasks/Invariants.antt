use Rattle.form.proofs.Scanning.{Scanning}
use Rattle.form.proofs.words.scan_tasks.Given as goal

abbrev pub invariant-loop-i : goal.invariant-loop-i
invariant-loop-i l = Scanning l.plan l.i l.changes l.last
