use mathlib.Core.Path.{refl}
use native.Mathlib.Omega.{arith}
use Rattle.report.proofs.Reported.{report_short, report_put}
use Rattle.report.proofs.report.Goals as goal

pub returns-then-out-lt-REPORT_BYTES : goal.returns-then-out-lt-REPORT_BYTES
returns-then-out-lt-REPORT_BYTES c = rw c.from.ensures (report_short c.args.text.now c.args.out.now c.if-out-lt-REPORT_BYTES.true)

pub returns : goal.returns
returns c =
    report_put c.args.text.now c.args.out.now _ _ _ (omega (arith, c.if-out-lt-REPORT_BYTES.false)) refl c.put_lines.ensures
