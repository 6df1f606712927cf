use Rattle.std.proofs.Common.{sym, ap, ◌∙◌}
use Rattle.kernels.specs.Kernels.{kernel_by}
use Rattle.form.specs.Scan.{takes_any}
use Rattle.form.proofs.Scanning.{suits_any}
use Rattle.form.proofs.words.reads_ok.Goals as goal

pub returns-then-takes_any : goal.returns-then-takes_any
returns-then-takes_any c =
    c.if-takes_any.true ∙ suits_any _ _ (ap (λ k. takes_any (kernel_by k)) (sym c.kernel-kernel.ensures) ∙ sym c.takes_any.ensures ∙ c.if-takes_any.true)
