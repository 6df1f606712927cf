use Rattle.std.proofs.Common.{◌∙◌, sym}
use Rattle.kernels.proofs.Laws.{is_kernel_most}
use Rattle.reader.proofs.Ends.{kernel_number}
use Rattle.reader.proofs.kernel.Goals as goal

pub returns-then-is_kernel : goal.returns-then-is_kernel
returns-then-is_kernel c =
    kernel_number c.args.x c.value.result c.in_ok-v.v _ c.value.ensures c.in_ok-v.was (sym c.if-is_kernel.true ∙ (c.is_kernel.ensures ∙ is_kernel_most _))

pub returns : goal.returns
returns c =
    kernel_number c.args.x c.value.result c.in_ok-v.v _ c.value.ensures c.in_ok-v.was (sym c.if-is_kernel.false ∙ (c.is_kernel.ensures ∙ is_kernel_most _))
