use Rattle.std.proofs.Common.{◌+◌, ◌<◌, get_or, ◌∙◌, arith}
use Rattle.entries.proofs.Heads.{wrapped_digit}
use Rattle.entries.proofs.Runs.{read_next, read_fits}
use Rattle.entries.proofs.digits_at.Goals as goal

pub overflow_mul-value : goal.overflow_mul-value
overflow_mul-value c =
    let a = c.args in
    omega (arith, (read_fits a.s.now a.at c.loop-size.invariant 0 (omega arith) (omega arith)).fits)

pub overflow_add-value : goal.overflow_add-value
overflow_add-value c =
    let a = c.args in
    omega (arith, (read_fits a.s.now a.at c.loop-size.invariant c.wrapping_sub_u64-digit.result (omega arith) (omega arith)).fits)

pub loop-size-preserved : goal.loop-size-preserved
loop-size-preserved c =
    let a = c.args in
    let i = a.at + c.loop-size.size in
    let b : get_or a.s.now i 0 < 256 = omega (arith, c.type_inv.s i) in
    let d = wrapped_digit (get_or a.s.now i 0) c.wrapping_sub_u64-digit.result b (omega arith) (c.wrapping_sub_u64-digit.ensures.value ∙ c.from.ensures) c.if-digit-gt9.false in
    read_next a.s.now a.at c.loop-size.size c.wrapping_sub_u64-digit.result c.loop-size.invariant (omega arith) d.0 d.1
