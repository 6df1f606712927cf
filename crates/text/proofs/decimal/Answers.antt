use Rattle.std.proofs.Common.{arith, rules}
use Rattle.text.proofs.NumberLaws.{digit_at, TenTimes, ten_times, decimal_step}
use Rattle.text.proofs.decimal.Goals as goal
use Rattle.text.proofs.decimal.Goals.{After-from}

-- a digit is read
more : (c : After-from) → TenTimes c.loop-c.c-index c.loop-c.value c.from.result
more c =
    let d = digit_at c.args.f.now c.loop-c.c-index c.loop-c-test.true c.requires.1 in
    ten_times c.loop-c.c-index c.loop-c.value c.from.result (search rules) c.loop-c.invariant.0 (omega arith)

pub overflow_mul-value : goal.overflow_mul-value
overflow_mul-value c =
    omega (arith, (ten_times c.loop-c.c-index c.loop-c.value 0 (search rules) c.loop-c.invariant.0 (omega arith)).fits)

pub overflow_sub-c : goal.overflow_sub-c
overflow_sub-c c =
    omega (arith, digit_at c.args.f.now c.loop-c.c-index c.loop-c-test.true c.requires.1)

pub overflow_add-value : goal.overflow_add-value
overflow_add-value c = omega (arith, (more (goal.at.overflow_add-value c).After-from).fits)

pub loop-c-preserved : goal.loop-c-preserved
loop-c-preserved c =
    ((more (goal.at.loop-c-preserved c).After-from).more, cc (decimal_step c.args.f.now c.loop-c.c-index c.loop-c.value c.loop-c-test.true))
