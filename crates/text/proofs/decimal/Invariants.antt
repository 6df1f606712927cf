use Rattle.std.proofs.Common.{◌≡◌, ◌^◌, ◌<◌, drop}
use Rattle.text.specs.Numbers.{decimal_after}
use Rattle.text.proofs.decimal.Given as goal

abbrev pub invariant-loop-c : goal.invariant-loop-c
invariant-loop-c l = (l.value < 10 ^ l.c-index) × (decimal_after l.value (drop l.c-index l.f) ≡ decimal_after 0 l.f)
