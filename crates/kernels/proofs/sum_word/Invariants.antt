use Rattle.std.proofs.Common.{◌≡◌, take}
use Rattle.kernels.specs.Kernels.{sum_word}
use Rattle.kernels.proofs.sum_word.Given as goal

abbrev pub invariant-loop-i : goal.invariant-loop-i
invariant-loop-i l = l.sum ≡ sum_word l.c (take l.i l.reads)
