use Rattle.std.proofs.Common.{◌≡◌, true}
use Rattle.finite.specs.Below.{all_below}
use Rattle.form.proofs.Rest.{rest_at}
use Rattle.form.proofs.words.rest_ok.Given as goal

abbrev pub invariant-loop-a : goal.invariant-loop-a
invariant-loop-a l = (true ≡ all_below l.a (rest_at l.plan l.i))
