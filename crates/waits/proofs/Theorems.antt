-- The statements of specs/Laws.antt, proved.
use Prim.Native.Nat.{ℕ}
use mathlib.Core.Bool.{Bool}
use Rattle.finite.proofs.Tests.{not_both}
use Rattle.unroll.specs.System.{System}
use Rattle.waits.specs.Laws.{Laws}
use Rattle.waits.proofs.Unmet.{own_met, count_most, unmet_exactly}
use Rattle.waits.proofs.Fresh.{finish_fresh, counted, zero_starts}

pub laws : (S : System) (edge : ℕ → ℕ → Bool) → Laws S edge
laws S edge =
    record {
      exactly = λ T s a b la lb. unmet_exactly S edge T s a b la lb;
      own_met = λ fin a h. not_both h (own_met S edge fin a);
      counted = λ T s a t la. counted S edge T s a la t;
      most = count_most S edge;
      finished = finish_fresh S edge;
      starts = λ T s a la. zero_starts S edge T s a la;
    }
