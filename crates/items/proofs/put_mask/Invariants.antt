use Prim.Native.Nat.{◌<◌}
use Rattle.finite.proofs.Puts.{Left}
use Rattle.items.specs.Codes.{mask_codes}
use Rattle.items.proofs.put_mask.Given as goal

abbrev pub invariant-loop-rest : goal.invariant-loop-rest
invariant-loop-rest l =
    (l.rest < 65536) × Left (mask_codes l.mask l.wrapped l.rank l.region) l.n l.initial.items (mask_codes l.rest l.wrapped l.rank l.region) l.at l.items

abbrev pub decreases-loop-rest : goal.decreases-loop-rest
decreases-loop-rest l = l.rest
