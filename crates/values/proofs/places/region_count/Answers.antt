use native.Mathlib.Omega.{arith}
use Rattle.values.proofs.Plans.{facts}
use Rattle.values.proofs.places.region_count.Goals as goal

pub returns : goal.returns
returns c =
    let e = c.regions.ensures in
    (e, omega (arith, e, (facts _ c.requires).regions_most))
