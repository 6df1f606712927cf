use Prim.Native.Nat.{◌*◌}
use mathlib.Core.Path.{ap₂, ◌∙◌}
use native.Mathlib.Omega.{arith}
use Rattle.values.proofs.Finding.{copies_start, start_most}
use Rattle.values.proofs.places.first_copy.Goals as goal

pub overflow_mul-result : goal.overflow_mul-result
overflow_mul-result c = omega (arith, start_most _ _ _ c.requires, ap₂ ◌*◌ c.item_rank.ensures c.regions.ensures)

pub returns : goal.returns
returns c =
    let F = c.requires in
    let e = ap₂ ◌*◌ c.item_rank.ensures c.regions.ensures in
    (e ∙ copies_start _ _ _ F, omega (arith, e, start_most _ _ _ F))
