use Prim.Native.Nat.{ℕ, ◌+◌}
use mathlib.Core.Path.{◌∙◌, ap}
use native.Mathlib.Omega.{arith}
use borrow.Author.Rules.{rules}
use Rattle.plan.specs.Sizes.{slot_of}
use Rattle.values.proofs.Finding.{number_most, kind_most}
use Rattle.values.proofs.Writing.{places_written}
use Rattle.values.proofs.places.write_places.Goals as goal

pub slot_of-requires : goal.slot_of-requires
slot_of-requires c = let F = c.requires.0 in (omega (arith, c.item_kind-kind.ensures, kind_most _ _ _ F), number_most _ _ _ F)

pub returns : goal.returns
returns c =
    let k = c.item_kind-kind.ensures in
    let f = c.first_copy-first in
    let r = c.region_count-regions in
    let w = c.write_copies in
    places_written _ _ _ c.requires.0 c.args.word c.args.values.now f.result (f.result + r.result) _ c.put_if.new.items w.new.copies
    (search rules) f.ensures.0 f.ensures.1 (ap (λ (x : ℕ). f.result + x) r.ensures.0)
    (c.slot_of.ensures.0 ∙ ap (λ (x : ℕ). slot_of x c.args.a) k) (rw k at c.put_if.ensures) w.ensures
