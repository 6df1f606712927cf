use mathlib.Core.Path.{◌∙◌, ap}
use mathlib.Core.Bool.{Bool, ◌&&◌}
use borrow.Author.Rules.{rules}
use lib.ListN.{length}
use Rattle.graph.proofs.Lookup.{passes_most, codes_few}
use Rattle.doors.proofs.Counting.{formed_own, numbers_to}
use Rattle.doors.proofs.is_formed.Goals as goal

pub are_formed-requires : goal.are_formed-requires
are_formed-requires c =
    let G = c.args.items.now.drawn in
    (search rules, search rules, rw c.passes.ensures (passes_most _ _ _ G), G.most, codes_few _ _ _ G)

pub returns : goal.returns
returns c =
    let n = length c.args.items.now.codes.now in
    c.are_formed.ensures
    ∙ ap (λ (b : Bool). b && numbers_to c.args.counts.now n n) (formed_own c.args.items.now.drawn c.args.counts.now _ c.passes.ensures)
