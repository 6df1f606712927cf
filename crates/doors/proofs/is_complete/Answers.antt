use mathlib.Core.Path.{◌∙◌}
use borrow.Author.Rules.{rules}
use Rattle.graph.proofs.Lookup.{codes_few}
use Rattle.doors.proofs.Counting.{complete_own}
use Rattle.doors.proofs.is_complete.Goals as goal

pub are_complete-requires : goal.are_complete-requires
are_complete-requires c =
    let G = c.args.items.now.drawn in
    (search rules, search rules, G.most, codes_few _ _ _ G)

pub returns : goal.returns
returns c = c.are_complete.ensures ∙ complete_own c.args.items.now.drawn c.args.counts.now _ c.passes.ensures
