use Rattle.graph.proofs.Lookup.{codes_few, own_passes_lem}
use Rattle.graph.proofs.items.Items.passes.Goals as goal

pub own_passes-requires : goal.own_passes-requires
own_passes-requires c = codes_few _ _ _ c.args.self.now.drawn c.args.a c.requires

pub returns : goal.returns
returns c =
    own_passes_lem _ _ _ c.args.self.now.drawn _ c.passes.ensures c.args.a c.requires _ c.own_passes.ensures
