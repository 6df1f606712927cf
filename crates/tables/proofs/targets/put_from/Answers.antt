use native.Mathlib.Omega.{arith}
use Rattle.tables.proofs.Targeted.{from_fits, from_put}
use Rattle.tables.proofs.targets.put_from.Goals as goal

pub put_row-requires : goal.put_row-requires
put_row-requires c =
    let G = c.args.items.now.drawn in
    (from_fits _ _ _ _ c.mark_row.ensures (omega (arith, G.most)) _ _ G.count c.requires.1, G.most, c.requires.2)

pub returns : goal.returns
returns c =
    let G = c.args.items.now.drawn in
    from_put _ _ _ _ c.mark_row.ensures (omega (arith, G.most)) _ _ _ _ _ _ G.count c.put_row.ensures
