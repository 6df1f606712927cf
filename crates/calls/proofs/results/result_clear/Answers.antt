use mathlib.Core.Path.{refl}
use native.Mathlib.Omega.{arith}
use Rattle.calls.proofs.Behind.{graph_formed, result_beyond, result_early, result_made}
use Rattle.calls.proofs.results.result_clear.Goals as goal

pub returns-then-regions-region : goal.returns-then-regions-region
returns-then-regions-region c =
    result_beyond _ c.args.counts.now _ _ c.args.items.now.drawn c.requires.0 c.args.values.now c.requires.1 _ (omega (arith, c.if-regions-region.true, c.regions.ensures))

pub returns-then-not-is_complete : goal.returns-then-not-is_complete
returns-then-not-is_complete c =
    result_early _ c.args.counts.now _ _ c.args.items.now.drawn c.requires.0 c.args.values.now c.requires.1 _
    (omega (arith, c.if-regions-region.false, c.regions.ensures))
    _ c.is_complete.ensures c.if-not-is_complete.true-raw

pub result_word-requires : goal.result_word-requires
result_word-requires c =
    (graph_formed _ _ _ c.args.items.now.drawn, omega (arith, c.if-regions-region.false, c.regions.ensures), c.requires.1)

pub returns : goal.returns
returns c =
    result_made _ c.args.counts.now _ _ c.args.items.now.drawn c.requires.0 c.args.values.now c.requires.1 _
    (omega (arith, c.if-regions-region.false, c.regions.ensures)) _
    c.is_complete.ensures c.if-not-is_complete.false-raw _ _ refl c.result_word.ensures
