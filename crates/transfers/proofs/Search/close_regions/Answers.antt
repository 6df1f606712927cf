use mathlib.Core.Path.{◌∙◌}
use borrow.Author.Rules.{rules}
use Rattle.transfers.proofs.Closing.{closed_size, region_few, closed_more}
use Rattle.transfers.proofs.Search.close_regions.Goals as goal

pub close_region-requires : goal.close_region-requires
close_region-requires c = search (rules, region_few, closed_size)

pub loop-closed-preserved : goal.loop-closed-preserved
loop-closed-preserved c =
    let i = c.loop-closed.invariant in (
      search rules,
      search rules,
      search rules,
      closed_more _ _ _ _ _ _ _ _ _ _ _ c.requires.0 (i.1 ∙ c.requires.1) (i.2 ∙ c.requires.2) c.regions-regions.ensures c.loop-closed-test.true i.3 c.close_region.ensures.closed.0
          c.close_region.ensures.closed.1 c.close_region.ensures.closed.2,
    )
