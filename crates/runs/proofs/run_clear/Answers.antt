use mathlib.Core.Path.{sym, ◌∙◌}
use Rattle.runs.proofs.Taking.{opened_as, ran_as}
use Rattle.runs.proofs.Opened.{opened_is, from_opening}
use Rattle.runs.proofs.run_clear.Goals as goal

pub run_opened-steps-requires : goal.run_opened-steps-requires
run_opened-steps-requires c =
    let e = sym (c.new-plan.ensures ∙ c.words.ensures.0) in (
      e,
      opened_as e _ (opened_is _ _ _ c.args.items.now.drawn c.args.counts.now c.args.values.now _ _ c.requires.1 c.requires.2 c.open_clear.ensures),
    )

pub returns : goal.returns
returns c =
    let r = ran_as (c.new-plan.ensures ∙ c.words.ensures.0) _ _ _ c.run_opened-steps.ensures in (
      c.list_edges-edges.ensures,
      from_opening _ _ _ c.args.items.now.drawn c.args.counts.now c.args.values.now _ _ c.requires.1 c.requires.2
          c.open_clear.ensures _ _ r.0,
      r.1,
    )
