use borrow.Author.Rules.{rules}
use Rattle.finite.proofs.Puts.{collect_none, collect_fits, collect_more}
use Rattle.writer.specs.Parts.{start_line}
use Rattle.writer.proofs.lines.put_starts.Goals as goal

pub loop-g-init : goal.loop-g-init
loop-g-init c = search (rules, collect_none)

pub put_start-end-requires : goal.put_start-end-requires
put_start-end-requires c =
    (search rules, collect_fits (start_line c.args.plan.now) _ _ _ _ _ _ c.requires.1 c.loop-g.invariant (search rules))

pub loop-g-preserved : goal.loop-g-preserved
loop-g-preserved c = search (rules, collect_more)
