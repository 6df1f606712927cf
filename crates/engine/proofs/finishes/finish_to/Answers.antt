use mathlib.Core.Path.{refl, subst}
use Rattle.engine.proofs.Finished.{own_countable, finished_by, own_freed, own_not}
use Rattle.engine.proofs.finishes.finish_to.Goals as goal

pub count_own-requires : goal.count_own-requires
count_own-requires g c =
    let F = c.requires.0 in
    let k = own_countable c.args.tables.now c.args.counts.now c.args.a F.sized.below _ c.lower_targets.ensures.0 F.sized.long_counts F.small in
    (F.sized.long_tables, F.sized.below, k.0, k.1)

pub returns-then-count_own : goal.returns-then-count_own
returns-then-count_own g c =
    let P = c.args.plan.now in
    let T = c.args.tables.now in
    let C = c.args.counts.now in
    let W = c.args.values.now in
    let a = c.args.a in
    let low = c.lower_targets.ensures.0 in
    let la = c.requires.0.sized.below in (
      finished_by P T C W a _ la c.passes.ensures _ low _ _ _ refl c.count_own.ensures.0 c.write_word.ensures,
      subst (λ xs. g.F.Freed.puts c.args.freed.now xs c.put.new.self) (own_freed P T C W a _ la c.passes.ensures _ low _ c.count_own.ensures.1 c.if-count_own.true)
          (g.met.F.Freed.more _ _ _ _ _ c.lower_targets.ensures.1 c.put.ensures),
    )

pub returns-else-count_own : goal.returns-else-count_own
returns-else-count_own g c =
    let P = c.args.plan.now in
    let T = c.args.tables.now in
    let C = c.args.counts.now in
    let W = c.args.values.now in
    let a = c.args.a in
    let low = c.lower_targets.ensures.0 in
    let la = c.requires.0.sized.below in (
      finished_by P T C W a _ la c.passes.ensures _ low _ _ _ refl c.count_own.ensures.0 c.write_word.ensures,
      subst (λ xs. g.F.Freed.puts c.args.freed.now xs c.lower_targets.new.freed) (own_not P T C W a _ la c.passes.ensures _ low _ c.count_own.ensures.1 c.if-count_own.false)
          c.lower_targets.ensures.1,
    )
