use mathlib.Core.Bool.{false}
use mathlib.Core.Path.{refl}
use Rattle.finite.specs.Lists.{mem}
use Rattle.masks.proofs.Sets.{entered_none}
use Rattle.prepared.specs.Tables.{target_count, target_in}
use Rattle.engine.proofs.Lowered.{freed_outside}
use Rattle.engine.proofs.Finished.{own_outside}
use Rattle.engine.proofs.finishes.finish_into_set.Goals as goal

pub finish_to-requires : goal.finish_to-requires
unfolding mem
finish_to-requires c =
    let F = c.requires.0 in
    let f = target_in c.args.tables.now c.args.a in
    let C = c.args.counts.now in
    let W = c.args.words.now in (
      F,
      record {
        none = (entered_none W (λ b. false) c.requires.1 (λ b l. refl), refl);
        each = λ k t l e p.
            let b = F.targets.below k l in
            (p.0.size, b, freed_outside f C W t.words.now F.sized.long_counts c.requires.2 k (f k) b e p.0);
      },
      λ t p.
          (p.0.size, F.sized.below, own_outside f C W t.words.now (target_count c.args.tables.now c.args.a) c.args.a F.sized.below p.0 c.requires.3 c.requires.4),
    )
