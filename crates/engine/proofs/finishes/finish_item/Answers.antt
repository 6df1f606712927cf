use mathlib.Core.Path.{refl}
use native.Mathlib.Omega.{arith}
use borrow.Author.Rules.{rules}
use Rattle.finite.proofs.Puts.{added_none}
use Rattle.prepared.specs.Tables.{target_count, target_in}
use Rattle.prepared.specs.Steps.{freed_in}
use Rattle.prepared.proofs.Lowering.{freed_most, freed_length}
use Rattle.engine.proofs.Finished.{list_counted}
use Rattle.engine.proofs.finishes.finish_item.Goals as goal

pub finish_to-word-requires : goal.finish_to-word-requires
finish_to-word-requires c =
    let F = c.requires.0 in
    let f = target_in c.args.tables.now c.args.a in
    let C = c.args.counts.now in (
      F,
      record {
        none = (added_none, refl);
        each = λ k t l e p. (omega (arith, p.0.end, p.0.size, freed_most f k C, F.targets.few, c.requires.1, l), F.targets.below k l);
      },
      λ t p.
          (omega (arith, p.0.end, p.0.size, freed_most f (target_count c.args.tables.now c.args.a) C, F.targets.few, c.requires.1), F.sized.below),
    )

pub overflow_cast-freed : goal.overflow_cast-freed
overflow_cast-freed c =
    omega (
      arith,
      c.finish_to-word.ensures.1.0.end,
      freed_length c.args.plan.now c.args.tables.now c.args.counts.now c.args.values.now c.args.a,
      c.requires.0.targets.few,
    )

pub returns : goal.returns
returns c =
    let P = c.args.plan.now in
    let T = c.args.tables.now in
    let C = c.args.counts.now in
    let W = c.args.values.now in
    let A = c.finish_to-word.ensures.1.0 in (
      c.finish_to-word.ensures.0,
      list_counted (freed_in P T C W c.args.a) c.args.freed.now _ _ _ _ A
          (omega (arith, A.end, freed_length P T C W c.args.a, c.requires.0.targets.few, c.requires.1)) refl (search rules),
    )
