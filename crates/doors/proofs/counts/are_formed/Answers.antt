use mathlib.Core.Path.{refl}
use borrow.Author.Rules.{rules}
use Rattle.finite.proofs.Tests.{and_parts}
use Rattle.finite.proofs.Below.{all_none, all_done}
use Rattle.doors.proofs.Counting.{formed_more, numbers_more}
use Rattle.doors.proofs.counts.are_formed.Goals as goal

pub loop-a-init : goal.loop-a-init
loop-a-init c = search (rules, all_none)

pub own_passes-own-requires : goal.own_passes-own-requires
own_passes-own-requires c = c.requires.4 c.loop-a.a c.loop-a-test.true

pub loop-a-preserved : goal.loop-a-preserved
loop-a-preserved c = (
  formed_more c.args.counts.now c.args.table.now c.args.passes c.loop-a.a c.loop-a.apart c.loop-a.beyond _ _ _ c.requires.2 (search rules)
      (search rules) c.loop-a.invariant.0 c.own_passes-own.ensures c.surplus-apart.ensures c.surplus.ensures,
  numbers_more c.args.counts.now _ c.args.n c.loop-a.a c.loop-a.above _ c.requires.3 refl
      (search rules) c.loop-a.invariant.1 c.surplus-in-loop-a.ensures,
)

pub returns : goal.returns
returns c =
    let e = c.loop-a in
    and_parts (all_done _ _ _ _ e.invariant.0 (search rules) (search rules)) (all_done _ _ _ _ e.invariant.1 (search rules) (search rules))
