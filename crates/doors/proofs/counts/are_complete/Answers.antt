use borrow.Author.Rules.{rules}
use Rattle.finite.proofs.Below.{all_none, all_done}
use Rattle.doors.proofs.Counting.{complete_more}
use Rattle.doors.proofs.counts.are_complete.Goals as goal

pub loop-a-init : goal.loop-a-init
loop-a-init c = search (rules, all_none)

pub own_passes-own-requires : goal.own_passes-own-requires
own_passes-own-requires c = c.requires.3 c.loop-a.a c.loop-a-test.true

pub loop-a-preserved : goal.loop-a-preserved
loop-a-preserved c =
    complete_more c.args.counts.now c.args.table.now c.args.passes c.loop-a.a c.loop-a.missing _ _ (search rules)
    (search rules) c.loop-a.invariant c.own_passes-own.ensures c.surplus-missing.ensures

pub returns : goal.returns
returns c = search (rules, all_done)
