use borrow.Author.Rules.{rules}
use Rattle.finite.proofs.Puts.{added_put, room_start, collect_none, collect_fits, collect_more, collect_done}
use Rattle.lines.specs.Tables.{value_line_at}
use Rattle.lines.proofs.put_values.Goals as goal

pub loop-g-init : goal.loop-g-init
loop-g-init c = search (rules, collect_none)

pub put_value-at-requires : goal.put_value-at-requires
put_value-at-requires c =
    (search rules, collect_fits (value_line_at c.args.words.now) 0 _ _ _ _ _ (room_start c.requires.1) c.loop-g.invariant.1 c.loop-g-test.true)

pub loop-g-preserved : goal.loop-g-preserved
loop-g-preserved c = search (rules, collect_more)

pub returns : goal.returns
returns c = added_put c.requires.1 (search (rules, collect_done))
