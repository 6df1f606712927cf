use borrow.Author.Rules.{rules}
use Rattle.finite.proofs.Puts.{added_put, room_start, collect_none, collect_fits, collect_more, collect_done}
use Rattle.lines.specs.Tables.{item_line_at}
use Rattle.lines.proofs.put_items.Goals as goal

pub loop-a-init : goal.loop-a-init
loop-a-init c = search (rules, collect_none)

pub put_item-at-requires : goal.put_item-at-requires
put_item-at-requires c =
    (search rules, collect_fits (item_line_at c.args.table.now) 0 _ _ _ _ _ (room_start c.requires.1) c.loop-a.invariant.1 c.loop-a-test.true)

pub loop-a-preserved : goal.loop-a-preserved
loop-a-preserved c = search (rules, collect_more)

pub returns : goal.returns
returns c = added_put c.requires.1 (search (rules, collect_done))
