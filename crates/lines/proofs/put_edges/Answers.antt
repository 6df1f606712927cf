use borrow.Author.Rules.{rules}
use Rattle.finite.proofs.Puts.{added_put, room_start, collect_none, collect_fits, collect_more, collect_done}
use Rattle.lines.specs.Tables.{edge_line_at}
use Rattle.lines.proofs.put_edges.Goals as goal

pub loop-k-init : goal.loop-k-init
loop-k-init c = search (rules, collect_none)

pub put_edge-at-requires : goal.put_edge-at-requires
put_edge-at-requires c =
    (search rules, collect_fits (edge_line_at c.args.list.now) 0 _ _ _ _ _ (room_start c.requires.1) c.loop-k.invariant.1 c.loop-k-test.true)

pub loop-k-preserved : goal.loop-k-preserved
loop-k-preserved c = search (rules, collect_more)

pub returns : goal.returns
returns c = added_put c.requires.1 (search (rules, collect_done))
