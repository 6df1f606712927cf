use mathlib.Core.Path.{◌∙◌}
use borrow.Author.Rules.{rules}
use Rattle.graph.proofs.Lookup.{code_rank_lem}
use Rattle.walk.proofs.RowMarks.{touches_places, passes_places, copies_onwards, copies_back}
use Rattle.walk.proofs.rows.mark_copies.Goals as goal

pub mark_run-requires : goal.mark_run-requires
mark_run-requires c = (search rules, touches_places _ _ _ c.note_item.ensures, search rules)

pub mark_run-requires-then-back : goal.mark_run-requires-then-back
mark_run-requires-then-back c =
    let G = c.args.items.now.drawn in
    let passed = c.mark_run.ensures in
    (search rules, passes_places _ _ _ _ _ _ _ _ _ (touches_places _ _ _ c.note_item.ensures) passed, search rules)

pub returns-then-back : goal.returns-then-back
returns-then-back c =
    let G = c.args.items.now.drawn in
    copies_back _ _ _ _ G.count (c.item_rank-q.ensures ∙ code_rank_lem _ _ _ G _ c.requires.0 _ c.from.ensures)
    _ _ _ _ _ _ c.note_item.ensures _ c.requires.0 c.if-back.true c.mark_run.ensures c.mark_run-then-back.ensures

pub mark_run-requires-2 : goal.mark_run-requires-2
mark_run-requires-2 c = (search rules, touches_places _ _ _ c.note_item.ensures, search rules)

pub mark_run-requires-3 : goal.mark_run-requires-3
mark_run-requires-3 c =
    let G = c.args.items.now.drawn in
    let passed = c.mark_run-2.ensures in
    (search rules, passes_places _ _ _ _ _ _ _ _ _ (touches_places _ _ _ c.note_item.ensures) passed, search rules)

pub returns : goal.returns
returns c =
    let G = c.args.items.now.drawn in
    copies_onwards _ _ _ _ G.count (c.item_rank-q.ensures ∙ code_rank_lem _ _ _ G _ c.requires.0 _ c.from.ensures)
    _ _ _ _ _ _ c.note_item.ensures _ c.requires.0 c.if-back.false c.mark_run-2.ensures c.mark_run-3.ensures
