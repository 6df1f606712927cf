use Prim.Native.Nat.{◌+◌, ◌*◌, ◌≤◌}
use mathlib.Core.Path.{refl, ◌∙◌, ap}
use native.Mathlib.Omega.{arith}
use borrow.Author.Rules.{rules}
use lib.ListN.{length}
use Rattle.plan.specs.Layout.{body_of}
use Rattle.prepared.specs.Tables.{list_words}
use Rattle.tables.specs.Rows.{places_of, rows_before}
use Rattle.tables.proofs.Padded.{padded_added, length_padded}
use Rattle.tables.proofs.Listed.{row_lent, row_more, length_rows, rows_none, rows_more, rows_done}
use Rattle.tables.proofs.listing.list_places.Goals as goal

pub loop-a-init : goal.loop-a-init
loop-a-init c =
    (search rules, rows_none _ list_words c.args.table.now _ c.requires (c.fill.ensures.after (λ y e. e)))

pub loop-a-preserved : goal.loop-a-preserved
loop-a-preserved c =
    let l = c.loop-a in
    let f = places_of (body_of c.args.items.now.plan.now) c.args.write in
    let room : 9 * l.a + 9 ≤ list_words = omega (arith, c.loop-a-test.true, c.args.items.now.drawn.most) in
    let items = c.list_item-count.ensures in
    let few : length (f l.a) ≤ 8 = omega (arith, items.0.end, items.1) in
    let row = padded_added 8 (f l.a) _ _ _ few (row_lent list_words (rows_before f l.a) (f l.a) l.table (9 * l.a) (9 * l.a + 8) l.invariant.1 (length_rows f l.a) refl room) items.0 in
    let more = rows_more f list_words l.a _ (row_more list_words (rows_before f l.a) (f l.a) l.table (9 * l.a) (9 * l.a + 8) l.invariant.1 (length_rows f l.a) refl room c.list_item-count.new.row c.list_item-count.result (9 * l.a + 8) row (omega (arith, items.0.end)) refl) in
    (ap length more ∙ length_padded list_words _, more)

pub returns : goal.returns
returns c =
    let l = c.loop-a in
    rows_done _ (body_of c.args.items.now.plan.now) _ l.a _ l.invariant.1 c.args.items.now.drawn.count (search rules) (search rules)
