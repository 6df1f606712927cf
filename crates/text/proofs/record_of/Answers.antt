use Rattle.text.proofs.SplitLaws.{field_last, field_more}
use Rattle.text.proofs.record_of.Goals as goal

pub returns-then-line-n : goal.returns-then-line-n
returns-then-line-n c =
    let l = c.args.line.now in
    rw (field_last l _ c.first_field-field.ensures c.if-line-n.true, c.without_fields.ensures, c.keyword_of-word.ensures)

pub returns : goal.returns
returns c =
    let l = c.args.line.now in
    rw (field_more l _ c.first_field-field.ensures c.if-line-n.false, c.with_fields.ensures, c.keyword_of-word.ensures, c.behind.ensures)
