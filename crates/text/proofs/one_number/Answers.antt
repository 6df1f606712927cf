use Rattle.std.proofs.Common.{◌+◌, length, drop}
use Rattle.text.proofs.SplitLaws.{field_last, field_more, one_more}
use Rattle.text.proofs.one_number.Goals as goal

pub returns-then-field-t : goal.returns-then-field-t
returns-then-field-t c =
    let f = c.first_field-field.result.now in
    let t = c.args.t.now in
    rw (field_more t f c.first_field-field.ensures c.if-field-t.true, one_more 9 f (drop (length f + 1) t))

pub returns : goal.returns
returns c =
    let t = c.args.t.now in
    rw (field_last t _ c.first_field-field.ensures c.if-field-t.false) c.number_of.ensures
