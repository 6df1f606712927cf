use Rattle.std.proofs.Common.{◌≡◌, None, sym, ◌∙◌}
use Rattle.text.specs.Records.{split, triple, three_of}
use Rattle.text.proofs.SplitLaws.{field_last, field_more}
use Rattle.text.proofs.three_numbers.Goals as goal
use Rattle.text.proofs.three_numbers.Goals.{After-two_numbers}

-- what the definition says once the numbers are read
known : (c : After-two_numbers) → three_of (split 9 c.args.t.now) ≡ triple c.number_of-x.result c.two_numbers.result
known c =
    let field = c.first_field-field in
    let t = c.args.t.now in
    rw (field_more t _ field.ensures c.if-t-n.false, c.number_of-x.ensures, c.two_numbers.ensures, c.behind.ensures)

pub returns-then-t-n : goal.returns-then-t-n
returns-then-t-n c =
    let t = c.args.t.now in
    rw (field_last t _ c.first_field-field.ensures c.if-t-n.true)

pub returns-in_err-y : goal.returns-in_err-y
returns-in_err-y c =
    let k : three_of (split 9 c.args.t.now) ≡ triple c.number_of-x.result c.two_numbers.result = known (goal.at.returns-in_err-y c).After-two_numbers in
    let e : three_of (split 9 c.args.t.now) ≡ None = rw (k, c.in_err-y.was) in
    c.from_residual.ensures ∙ sym e

pub returns-then-is_sound : goal.returns-then-is_sound
returns-then-is_sound c =
    rw (known (goal.at.returns-then-is_sound c).After-two_numbers, c.in_ok-y.was, ← c.is_sound.ensures, c.if-is_sound.true)

pub returns-else-is_sound : goal.returns-else-is_sound
returns-else-is_sound c =
    rw (known (goal.at.returns-else-is_sound c).After-two_numbers, c.in_ok-y.was, ← c.is_sound.ensures, c.if-is_sound.false)
