use Rattle.std.proofs.Common.{◌≡◌}
use mathlib.Core.Bool.{and-false}
use Rattle.text.specs.Records.{split, pair, two_of}
use Rattle.text.proofs.SplitLaws.{field_last, field_more}
use Rattle.text.proofs.two_numbers.Goals as goal
use Rattle.text.proofs.two_numbers.Goals.{After-one_number-y}

-- what the definition says once the numbers are read
known : (c : After-one_number-y) → two_of (split 9 c.args.t.now) ≡ pair c.number_of-x.result c.one_number-y.result
known c =
    let field = c.first_field-field in
    let t = c.args.t.now in
    rw (field_more t _ field.ensures c.if-t-n.false, c.number_of-x.ensures, c.one_number-y.ensures, c.behind.ensures)

pub returns-then-t-n : goal.returns-then-t-n
returns-then-t-n c =
    let t = c.args.t.now in
    rw (field_last t _ c.first_field-field.ensures c.if-t-n.true, and-false)

pub returns-then-is_sound : goal.returns-then-is_sound
returns-then-is_sound c =
    rw (known (goal.at.returns-then-is_sound c).After-one_number-y, ← c.is_sound.ensures, ← c.is_sound-2.ensures, c.if-is_sound.true)

pub returns-else-is_sound : goal.returns-else-is_sound
returns-else-is_sound c =
    rw (known (goal.at.returns-else-is_sound c).After-one_number-y, ← c.is_sound.ensures, ← c.is_sound-2.ensures, c.if-is_sound.false)
