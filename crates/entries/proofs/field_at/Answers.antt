use Rattle.std.proofs.Common.{sym, ◌∙◌}
use Rattle.entries.proofs.Numbers.{field_good}
use Rattle.entries.proofs.field_at.Goals as goal

pub returns : goal.returns
returns c =
    let a = c.args in
    field_good a.s.now a.at a.b c.requires.1 _ _ c.in_ok-value.ensures (sym c.is_at.ensures ∙ c.if-not-is_at.false)
