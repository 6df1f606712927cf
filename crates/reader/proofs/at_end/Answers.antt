use Rattle.std.proofs.Common.{ap}
use Rattle.reader.specs.Steps.{phase_number}
use Rattle.reader.proofs.Ends.{end_accepted, end_many}
use Rattle.reader.proofs.at_end.Goals as goal

pub returns-then-not-in_form : goal.returns-then-not-in_form
returns-then-not-in_form c =
    λ line. rw c.in-NoTaskOpen.is
    (end_many line _ _ c.in_form.ensures (c.requires.1 (ap phase_number c.in-NoTaskOpen.is)) c.if-words-eq0.false c.if-not-in_form.true)

pub returns : goal.returns
returns c =
    λ line. rw c.in-NoTaskOpen.is
    (end_accepted line _ _ c.in_form.ensures (c.requires.1 (ap phase_number c.in-NoTaskOpen.is)) c.if-words-eq0.false c.if-not-in_form.false)
