use Rattle.std.proofs.Common.{ap, ◌∙◌, Some}
use Rattle.entries.specs.Said.{said}
use Rattle.checker.proofs.Trying.{line_tried, line_unread}
use Rattle.checker.proofs.check_entry.Goals as goal

pub returns-in-Start : goal.returns-in-Start
returns-in-Start c =
    line_tried _ _ _ _ _ _ _ _ (ap said (c.in-Some.is ∙ ap Some c.in-Start.is)) c.try_start.ensures c.if_holds.ensures

pub returns-in-Finish : goal.returns-in-Finish
returns-in-Finish c =
    line_tried _ _ _ _ _ _ _ _ (ap said (c.in-Some.is ∙ ap Some c.in-Finish.is)) c.try_finish.ensures c.if_holds-in-Finish.ensures

pub returns-in_default : goal.returns-in_default
returns-in_default c = line_unread _ _ _ _ (ap said c.in_default.is)
