use Rattle.std.proofs.Common.{rules}
use Rattle.form.proofs.Answers.{form_not, form_few, form_counted}
use Rattle.form.proofs.in_form.Goals as goal

pub returns-then-changes-le-MAX_TRANSFERS : goal.returns-then-changes-le-MAX_TRANSFERS
returns-then-changes-le-MAX_TRANSFERS c = search (rules, form_few)

pub returns-else-changes-le-MAX_TRANSFERS : goal.returns-else-changes-le-MAX_TRANSFERS
returns-else-changes-le-MAX_TRANSFERS c = search (rules, form_counted)

pub returns-in-None : goal.returns-in-None
returns-in-None c = search (rules, form_not)
